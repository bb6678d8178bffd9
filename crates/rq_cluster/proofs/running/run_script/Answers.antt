use Rattle.std.proofs.Common.{rules, Err, ap, ◌++◌, []}
use Rattle.rq_outside.specs.Counts.{Rose}
use Rattle.rq_script.specs.Cluster.{first_cluster}
use Rattle.rq_script.specs.Lines.{lines_of}
use Rattle.rq_cluster.specs.LastLines.{stopped_line, read_fault}
use Rattle.rq_cluster.specs.Outcome.{Ends, BrokenOff, Wrote}
use Rattle.rq_cluster.specs.Feed.{StopsKept, IsAfter}
use Rattle.rq_cluster.specs.Recovery.{Holds}
use Rattle.rq_cluster.proofs.Finishing.{finished, map_took, cut_sink, cut_memory, whole_runs, wider, after_took}
use Rattle.rq_cluster.proofs.Refining.{first_refines, first_ready}
use Rattle.rq_cluster.proofs.running.run_script.Goals as goal

pub read_all-requires-clause-ready : goal.read_all-requires-clause-ready
read_all-requires-clause-ready g c =
    let ready = first_ready g.D.Disk.told g.D.Disk.means c.args.disks.now.items c.args.progress.now.world c.requires.new c.requires.host in
    search (rules, ready)

pub returns-in-Ok-clause-wrote : goal.returns-in-Ok-clause-wrote
returns-in-Ok-clause-wrote g c tells refined =
    let told = g.K.Sink.told in
    let taken = g.K.Sink.taken in
    let start = c.args.disks.now.items in
    let bytes = g.S.Source.left c.args.source.now in
    let left = g.S.Source.left c.read_all.new.source in
    let F = Rose (g.S.Source.faults c.args.source.now) (g.S.Source.faults c.read_all.new.source) in
    let K = Holds g.D.Disk.told g.D.Disk.means start c.end_script.new.disks.items in
    let t1 = taken c.read_all.new.sink in
    let t2 = taken c.end_script.new.sink in
    let r = c.end_script.result in
    let fresh = c.args.progress.now in
    let s0 : IsAfter g.D.Disk.told g.D.Disk.means start start [] [] fresh =
    (first_cluster, c.requires.after, first_refines g.D.Disk.told g.D.Disk.means start fresh.world c.requires.new c.requires.host refined c.requires.asks) in
    after_took told (taken c.args.sink.now) t1 t2 (λ out. IsAfter g.D.Disk.told g.D.Disk.means start c.read_all.new.disks.items bytes out c.read_all.new.progress) (λ out. Wrote bytes left F K r out)
    (c.in-Ok.ensures.ok tells start [] [] s0)
    (λ out s. map_took told t1 t2 (λ more. Wrote bytes [] ⊥ K r (out ++ more)) (λ more. Wrote bytes left F K r (out ++ more)) (λ more w. wider bytes left F K r (out ++ more) w) (c.end_script.ensures.wrote start bytes out s))

pub returns-in-Err-Outside-clause-wrote : goal.returns-in-Err-Outside-clause-wrote
returns-in-Err-Outside-clause-wrote g c tells refined =
    let told = g.K.Sink.told in
    let taken = g.K.Sink.taken in
    let start = c.args.disks.now.items in
    let bytes = g.S.Source.left c.args.source.now in
    let left = g.S.Source.left c.read_all.new.source in
    let F = Rose (g.S.Source.faults c.args.source.now) (g.S.Source.faults c.read_all.new.source) in
    let K = Holds g.D.Disk.told g.D.Disk.means start c.read_all.new.disks.items in
    let n = c.read_all.new.progress.number in
    let fresh = c.args.progress.now in
    let s0 : IsAfter g.D.Disk.told g.D.Disk.means start start [] [] fresh =
    (first_cluster, c.requires.after, first_refines g.D.Disk.told g.D.Disk.means start fresh.world c.requires.new c.requires.host refined c.requires.asks) in
    finished bytes left F K told (taken c.args.sink.now) (taken c.read_all.new.sink) (taken c.stop_at.new.sink) 3 (stopped_line n) [] c.stop_at.result
    (map_took told (taken c.args.sink.now) (taken c.read_all.new.sink) (λ out. StopsKept K n (lines_of bytes) out) (λ out. Ends bytes left F K 3 out (stopped_line n)) (λ out a. Ends.outside n out a.0 a.1 a.2)
    (c.in-Err-Outside.ensures.outside (ap Err c.in-Err-Outside.field-0-is) tells start [] [] s0))
    c.stop_at.ensures.wrote

pub returns-in-Err-Source-clause-wrote : goal.returns-in-Err-Source-clause-wrote
returns-in-Err-Source-clause-wrote g c tells refined =
    let told = g.K.Sink.told in
    let taken = g.K.Sink.taken in
    let start = c.args.disks.now.items in
    let bytes = g.S.Source.left c.args.source.now in
    let left = g.S.Source.left c.read_all.new.source in
    let F = Rose (g.S.Source.faults c.args.source.now) (g.S.Source.faults c.read_all.new.source) in
    let pairs = c.read_all.new.disks.items in
    let K = Holds g.D.Disk.told g.D.Disk.means start pairs in
    let sh = c.read_all.new.progress in
    let f = c.in-Err-Source.ensures.fault (ap Err c.in-Err-Source.field-0-is) tells in
    let fresh = c.args.progress.now in
    let s0 : IsAfter g.D.Disk.told g.D.Disk.means start start [] [] fresh =
    (first_cluster, c.requires.after, first_refines g.D.Disk.told g.D.Disk.means start fresh.world c.requires.new c.requires.host refined c.requires.asks) in
    finished bytes left F K told (taken c.args.sink.now) (taken c.read_all.new.sink) (taken c.last_line.new.sink) 4 read_fault [] c.last_line.result
    (map_took told (taken c.args.sink.now) (taken c.read_all.new.sink) (λ out. IsAfter g.D.Disk.told g.D.Disk.means start pairs f.0 out sh) (λ out. Ends bytes left F K 4 out read_fault)
    (λ out s. Ends.fault f.0 out s.0 (c.in-Err-Source.ensures.source_cause (ap Err c.in-Err-Source.field-0-is)) f.1 (whole_runs f.0 out s.0 sh.number sh.held.items sh.read s.1)
    (c.refined_clusters_stand.ensures start pairs sh.world s.0 s.2))
    (f.2 start [] [] s0))
    c.last_line.ensures.wrote

pub returns-in-Err-Sink-clause-wrote : goal.returns-in-Err-Sink-clause-wrote
returns-in-Err-Sink-clause-wrote g c tells refined =
    let start = c.args.disks.now.items in
    let bytes = g.S.Source.left c.args.source.now in
    let left = g.S.Source.left c.read_all.new.source in
    let F = Rose (g.S.Source.faults c.args.source.now) (g.S.Source.faults c.read_all.new.source) in
    let K = Holds g.D.Disk.told g.D.Disk.means start c.read_all.new.disks.items in
    let fresh = c.args.progress.now in
    let s0 : IsAfter g.D.Disk.told g.D.Disk.means start start [] [] fresh =
    (first_cluster, c.requires.after, first_refines g.D.Disk.told g.D.Disk.means start fresh.world c.requires.new c.requires.host refined c.requires.asks) in
    map_took g.K.Sink.told (g.K.Sink.taken c.args.sink.now) (g.K.Sink.taken c.read_all.new.sink) (λ out. BrokenOff (lines_of bytes) K out) (λ out. Wrote bytes left F K 5 out) (λ out a. cut_sink bytes left F K c.each_text_is_prepared.ensures.some out a)
    (c.in-Err-Sink.ensures.part tells start [] [] s0)

pub returns-in-Err-Memory-clause-wrote : goal.returns-in-Err-Memory-clause-wrote
returns-in-Err-Memory-clause-wrote g c tells refined =
    let start = c.args.disks.now.items in
    let bytes = g.S.Source.left c.args.source.now in
    let left = g.S.Source.left c.read_all.new.source in
    let F = Rose (g.S.Source.faults c.args.source.now) (g.S.Source.faults c.read_all.new.source) in
    let K = Holds g.D.Disk.told g.D.Disk.means start c.read_all.new.disks.items in
    let fresh = c.args.progress.now in
    let s0 : IsAfter g.D.Disk.told g.D.Disk.means start start [] [] fresh =
    (first_cluster, c.requires.after, first_refines g.D.Disk.told g.D.Disk.means start fresh.world c.requires.new c.requires.host refined c.requires.asks) in
    map_took g.K.Sink.told (g.K.Sink.taken c.args.sink.now) (g.K.Sink.taken c.read_all.new.sink) (λ out. BrokenOff (lines_of bytes) K out) (λ out. Wrote bytes left F K 6 out) (λ out a. cut_memory bytes left F K c.each_text_is_prepared.ensures.some out a)
    (c.in-Err-Memory.ensures.part tells start [] [] s0)
