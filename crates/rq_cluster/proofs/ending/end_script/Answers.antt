use Rattle.std.proofs.Common.{◌≡◌, Bool, true, false, Err, ap, ◌++◌, [], List, ℕ, sym, subst, ◌∙◌, flat_map, is_some}
use Rattle.rq_script.specs.Cluster.{Cluster}
use Rattle.rq_script.specs.Lines.{lines_of}
use Rattle.rq_script.specs.Runs.{StopsAt}
use Rattle.rq_script.specs.ScriptText.{pending_text}
use Rattle.rq_cluster.specs.LastLines.{stopped_line}
use Rattle.rq_cluster.specs.Outcome.{Ends, BrokenOff, Wrote}
use Rattle.rq_cluster.specs.Feed.{StopsKept, AtEnd}
use Rattle.rq_cluster.specs.Refines.{Refines, pending_in}
use Rattle.rq_cluster.specs.Recovery.{Holds}
use Rattle.rq_cluster.proofs.Finishing.{finished, map_took, cut_sink, cut_memory}
use Rattle.rq_cluster.proofs.Refining.{refines_ending, refines_started}
use Rattle.rq_cluster.proofs.ending.end_script.Goals as goal

not_started : (a b : Bool) → a ≡ false → a ≡ b → b ≡ true → ⊥
not_started a b no_it same yes_it = cc

pub returns-then-is_started-clause-wrote : goal.returns-then-is_started-clause-wrote
returns-then-is_started-clause-wrote g c start read text s =
    let world = c.last_held.new.progress.world in
    let pairs = c.last_held.new.disks.items in
    let told = g.K.Sink.told in
    let t0 = g.K.Sink.taken c.args.sink.now in
    let t1 = g.K.Sink.taken c.last_held.new.sink in
    let K = Holds g.D.Disk.told g.D.Disk.means start pairs in
    let last = flat_map pending_text (pending_in world.host) in
    finished read [] ⊥ K told t0 t1 (g.K.Sink.taken c.give_ending.new.sink) 0 last text c.give_ending.result
    (map_took told t0 t1 (λ out. (w : Cluster) × AtEnd (lines_of read) (text ++ out) w c.in-Ok.number × Refines g.D.Disk.told g.D.Disk.means start pairs world w) (λ out. Ends read [] ⊥ K 0 (text ++ out) last)
    (λ out a. subst (λ (l : List ℕ). Ends read [] ⊥ K 0 (text ++ out) l) (sym (refines_ending g.D.Disk.told g.D.Disk.means start pairs world a.0 a.2))
    (Ends.done (text ++ out) a.0 a.1.runs (sym (refines_started g.D.Disk.told g.D.Disk.means start pairs world a.0 a.2) ∙ sym c.is_started.ensures ∙ c.if-is_started.true)
    (c.refined_clusters_stand.ensures start pairs world a.0 a.2)))
    (c.in-Ok.ensures.ok start read text s))
    c.give_ending.ensures.wrote

pub returns-else-is_started-clause-wrote : goal.returns-else-is_started-clause-wrote
returns-else-is_started-clause-wrote g c start read text s =
    let world = c.last_held.new.progress.world in
    let pairs = c.last_held.new.disks.items in
    let n = c.in-Ok.number in
    let told = g.K.Sink.told in
    let t0 = g.K.Sink.taken c.args.sink.now in
    let t1 = g.K.Sink.taken c.last_held.new.sink in
    let K = Holds g.D.Disk.told g.D.Disk.means start pairs in
    finished read [] ⊥ K told t0 t1 (g.K.Sink.taken c.stop_at.new.sink) 3 (stopped_line n) text c.stop_at.result
    (map_took told t0 t1 (λ out. (w : Cluster) × AtEnd (lines_of read) (text ++ out) w n × Refines g.D.Disk.told g.D.Disk.means start pairs world w) (λ out. Ends read [] ⊥ K 3 (text ++ out) (stopped_line n))
    (λ out a. Ends.outside n (text ++ out) a.0 (subst (λ (k : ℕ). StopsAt (lines_of read) k (text ++ out) a.0) (sym a.1.number_is) (StopsAt.at_end (text ++ out) a.0 a.1.runs
    (not_started (is_some world.host) (is_some a.0.server) (sym c.is_started.ensures ∙ c.if-is_started.false) (refines_started g.D.Disk.told g.D.Disk.means start pairs world a.0 a.2))))
    (c.refined_clusters_stand.ensures start pairs world a.0 a.2))
    (c.in-Ok.ensures.ok start read text s))
    c.stop_at.ensures.wrote

pub returns-in-Err-Outside-clause-wrote : goal.returns-in-Err-Outside-clause-wrote
returns-in-Err-Outside-clause-wrote g c start read text s =
    let n = c.last_held.new.progress.number in
    let told = g.K.Sink.told in
    let t0 = g.K.Sink.taken c.args.sink.now in
    let t1 = g.K.Sink.taken c.last_held.new.sink in
    let K = Holds g.D.Disk.told g.D.Disk.means start c.last_held.new.disks.items in
    finished read [] ⊥ K told t0 t1 (g.K.Sink.taken c.stop_at-in-Err-Outside.new.sink) 3 (stopped_line n) text c.stop_at-in-Err-Outside.result
    (map_took told t0 t1 (λ out. StopsKept K n (lines_of read) (text ++ out)) (λ out. Ends read [] ⊥ K 3 (text ++ out) (stopped_line n)) (λ out a. Ends.outside n (text ++ out) a.0 a.1 a.2)
    (c.in-Err-Outside.ensures.outside (ap Err c.in-Err-Outside.field-0-is) start read text s))
    c.stop_at-in-Err-Outside.ensures.wrote

pub returns-in-Err-Sink-clause-wrote : goal.returns-in-Err-Sink-clause-wrote
returns-in-Err-Sink-clause-wrote g c start read text s =
    let K = Holds g.D.Disk.told g.D.Disk.means start c.last_held.new.disks.items in
    map_took g.K.Sink.told (g.K.Sink.taken c.args.sink.now) (g.K.Sink.taken c.last_held.new.sink) (λ out. BrokenOff (lines_of read) K (text ++ out)) (λ out. Wrote read [] ⊥ K 5 (text ++ out))
    (λ out a. cut_sink read [] ⊥ K c.each_text_is_prepared.ensures.some (text ++ out) a) (c.in-Err-Sink.ensures.part start read text s)

pub returns-in-Err-clause-wrote : goal.returns-in-Err-clause-wrote
returns-in-Err-clause-wrote g c start read text s =
    let K = Holds g.D.Disk.told g.D.Disk.means start c.last_held.new.disks.items in
    map_took g.K.Sink.told (g.K.Sink.taken c.args.sink.now) (g.K.Sink.taken c.last_held.new.sink) (λ out. BrokenOff (lines_of read) K (text ++ out)) (λ out. Wrote read [] ⊥ K 6 (text ++ out))
    (λ out a. cut_memory read [] ⊥ K c.each_text_is_prepared.ensures.some (text ++ out) a) (c.in-Err.ensures.part start read text s)
