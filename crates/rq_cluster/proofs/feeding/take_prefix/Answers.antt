use Rattle.std.proofs.Common.{◌<◌, ◌+◌, ◌++◌, ◌∷◌, [], List, ℕ, length, take, drop, refl, subst, arith}
use Rattle.rq_script.specs.Lines.{lines_of}
use Rattle.rq_script.specs.Runs.{StopsAt}
use Rattle.rq_cluster.specs.declared.feeding.Stop.TheVariants.{Outside as StopOutside}
use Rattle.rq_cluster.specs.Outcome.{BrokenOff}
use Rattle.rq_cluster.specs.Feed.{StopsKept, GoesOn, Stopped}
use Rattle.rq_cluster.specs.Recovery.{Holds}
use Rattle.rq_cluster.proofs.Pieces.{Outside, Broken, goes_held, goes_after, stopped_after, unwritten, of_other, prefix_rest, line_rest, line_prefix}
use Rattle.rq_cluster.proofs.feeding.take_prefix.Goals as goal

pub returns-in-Err-clause-outside : goal.returns-in-Err-clause-outside
returns-in-Err-clause-outside g c is rest start read text s =
    let t0 = g.K.Sink.taken c.args.sink.now in
    let n = c.line_end-count.result in
    let piece = c.args.piece.now in
    let at = c.hold.new.progress.number in
    unwritten g.K.Sink.told t0 t0 (λ (t : List ℕ). StopsKept (Holds g.D.Disk.told g.D.Disk.means start c.args.disks.now.items) at (lines_of (read ++ (piece ++ rest))) t) text (λ t. refl) (
      s.0,
      subst (λ (l : List ℕ). StopsAt (lines_of (read ++ l)) at text s.0) (prefix_rest n piece rest) (c.in-Err.ensures.outside (of_other c.in-Err.stop StopOutside is) (drop n piece ++ rest) read text s.0 s.1),
      c.refined_clusters_stand.ensures start c.args.disks.now.items c.args.progress.now.world s.0 s.2,
    )

pub returns-in-Err-clause-part : goal.returns-in-Err-clause-part
returns-in-Err-clause-part g c rest start read text s =
    let t0 = g.K.Sink.taken c.args.sink.now in
    let n = c.line_end-count.result in
    let piece = c.args.piece.now in
    let K = Holds g.D.Disk.told g.D.Disk.means start c.args.disks.now.items in
    let b = c.in-Err.ensures.part (drop n piece ++ rest) read text s.0 s.1 in
    unwritten g.K.Sink.told t0 t0 (λ (t : List ℕ). BrokenOff (lines_of (read ++ (piece ++ rest))) K t) text (λ t. refl)
    (subst (λ (l : List ℕ). BrokenOff (lines_of (read ++ l)) K text) (prefix_rest n piece rest)
    (BrokenOff.before b.0 b.1 text s.0 b.2 b.3 (c.refined_clusters_stand.ensures start c.args.disks.now.items c.args.progress.now.world s.0 s.2)))

pub returns-then-count-piece-clause-ok : goal.returns-then-count-piece-clause-ok
returns-then-count-piece-clause-ok g c =
    goes_held g.D.Disk.told g.D.Disk.means c.args.disks.now.items g.K.Sink.told (g.K.Sink.taken c.args.sink.now) c.args.progress.now c.hold.new.progress (take c.line_end-count.result c.args.piece.now) c.in-Ok.ensures.world c.in-Ok.ensures.ok

pub returns-in-Ok-end_line-clause-ok : goal.returns-in-Ok-end_line-clause-ok
returns-in-Ok-end_line-clause-ok g c =
    let t0 = g.K.Sink.taken c.args.sink.now in
    let t1 = g.K.Sink.taken c.end_line.new.sink in
    let p0 = c.args.disks.now.items in
    let p1 = c.end_line.new.disks.items in
    let n = c.line_end-count.result in
    let piece = c.args.piece.now in
    let from = c.args.progress.now in
    let held = c.hold.new.progress in
    let lt : n < length piece = omega (arith, c.line_end-count.ensures.within, c.if-count-piece.false) in
    subst (λ (l : List ℕ). GoesOn g.D.Disk.told g.D.Disk.means p0 p1 g.K.Sink.told t0 t1 from c.end_line.new.progress l) (line_prefix n piece lt (c.line_end-count.ensures.found lt))
    (goes_after g.D.Disk.told g.D.Disk.means p0 p0 p1 g.K.Sink.told t0 t0 t1 from held c.end_line.new.progress (take n piece) (10 ∷ [])
    (goes_held g.D.Disk.told g.D.Disk.means p0 g.K.Sink.told t0 from held (take n piece) c.in-Ok.ensures.world c.in-Ok.ensures.ok) c.in-Ok-end_line.ensures.ok)

pub returns-in-Err-end_line-clause-outside : goal.returns-in-Err-end_line-clause-outside
returns-in-Err-end_line-clause-outside g c is rest =
    let t0 = g.K.Sink.taken c.args.sink.now in
    let t1 = g.K.Sink.taken c.end_line.new.sink in
    let p0 = c.args.disks.now.items in
    let p1 = c.end_line.new.disks.items in
    let n = c.line_end-count.result in
    let piece = c.args.piece.now in
    let from = c.args.progress.now in
    let held = c.hold.new.progress in
    let lt : n < length piece = omega (arith, c.line_end-count.ensures.within, c.if-count-piece.false) in
    let P = Outside g.D.Disk.told g.D.Disk.means p1 c.end_line.new.progress.number in
    subst (λ (l : List ℕ). Stopped g.D.Disk.told g.D.Disk.means p0 p1 g.K.Sink.told t0 t1 from l P) (line_rest n piece rest lt (c.line_end-count.ensures.found lt))
    (stopped_after g.D.Disk.told g.D.Disk.means p0 p0 p1 g.K.Sink.told t0 t0 t1 from held P (take n piece) (10 ∷ (drop (n + 1) piece ++ rest))
    (goes_held g.D.Disk.told g.D.Disk.means p0 g.K.Sink.told t0 from held (take n piece) c.in-Ok.ensures.world c.in-Ok.ensures.ok)
    (c.in-Err-end_line.ensures.outside (of_other c.in-Err-end_line.stop StopOutside is) (drop (n + 1) piece ++ rest)))

pub returns-in-Err-end_line-clause-part : goal.returns-in-Err-end_line-clause-part
returns-in-Err-end_line-clause-part g c rest =
    let t0 = g.K.Sink.taken c.args.sink.now in
    let t1 = g.K.Sink.taken c.end_line.new.sink in
    let p0 = c.args.disks.now.items in
    let p1 = c.end_line.new.disks.items in
    let n = c.line_end-count.result in
    let piece = c.args.piece.now in
    let from = c.args.progress.now in
    let held = c.hold.new.progress in
    let lt : n < length piece = omega (arith, c.line_end-count.ensures.within, c.if-count-piece.false) in
    let P = Broken g.D.Disk.told g.D.Disk.means p1 in
    subst (λ (l : List ℕ). Stopped g.D.Disk.told g.D.Disk.means p0 p1 g.K.Sink.told t0 t1 from l P) (line_rest n piece rest lt (c.line_end-count.ensures.found lt))
    (stopped_after g.D.Disk.told g.D.Disk.means p0 p0 p1 g.K.Sink.told t0 t0 t1 from held P (take n piece) (10 ∷ (drop (n + 1) piece ++ rest))
    (goes_held g.D.Disk.told g.D.Disk.means p0 g.K.Sink.told t0 from held (take n piece) c.in-Ok.ensures.world c.in-Ok.ensures.ok)
    (c.in-Err-end_line.ensures.part (drop (n + 1) piece ++ rest)))
