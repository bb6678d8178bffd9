use Rattle.std.proofs.Common.{◌-◌, ◌++◌, List, ℕ, length, take, drop, subst, arith, length-drop, length-take}
use Rattle.std.proofs.lemmas.List.{take_rest, take_all}
use Rattle.rq_cluster.specs.declared.feeding.Stop.TheVariants.{Outside as StopOutside}
use Rattle.rq_cluster.specs.Feed.{GoesOn, Stopped}
use Rattle.rq_cluster.proofs.Lists.{take_on}
use Rattle.rq_cluster.proofs.Pieces.{Outside, Broken, goes_none, goes_after, stopped_after, of_other, prefix_rest}
use Rattle.rq_cluster.proofs.feeding.feed.Goals as goal

pub loop-fed-init : goal.loop-fed-init
loop-fed-init g c = record {
  within = omega arith;
  goes = goes_none g.D.Disk.told g.D.Disk.means c.args.disks.now.items g.K.Sink.told (g.K.Sink.taken c.args.sink.now) c.args.progress.now;
  read = omega arith;
  ready = c.requires.ready;
  later = omega arith;
}

pub loop-fed-preserved : goal.loop-fed-preserved
loop-fed-preserved g c =
    let taken = g.K.Sink.taken in
    let p0 = c.args.disks.now.items in
    let p1 = c.loop-fed.disks.items in
    let p2 = c.take_prefix.new.disks.items in
    let from = c.args.progress.now in
    let to = c.take_prefix.new.progress in
    let fed = c.loop-fed.fed in
    let n = c.in-Ok.count in
    let piece = c.args.piece.now in
    let size = length-drop fed piece in
    record {
      within = omega (arith, c.loop-fed.invariant.within, c.in-Ok.ensures.count.1, size, length-take (length piece - fed) (drop fed piece));
      goes = subst (λ (l : List ℕ). GoesOn g.D.Disk.told g.D.Disk.means p0 p2 g.K.Sink.told (taken c.args.sink.now) (taken c.take_prefix.new.sink) from to l) (take_on fed n piece)
          (goes_after g.D.Disk.told g.D.Disk.means p0 p1 p2 g.K.Sink.told (taken c.args.sink.now) (taken c.loop-fed.sink) (taken c.take_prefix.new.sink) from c.loop-fed.progress to (take fed piece) (take n (drop fed piece)) c.loop-fed.invariant.goes
          (subst (λ (l : List ℕ). GoesOn g.D.Disk.told g.D.Disk.means p1 p2 g.K.Sink.told (taken c.loop-fed.sink) (taken c.take_prefix.new.sink) c.loop-fed.progress to (take n l)) (take_rest piece fed) c.in-Ok.ensures.ok));
      read = omega (arith, c.loop-fed.invariant.read, c.in-Ok.ensures.read);
      ready = c.in-Ok.ensures.ready;
      later = omega (arith, c.loop-fed.invariant.later, c.in-Ok.ensures.later);
    }

pub returns-in-Err-clause-outside : goal.returns-in-Err-clause-outside
returns-in-Err-clause-outside g c is rest =
    let taken = g.K.Sink.taken in
    let p0 = c.args.disks.now.items in
    let p1 = c.loop-fed.disks.items in
    let p2 = c.take_prefix.new.disks.items in
    let from = c.args.progress.now in
    let fed = c.loop-fed.fed in
    let piece = c.args.piece.now in
    let P = Outside g.D.Disk.told g.D.Disk.means p2 c.take_prefix.new.progress.number in
    subst (λ (l : List ℕ). Stopped g.D.Disk.told g.D.Disk.means p0 p2 g.K.Sink.told (taken c.args.sink.now) (taken c.take_prefix.new.sink) from l P) (prefix_rest fed piece rest)
    (stopped_after g.D.Disk.told g.D.Disk.means p0 p1 p2 g.K.Sink.told (taken c.args.sink.now) (taken c.loop-fed.sink) (taken c.take_prefix.new.sink) from c.loop-fed.progress P (take fed piece) (drop fed piece ++ rest) c.loop-fed.invariant.goes
    (subst (λ (l : List ℕ). Stopped g.D.Disk.told g.D.Disk.means p1 p2 g.K.Sink.told (taken c.loop-fed.sink) (taken c.take_prefix.new.sink) c.loop-fed.progress (l ++ rest) P) (take_rest piece fed)
    (c.in-Err.ensures.outside (of_other c.in-Err.stop StopOutside is) rest)))

pub returns-in-Err-clause-part : goal.returns-in-Err-clause-part
returns-in-Err-clause-part g c rest =
    let taken = g.K.Sink.taken in
    let p0 = c.args.disks.now.items in
    let p1 = c.loop-fed.disks.items in
    let p2 = c.take_prefix.new.disks.items in
    let from = c.args.progress.now in
    let fed = c.loop-fed.fed in
    let piece = c.args.piece.now in
    let P = Broken g.D.Disk.told g.D.Disk.means p2 in
    subst (λ (l : List ℕ). Stopped g.D.Disk.told g.D.Disk.means p0 p2 g.K.Sink.told (taken c.args.sink.now) (taken c.take_prefix.new.sink) from l P) (prefix_rest fed piece rest)
    (stopped_after g.D.Disk.told g.D.Disk.means p0 p1 p2 g.K.Sink.told (taken c.args.sink.now) (taken c.loop-fed.sink) (taken c.take_prefix.new.sink) from c.loop-fed.progress P (take fed piece) (drop fed piece ++ rest) c.loop-fed.invariant.goes
    (subst (λ (l : List ℕ). Stopped g.D.Disk.told g.D.Disk.means p1 p2 g.K.Sink.told (taken c.loop-fed.sink) (taken c.take_prefix.new.sink) c.loop-fed.progress (l ++ rest) P) (take_rest piece fed) (c.in-Err.ensures.part rest)))

pub returns-clause-ok : goal.returns-clause-ok
returns-clause-ok g c =
    let piece = c.args.piece.now in
    subst (λ (l : List ℕ). GoesOn g.D.Disk.told g.D.Disk.means c.args.disks.now.items c.loop-fed.disks.items g.K.Sink.told (g.K.Sink.taken c.args.sink.now) (g.K.Sink.taken c.loop-fed.sink) c.args.progress.now c.loop-fed.progress l)
    (take_all c.loop-fed.fed piece (omega (arith, c.loop-fed-test.false))) c.loop-fed.invariant.goes
