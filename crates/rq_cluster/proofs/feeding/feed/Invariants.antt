use Rattle.std.proofs.Common.{◌≡◌, ◌≤◌, ◌+◌, ◌-◌, length, take}
use Rattle.rq_cluster.specs.Feed.{GoesOn}
use Rattle.rq_cluster.specs.Refines.{IsReady}
use Rattle.rq_cluster.proofs.feeding.feed.Given as goal

abbrev pub invariant-loop-fed : goal.invariant-loop-fed
invariant-loop-fed g l = record {
  within : l.fed ≤ length l.piece;
  goes : GoesOn g.D.Disk.told g.D.Disk.means l.fn.disks.items l.disks.items g.K.Sink.told (g.K.Sink.taken l.fn.sink) (g.K.Sink.taken l.sink) l.fn.progress l.progress (take l.fed l.piece);
  read : l.progress.read ≡ l.fn.progress.read + l.fed;
  ready : IsReady g.D.Disk.told g.D.Disk.means l.disks.items l.progress.world;
  later : g.K.Sink.faults l.fn.sink ≤ g.K.Sink.faults l.sink;
}

abbrev pub decreases-loop-fed : goal.decreases-loop-fed
decreases-loop-fed g l = length l.piece - l.fed
