use Rattle.std.proofs.Common.{◌≡◌, ◌≤◌, ◌-◌, ◌++◌, List, ℕ, IsTrue}
use Rattle.rq_cluster.specs.Feed.{GoesOn}
use Rattle.rq_cluster.specs.Refines.{IsReady}
use Rattle.rq_cluster.proofs.reading_lines.read_all.Given as goal

abbrev pub invariant-reading : goal.invariant-reading
invariant-reading g l = record {
  goes : IsTrue g.S.Source.told → (read : List ℕ) × (g.S.Source.left l.fn.source ≡ read ++ g.S.Source.left l.source)
      × GoesOn g.D.Disk.told g.D.Disk.means l.fn.disks.items l.disks.items g.K.Sink.told (g.K.Sink.taken l.fn.sink) (g.K.Sink.taken l.sink) l.fn.progress l.progress read;
  ready : IsReady g.D.Disk.told g.D.Disk.means l.disks.items l.progress.world;
  later : g.K.Sink.faults l.fn.sink ≤ g.K.Sink.faults l.sink;
  source : g.S.Source.faults l.fn.source ≤ g.S.Source.faults l.source;
}

abbrev pub decreases-reading : goal.decreases-reading
decreases-reading g l = 67108864 - l.progress.read
