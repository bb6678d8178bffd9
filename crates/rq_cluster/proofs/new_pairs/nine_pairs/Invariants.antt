use Rattle.std.proofs.Common.{◌≡◌, length}
use Rattle.std.specs.Prelude.{All}
use Rattle.rq_cluster.specs.EmptyPairs.{AreMade}
use Rattle.rq_cluster.specs.Recovery.{IsNew}
use Rattle.rq_cluster.proofs.new_pairs.nine_pairs.Given as goal

abbrev pub invariant-loop-place : goal.invariant-loop-place
invariant-loop-place g l = record {
  count : length l.pairs.items ≡ l.place;
  fresh : All (IsNew g.D.Disk.told g.D.Disk.means) l.pairs.items;
  made : AreMade (g.M.MakesDisks.made l.maker) l.pairs.items;
}
