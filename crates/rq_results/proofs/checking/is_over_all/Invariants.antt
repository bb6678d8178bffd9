use Rattle.std.proofs.Common.{◌≡◌, map, drop}
use Rattle.rq_results.specs.Checks as spec
use Rattle.rq_results.specs.Viewed.{shown}
use Rattle.rq_results.proofs.checking.is_over_all.Given as goal

abbrev pub invariant-loop-item : goal.invariant-loop-item
invariant-loop-item l = spec.is_over_all (map shown (drop l.item-index l.items)) ≡ spec.is_over_all (map shown l.items)
