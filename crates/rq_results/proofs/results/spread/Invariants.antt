use Rattle.std.proofs.Common.{◌≡◌, ◌++◌, map, drop}
use Rattle.rq_results.specs.Results as spec
use Rattle.rq_results.specs.Viewed.{shown}
use Rattle.rq_results.proofs.results.spread.Given as goal

abbrev pub invariant-loop-item : goal.invariant-loop-item
invariant-loop-item l = map shown l.all.items ++ spec.spread l.columns (drop l.item-index l.items) ≡ spec.spread l.columns l.items
