use Rattle.std.proofs.Common.{◌≡◌, ◌++◌, map, drop}
use Rattle.rq_results.specs.Results as spec
use Rattle.rq_results.specs.Viewed.{shown}
use Rattle.rq_results.proofs.heading_texts.types.Given as goal

abbrev pub invariant-loop-item : goal.invariant-loop-item
invariant-loop-item l = l.texts ++ map (spec.type_of l.scope l.columns) (map shown (drop l.item-index l.items)) ≡ map (spec.type_of l.scope l.columns) (map shown l.items)
