use Rattle.std.proofs.Common.{◌≡◌, ◌++◌, map, drop}
use Rattle.rq_select.specs.Planned as spec
use Rattle.rq_results.specs.Viewed.{shown}
use Rattle.rq_select.proofs.planning.planned_results.Given as goal

abbrev pub invariant-loop-item : goal.invariant-loop-item
invariant-loop-item l =
    l.results ++ map (spec.planned_result l.scope l.over_all) (map shown (drop l.item-index l.items))
    ≡ map (spec.planned_result l.scope l.over_all) (map shown l.items)
