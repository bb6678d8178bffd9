use Rattle.std.proofs.Common.{ap, ◌∙◌, ◌+◌, ◌++◌, map, drop}
use Rattle.rq_select.specs.Planned as planned
use Rattle.rq_results.specs.Viewed.{shown}
use Rattle.rq_select.proofs.Steps.{map_next}
use Rattle.rq_select.proofs.planning.planned_results.Goals as goal

pub loop-item-preserved : goal.loop-item-preserved
loop-item-preserved c =
    let l = c.loop-item in
    let f = planned.planned_result c.args.scope.now c.args.over_all in
    ap (λ xs. xs ++ map f (map shown (drop (l.item-index + 1) c.args.items.now))) c.in-Ok-push.ensures.ok
    ∙ map_next shown f l.results c.args.items.now l.item-index c.item-item.result c.in-Ok.result c.loop-item-test.true c.item-item.is c.in-Ok.ensures
    ∙ l.invariant
