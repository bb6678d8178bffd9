use Rattle.std.proofs.Common.{ap, ◌∙◌, ◌+◌, map, drop}
use Rattle.rq_eval.specs.Outcome.{all_behind}
use Rattle.rq_select.specs.Planned as planned
use Rattle.rq_results.specs.Viewed.{shown}
use Rattle.rq_select.proofs.Steps.{each_next}
use Rattle.rq_select.proofs.terms.planned_terms.Goals as goal

pub loop-term-preserved : goal.loop-term-preserved
loop-term-preserved c =
    let l = c.loop-term in
    let f = planned.planned_term c.args.scope.now (map shown c.args.items.now) in
    ap (λ ts. all_behind ts (map f (drop (l.term-index + 1) c.args.order.now))) c.in-Ok-push.ensures.ok
    ∙ each_next f l.terms c.args.order.now l.term-index c.term-item.result c.in-Ok.term c.loop-term-test.true c.term-item.is c.in-Ok.ensures
    ∙ l.invariant
