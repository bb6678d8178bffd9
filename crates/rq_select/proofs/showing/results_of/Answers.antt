use Rattle.std.proofs.Common.{ap, ◌∙◌, ◌+◌, map, drop}
use Rattle.rq_eval.specs.Names.{row_of}
use Rattle.rq_eval.specs.Outcome.{all_behind}
use Rattle.rq_eval.specs.Resolved.{evaluated}
use Rattle.rq_eval.specs.Value.{Gives}
use Rattle.rq_select.specs.Planned as planned
use Rattle.rq_select.proofs.Steps.{all_next}
use Rattle.rq_select.proofs.showing.results_of.Goals as goal

pub loop-expr-preserved : goal.loop-expr-preserved
loop-expr-preserved c =
    let l = c.loop-expr in
    let r = row_of c.args.row.now in
    let all = map row_of c.args.all.now in
    ap (λ vs. all_behind vs (map (λ (g : Gives). g r) (planned.gives (drop (l.expr-index + 1) c.args.results.now) all))) c.in-Ok-push.ensures.ok
    ∙ all_next (evaluated all) (λ (g : Gives). g r) l.values c.args.results.now l.expr-index c.expr-item.result c.in-Ok.value c.loop-expr-test.true c.expr-item.is c.in-Ok.ensures
    ∙ l.invariant
