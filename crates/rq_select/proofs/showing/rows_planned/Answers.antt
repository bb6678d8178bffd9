use Rattle.std.proofs.Common.{sym, subst, map}
use Rattle.rq_eval.specs.Outcome.{Answers, then_with}
use Rattle.rq_select.specs.Planned as planned
use Rattle.rq_select.specs.Select as spec
use Rattle.rq_select.proofs.showing.rows_planned.Goals as goal

pub returns : goal.returns
returns c =
    let plan = c.args.plan.now in
    subst (λ o. Answers (then_with o (λ left. spec.shown_rows (planned.gives plan.results) (map planned.term_of plan.terms) plan.over_all plan.limit plan.offset left)) c.shown_rows.result) (sym c.in_ok-left.ensures) (rw c.as_slice.ensures.value at c.shown_rows.ensures)
