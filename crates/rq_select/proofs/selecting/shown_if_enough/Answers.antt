use Rattle.std.proofs.Common.{arith, sym, subst, map, length, ◌≤◌}
use Rattle.std.proofs.lemmas.List.{length-map}
use Rattle.rq_eval.specs.Names.{row_of}
use Rattle.rq_eval.specs.Outcome.{Answers, then_with}
use Rattle.rq_select.specs.Planned as planned
use Rattle.rq_select.specs.Select as spec
use Rattle.rq_select.proofs.selecting.shown_if_enough.Goals as goal

pub returns-then-len-wanted : goal.returns-then-len-wanted
returns-then-len-wanted c =
    let plan = c.args.plan.now in
    let left = map row_of c.in-Ok.left.items in
    let enough : c.args.wanted ≤ length left = omega (arith, length-map c.in-Ok.left.items row_of, c.len.ensures, c.if-len-wanted.true) in
    ((left, c.in-Ok.ensures, enough), subst (λ o. Answers (then_with o (λ rows. spec.shown_rows (planned.gives plan.results) (map planned.term_of plan.terms) plan.over_all plan.limit plan.offset rows)) c.shown_rows.result) (sym c.in-Ok.ensures) (rw c.as_slice.ensures.value at c.shown_rows.ensures))
