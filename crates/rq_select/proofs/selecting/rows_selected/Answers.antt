use Rattle.std.proofs.Common.{sym, subst, map, List, Err}
use Rattle.rq_values.specs.declared.value.Value.{Value}
use Rattle.rq_eval.specs.Names.{row_of}
use Rattle.rq_eval.specs.Outcome.{Outcome, Answers, then_with}
use Rattle.rq_select.specs.Planned as planned
use Rattle.rq_results.specs.Viewed.{shown}
use Rattle.rq_select.proofs.Plans.{selected_is}
use Rattle.rq_select.proofs.Answering.{err_then}
use Rattle.rq_select.proofs.selecting.rows_selected.Goals as goal

pub returns-in-Ok : goal.returns-in-Ok
returns-in-Ok c =
    let rows = map row_of c.args.rows.now in
    let is = selected_is c.names_are_found_once.ensures c.args.scope.now rows (map shown c.args.items.now) c.args.stmt.now in
    subst (λ o. Answers o c.rows_planned.result) (sym is) (subst (λ o. Answers (then_with o (λ plan. planned.rows_planned plan rows)) c.rows_planned.result) (sym c.in-Ok.ensures) c.rows_planned.ensures)

pub returns-in-Err : goal.returns-in-Err
returns-in-Err c =
    let rows = map row_of c.args.rows.now in
    let ws = map shown c.args.items.now in
    subst (λ (o : Outcome (List (List Value))). Answers o (Err c.in-Err.e)) (sym (selected_is c.names_are_found_once.ensures c.args.scope.now rows ws c.args.stmt.now)) (err_then (planned.planned c.args.scope.now ws c.args.stmt.now) (λ plan. planned.rows_planned plan rows) c.in-Err.e c.in-Err.ensures)
