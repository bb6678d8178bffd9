use Rattle.std.proofs.Common.{sym, subst, map, List, Err}
use Rattle.rq_values.specs.declared.value.Value.{Value}
use Rattle.rq_eval.specs.declared.row.Scope.{Scope}
use Rattle.rq_eval.specs.Outcome.{Outcome, Answers, then_with}
use Rattle.rq_results.specs.Table.{scope_of, rows_of}
use Rattle.rq_select.specs.Planned as planned
use Rattle.rq_results.specs.Viewed.{shown}
use Rattle.rq_select.proofs.Plans.{selected_is}
use Rattle.rq_select.proofs.Answering.{err_then}
use Rattle.rq_select.proofs.selecting.rows_of_table.Goals as goal

pub returns-in-Ok : goal.returns-in-Ok
returns-in-Ok g c =
    let t = g.T.TableView.means c.args.table.now in
    let is = selected_is c.names_are_found_once.ensures (scope_of t) (rows_of t) (map shown c.args.items.now) c.args.stmt.now in
    subst (λ o. Answers o c.shown_of_table.result) (sym is) (subst (λ o. Answers (then_with o (λ plan. planned.rows_planned plan (rows_of t))) c.shown_of_table.result) (sym (rw c.scope.ensures at c.in-Ok.ensures)) c.shown_of_table.ensures)

pub returns-in-Err : goal.returns-in-Err
returns-in-Err g c =
    let t = g.T.TableView.means c.args.table.now in
    let ws = map shown c.args.items.now in
    subst (λ (o : Outcome (List (List Value))). Answers o (Err c.in-Err.e)) (sym (selected_is c.names_are_found_once.ensures (scope_of t) (rows_of t) ws c.args.stmt.now)) (err_then (planned.planned (scope_of t) ws c.args.stmt.now) (λ plan. planned.rows_planned plan (rows_of t)) c.in-Err.e (subst (λ (s : Scope). Answers (planned.planned s ws c.args.stmt.now) (Err c.in-Err.e)) c.scope.ensures c.in-Err.ensures))
