use Rattle.std.proofs.Common.{map, subst, Bool, Err}
use Rattle.std.specs.Option.{option_or}
use Rattle.rq_eval.specs.Outcome.{then_with, all_of}
use Rattle.rq_results.specs.Checks.{names_check, calls_check, is_over_all}
use Rattle.rq_select.specs.Planned as spec
use Rattle.rq_results.specs.Viewed.{shown, Clears}
use Rattle.rq_select.proofs.Answering.{check_ok, check_err}
use Rattle.rq_select.proofs.planning.plan_of.Goals as goal

pub returns-in-Ok : goal.returns-in-Ok
returns-in-Ok c =
    let s = c.args.scope.now in
    let ws = map shown c.args.items.now in
    let q = c.args.stmt.now in
    check_ok (names_check s ws q) (calls_check (is_over_all ws) ws q) (then_with (all_of (map (spec.planned_term s ws) q.order)) (spec.limited s ws q)) c.checked_plan.result (rw c.is_over_all.ensures at c.in-Ok.ensures) c.checked_plan.ensures

pub returns-in-Err : goal.returns-in-Err
returns-in-Err c =
    let s = c.args.scope.now in
    let ws = map shown c.args.items.now in
    let q = c.args.stmt.now in
    check_err (names_check s ws q) (calls_check (is_over_all ws) ws q) (then_with (all_of (map (spec.planned_term s ws) q.order)) (spec.limited s ws q)) c.in-Err.e
    (subst (λ (b : Bool). Clears (option_or (names_check s ws q) (calls_check b ws q)) (Err c.in-Err.e)) c.is_over_all.ensures c.in-Err.ensures)
