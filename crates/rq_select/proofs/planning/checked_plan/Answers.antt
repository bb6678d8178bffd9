use Rattle.std.proofs.Common.{sym, subst, map, List, Err}
use Rattle.rq_grammar.specs.declared.stmt.OrderTerm.{OrderTerm}
use Rattle.rq_eval.specs.Outcome.{Answers, then_with, all_of}
use Rattle.rq_select.specs.Planned as spec
use Rattle.rq_results.specs.Viewed.{shown}
use Rattle.rq_select.proofs.Answering.{err_then}
use Rattle.rq_select.proofs.planning.checked_plan.Goals as goal

pub returns-in-Ok : goal.returns-in-Ok
returns-in-Ok c =
    subst (λ o. Answers (then_with o (spec.limited c.args.scope.now (map shown c.args.items.now) c.args.stmt.now)) c.limited.result) (sym (rw c.as_slice.ensures at c.in-Ok.ensures)) c.limited.ensures

pub returns-in-Err : goal.returns-in-Err
returns-in-Err c =
    err_then (all_of (map (spec.planned_term c.args.scope.now (map shown c.args.items.now)) c.args.stmt.now.order)) (spec.limited c.args.scope.now (map shown c.args.items.now) c.args.stmt.now) c.in-Err.e
    (subst (λ (ts : List OrderTerm). Answers (all_of (map (spec.planned_term c.args.scope.now (map shown c.args.items.now)) ts)) (Err c.in-Err.e)) c.as_slice.ensures c.in-Err.ensures)
