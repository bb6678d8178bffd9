use Rattle.std.proofs.Common.{sym, subst, map, List, Err}
use Rattle.rq_eval.specs.declared.resolved.ResolvedExpr.{ResolvedExpr}
use Rattle.rq_eval.specs.Names.{row_of}
use Rattle.rq_eval.specs.Outcome.{Answers, then_with, all_of}
use Rattle.rq_eval.specs.Value.{Gives}
use Rattle.rq_select.specs.Planned as planned
use Rattle.rq_select.specs.Select as spec
use Rattle.rq_select.proofs.Answering.{err_entry}
use Rattle.rq_select.proofs.showing.entry_of.Goals as goal

pub returns-in-Ok : goal.returns-in-Ok
returns-in-Ok c =
    let r = row_of c.args.row.now in
    let ts = map planned.term_of c.args.plan.now.terms in
    let found = rw c.as_slice.ensures at c.in-Ok.ensures in
    let done = rw c.as_slice-in-Ok.ensures at c.with_terms.ensures in
    subst (λ o. planned.IsEntry (then_with o (spec.with_terms ts r)) c.with_terms.result) (sym found) done

pub returns-in-Err : goal.returns-in-Err
returns-in-Err c =
    let r = row_of c.args.row.now in
    let ts = map planned.term_of c.args.plan.now.terms in
    let all = map row_of c.args.all.now in
    err_entry (all_of (map (λ (g : Gives). g r) (planned.gives c.args.plan.now.results all))) (spec.with_terms ts r) c.in-Err.e
    (subst (λ (es : List ResolvedExpr). Answers (all_of (map (λ (g : Gives). g r) (planned.gives es all))) (Err c.in-Err.e)) c.as_slice.ensures c.in-Err.ensures)
