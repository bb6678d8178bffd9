use Rattle.std.proofs.Common.{◌∙◌, map}
use Rattle.rq_results.specs.Checks.{term_check}
use Rattle.rq_results.specs.Viewed.{shown, defect_error, look_for}
use Rattle.rq_results.proofs.Firsts.{first_none, first_some}
use Rattle.rq_results.proofs.checking.in_order.Goals as goal

pub loop-term-preserved : goal.loop-term-preserved
loop-term-preserved c =
    let l = c.loop-term in
    first_none (term_check (look_for c.args.look) (map shown c.args.items.now)) c.args.terms.now l.term-index c.term-item.result c.loop-term-test.true c.term-item.is c.in-None.ensures
    ∙ l.invariant

pub returns-in-Some : goal.returns-in-Some
returns-in-Some c =
    let l = c.loop-term in
    first_some (term_check (look_for c.args.look) (map shown c.args.items.now)) c.args.terms.now l.term-index c.term-item.result c.loop-term-test.true c.term-item.is (defect_error c.in-Some.defect) c.in-Some.ensures
    ∙ l.invariant
