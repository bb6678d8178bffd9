use Rattle.std.proofs.Common.{◌∙◌}
use Rattle.rq_results.specs.Checks.{names_in}
use Rattle.rq_results.specs.Viewed.{defect_error}
use Rattle.rq_results.proofs.Firsts.{first_none, first_some}
use Rattle.rq_results.proofs.checking.+names.Goals as goal

pub names_in_all-loop-expr-preserved : goal.names_in_all-loop-expr-preserved
names_in_all-loop-expr-preserved t c =
    first_none (names_in c.args.scope.now) c.args.list.now c.loop-expr.expr-index c.expr-item.result c.loop-expr-test.true c.expr-item.is c.in-None.ensures
    ∙ c.loop-expr.invariant

pub names_in_all-returns-in-Some : goal.names_in_all-returns-in-Some
names_in_all-returns-in-Some t c =
    first_some (names_in c.args.scope.now) c.args.list.now c.loop-expr.expr-index c.expr-item.result c.loop-expr-test.true c.expr-item.is (defect_error c.in-Some.defect) c.in-Some.ensures
    ∙ c.loop-expr.invariant
