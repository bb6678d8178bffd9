use Rattle.std.proofs.Common.{sym, ap, subst, ◌∙◌}
use Rattle.rq_eval.specs.declared.resolved.ResolvedExpr.TheVariants as x
use Rattle.rq_select.specs.Keys.{AlwaysPlain, AlwaysTest, AllPlain}
use Rattle.rq_select.proofs.Tests.{test_not, test_comparison, test_junction, test_in_list, test_between}
use Rattle.rq_select.proofs.keys.+is_test.Goals as goal

pub returns-then-is_not : goal.returns-then-is_not
returns-then-is_not t c = λ h.
    subst AlwaysTest (sym (c.in-Unary.is ∙ ap (λ o. x.Unary o c.in-Unary.operand) (c.is_not.ensures c.if-is_not.true)))
    (test_not c.in-Unary.operand (subst AlwaysTest c.get.ensures (c.is_test.ensures h)))

pub returns-then-is_plain : goal.returns-then-is_plain
returns-then-is_plain t c = λ h.
    subst AlwaysTest (sym c.in-Binary.is)
    (test_comparison c.in-Binary.op c.in-Binary.left c.in-Binary.right (sym c.is_comparison.ensures ∙ c.if-is_comparison.true)
    (subst AlwaysPlain c.get-then-is_comparison.ensures (c.is_plain.ensures c.if-is_plain.true))
    (subst AlwaysPlain c.get-then-is_plain.ensures (c.is_plain-then-is_plain.ensures h)))

pub returns-then-is_test : goal.returns-then-is_test
returns-then-is_test t c = λ h.
    subst AlwaysTest (sym c.in-Binary.is)
    (test_junction c.in-Binary.op c.in-Binary.left c.in-Binary.right (sym c.is_junction.ensures ∙ c.if-is_junction.true)
    (subst AlwaysTest c.get-then-is_junction.ensures (c.is_test-then-is_junction.ensures c.if-is_test.true))
    (subst AlwaysTest c.get-then-is_test.ensures (c.is_test-then-is_test.ensures h)))

pub returns-then-is_plain-2 : goal.returns-then-is_plain-2
returns-then-is_plain-2 t c = λ h.
    subst AlwaysTest (sym c.in-InList.is)
    (test_in_list c.in-InList.left c.in-InList.list
    (subst AlwaysPlain c.get-in-InList.ensures (c.is_plain-in-InList.ensures c.if-is_plain-2.true))
    (subst AllPlain c.as_slice.ensures (c.are_plain.ensures h)))

pub returns-then-is_plain-4 : goal.returns-then-is_plain-4
returns-then-is_plain-4 t c = λ h.
    subst AlwaysTest (sym c.in-Between.is)
    (test_between c.in-Between.operand c.in-Between.low c.in-Between.high
    (subst AlwaysPlain c.get-in-Between.ensures (c.is_plain-in-Between.ensures c.if-is_plain-3.true))
    (subst AlwaysPlain c.get-then-is_plain-3.ensures (c.is_plain-then-is_plain-3.ensures c.if-is_plain-4.true))
    (subst AlwaysPlain c.get-then-is_plain-4.ensures (c.is_plain-then-is_plain-4.ensures h)))
