use Rattle.rq_select.proofs.Tests.{plain_next}
use Rattle.rq_select.proofs.keys.are_plain.Goals as goal

pub loop-expr-preserved : goal.loop-expr-preserved
loop-expr-preserved c = λ h. c.loop-expr.invariant (plain_next c.args.list.now c.loop-expr.expr-index c.expr-item.result c.loop-expr-test.true c.expr-item.is (c.is_plain.ensures (cc (c.if-not-is_plain.false))) h)
