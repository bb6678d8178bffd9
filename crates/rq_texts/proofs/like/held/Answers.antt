use Rattle.std.proofs.Common.{arith}
use Rattle.rq_texts.proofs.Liking.{at_percent, same_past, plain_past, at_end}
use Rattle.rq_texts.proofs.like.held.Goals as goal

pub returns-then-p-eq37 : goal.returns-then-p-eq37
returns-then-p-eq37 c =
    at_percent c.args.pattern.now c.args.text.now c.loop-i.i c.index-pattern-i.result c.loop-i-test.true c.index-pattern-i.is c.if-p-eq37.true
    c.loop-i.invariant.within c.loop-i.invariant.same (c.loop-i.invariant.plain 0)

pub loop-i-preserved : goal.loop-i-preserved
loop-i-preserved c = record {
  within = omega arith;
  same = same_past c.args.pattern.now c.args.text.now c.loop-i.i c.index-pattern-i.result c.index-text-i.result c.loop-i-test.true c.if-i-text.false
      c.index-pattern-i.is c.index-text-i.is c.if-p-eq37.false (c.if-not-stands_for.ensures) c.loop-i.invariant.same;
  plain = λ n. plain_past c.args.pattern.now c.loop-i.i c.index-pattern-i.result n c.loop-i-test.true c.index-pattern-i.is c.if-p-eq37.false c.loop-i.invariant.plain;
}

pub returns : goal.returns
returns c = at_end c.args.pattern.now c.args.text.now c.loop-i.i c.loop-i.auto.i-end c.loop-i-test.false c.loop-i.invariant.within c.loop-i.invariant.same
