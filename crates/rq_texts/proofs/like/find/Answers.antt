use Rattle.std.proofs.Common.{◌∙◌, arith}
use Rattle.rq_texts.proofs.Liking.{find_percent, find_past, rest_is}
use Rattle.rq_texts.proofs.like.find.Goals as goal

pub returns-in-Percent : goal.returns-in-Percent
returns-in-Percent c =
    find_percent c.args.pattern.now c.args.text.now c.loop-start.start c.in-Percent.n (omega arith)
    (simp rest_is at c.in-Percent.ensures)
    c.loop-start.invariant

pub loop-start-preserved : goal.loop-start-preserved
loop-start-preserved c =
    find_past c.args.pattern.now c.args.text.now c.loop-start.start c.loop-start-test.true (simp rest_is at c.in-Done-false.ensures ∙ c.in-Done-false.field-0-test) c.loop-start.invariant
