use Rattle.std.proofs.Common.{sym}
use Rattle.rq_lines.proofs.Cutting.{grown, refused, last}
use Rattle.rq_lines.proofs.names.names_of.Goals as goal

pub returns-in-Ok-false : goal.returns-in-Ok-false
returns-in-Ok-false c =
    refused c.args.rest.now c.loop-end.left.now c.loop-end.ids c.add_name.new.ids c.in-Some.end c.in-Ok-false.field-0 c.loop-end.invariant (sym c.in-Some.ensures.place) c.in-Ok-false.ensures c.in-Ok-false.field-0-test

pub loop-end-preserved : goal.loop-end-preserved
loop-end-preserved c =
    grown c.args.rest.now c.loop-end.left.now c.behind-left.result.now c.loop-end.ids c.add_name.new.ids c.in-Some.end c.in-Ok-true.field-0 c.loop-end.invariant (sym c.in-Some.ensures.place) c.in-Ok-true.ensures c.in-Ok-true.field-0-test c.behind-left.ensures

pub returns : goal.returns
returns c = last c.args.rest.now c.loop-end.left.now c.loop-end.ids c.loop-end.invariant (sym c.in_default.ensures.place) c.with_last.result c.with_last.ensures
