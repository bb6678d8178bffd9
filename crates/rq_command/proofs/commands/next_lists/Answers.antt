use Rattle.std.proofs.lemmas.Result.{err_from_is_err_and}
use Rattle.rq_values.specs.Reading.{many_at}
use Rattle.rq_command.specs.Commands.{statements_at}
use Rattle.rq_command.proofs.Loop.{goes_on, ends, is_done}
use Rattle.rq_command.proofs.commands.next_lists.Goals as goal

pub returns-in_err-list : goal.returns-in_err-list
returns-in_err-list c = λ item_of prepares.
    let one = statements_at item_of c.args.limit in
    let p = err_from_is_err_and c.from_residual.result c.from_residual.ensures.1 in
    rw (p.1, p.2) (ends one c.in_err-list.field-0.0 c.loop.lists c.args.count c.loop.counter c.loop.rest.now (many_at one c.args.count c.args.bytes.now) c.loop-test.true (c.in_err-list.ensures item_of prepares) (c.loop.invariant item_of prepares))

pub loop-preserved : goal.loop-preserved
loop-preserved c = λ item_of prepares.
    let one = statements_at item_of c.args.limit in
    rw c.in_ok-push.ensures.ok (goes_on one c.loop.lists c.args.count c.loop.counter c.loop.rest.now c.in_ok-list.list c.in_ok-list.after.now (many_at one c.args.count c.args.bytes.now) c.loop-test.true (c.in_ok-list.ensures item_of prepares) (c.loop.invariant item_of prepares))

pub returns : goal.returns
returns c = λ item_of prepares.
    let one = statements_at item_of c.args.limit in
    is_done one c.loop.lists c.args.count c.loop.counter c.loop.rest.now (many_at one c.args.count c.args.bytes.now) c.loop-test.false (c.loop.invariant item_of prepares)
