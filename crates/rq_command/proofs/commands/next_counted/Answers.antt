use Rattle.std.proofs.lemmas.Result.{err_from_is_err_and}
use Rattle.rq_values.specs.Reading.{many_at}
use Rattle.rq_command.specs.Reading.{item_at}
use Rattle.rq_command.proofs.Loop.{goes_on, ends, is_done}
use Rattle.rq_command.proofs.commands.next_counted.Goals as goal

pub returns-in_err-item-clause-gives : goal.returns-in_err-item-clause-gives
returns-in_err-item-clause-gives c = λ item_of prepares.
    let one = item_at item_of c.args.limit in
    let p = err_from_is_err_and c.from_residual.result c.from_residual.ensures.1 in
    rw (p.1, p.2) (ends one c.in_err-item.field-0.0 c.loop.list.items c.args.count c.loop.counter c.loop.rest.now (many_at one c.args.count c.args.bytes.now) c.loop-test.true (c.in_err-item.ensures item_of prepares) (c.loop.invariant.1 item_of prepares))

pub loop-preserved : goal.loop-preserved
loop-preserved c = (
  rw c.in_ok-push.ensures.ok c.loop.invariant.0,
  λ item_of prepares.
      let one = item_at item_of c.args.limit in
      rw c.in_ok-push.ensures.ok (goes_on one c.loop.list.items c.args.count c.loop.counter c.loop.rest.now c.in_ok-item.item c.in_ok-item.after.now (many_at one c.args.count c.args.bytes.now) c.loop-test.true (c.in_ok-item.ensures item_of prepares) (c.loop.invariant.1 item_of prepares)),
)

pub returns-clause-gives : goal.returns-clause-gives
returns-clause-gives c = λ item_of prepares.
    let one = item_at item_of c.args.limit in
    is_done one c.loop.list.items c.args.count c.loop.counter c.loop.rest.now (many_at one c.args.count c.args.bytes.now) c.loop-test.false (c.loop.invariant.1 item_of prepares)
