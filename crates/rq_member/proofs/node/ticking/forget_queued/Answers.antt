use Rattle.std.proofs.Common.{◌≡◌, ◌∙◌, ◌≤◌, List, length, take, Some, slice_get, refl, sym, ap, arith}
use Rattle.rq_queue.specs.Numbers.{Contents}
use Rattle.rq_world.specs.Node.{QueuedWrite}
use Rattle.rq_member.proofs.Answering.{half_length, forget_one}
use Rattle.rq_member.proofs.node.ticking.forget_queued.Goals as goal
use Rattle.rq_member.proofs.node.ticking.forget_queued.Goals.{in-Some, in_default}

pub loop-place-preserved : goal.loop-place-preserved
loop-place-preserved c =
    let all = c.args.queue.now in
    let place = c.loop-place.place in
    elim c.match-get_mut.branch [
      | in-Some w ↦ forget_one c.args.now all c.loop-place.queue c.match-get_mut.queue place w.in-Some.item.now w.forget_item.new.item c.loop-place.invariant w.in-Some.ensures.some w.forget_item.ensures w.queue-is
      | in_default w ↦ absurd (omega (arith, c.loop-place-test.true, c.held-place-end.ensures.value, w.in_default.ensures.none.0 refl, ap (λ (q : Contents QueuedWrite). length q.items) c.loop-place.invariant, half_length c.args.now all.items place))
    ]
