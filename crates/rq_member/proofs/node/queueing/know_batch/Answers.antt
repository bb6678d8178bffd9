use Rattle.std.proofs.Common.{◌≡◌, ◌∙◌, ◌≤◌, List, length, map, refl, sym, ap, subst, arith}
use Rattle.std.specs.Prelude.{All}
use Rattle.rq_world.specs.Node.{QueuedWrite}
use Rattle.rq_member.specs.Queued.{IsQueueable}
use Rattle.rq_member.proofs.Queueing.{queueable_more, all_taken, within_least}
use Rattle.rq_member.proofs.node.queueing.know_batch.Goals as goal
use Rattle.rq_member.proofs.node.queueing.know_batch.Goals.{in-Some, in_default}

pub loop-place-preserved : goal.loop-place-preserved
loop-place-preserved c =
    let queue = c.args.queue.now.items in
    elim c.match-get.branch [
      | in-Some w ↦ queueable_more queue c.loop-place.place w.in-Some.item.now w.in-Some.ensures.some.1 c.loop-place.invariant w.know_item.ensures
      | in_default w ↦ absurd (omega (arith, within_least c.loop-place.place c.min-count.result c.held.result 128 c.loop-place-test.true c.min-count.ensures, c.held.ensures.value, w.in_default.ensures.none.0 refl))
    ]

pub returns : goal.returns
returns c =
    let queue = c.args.queue.now.items in
    subst (λ (l : List QueuedWrite). All IsQueueable (map (λ (q : QueuedWrite). q.list) l)) (all_taken queue c.loop-place.place c.min-count.result c.held.result c.loop-place-test.false c.loop-place.auto.place-end c.min-count.ensures c.held.ensures.value) c.loop-place.invariant
