use Rattle.std.proofs.Common.{◌≡◌, ◌∙◌, ◌≤◌, List, length, map, refl, sym, ap, arith}
use Rattle.rq_world.specs.Node.{QueuedWrite}
use Rattle.rq_member.proofs.Queueing.{lists_more, all_taken, within_least}
use Rattle.rq_member.proofs.node.queueing.batch_lists.Goals as goal
use Rattle.rq_member.proofs.node.queueing.batch_lists.Goals.{in-Some+in_ok-list+in_ok-push, in_default}

pub loop-place-preserved : goal.loop-place-preserved
loop-place-preserved c =
    let queue = c.args.queue.now.items in
    elim c.match-get.branch [
      | in-Some+in_ok-list+in_ok-push w ↦ ap (λ v. v.items) w.lists-is ∙ lists_more queue c.loop-place.place w.in-Some.item.now c.loop-place.lists.items w.push.new.self.items w.in_ok-list.list w.in-Some.ensures.some.1 c.loop-place.invariant (w.in_ok-list.ensures ∙ ap (λ (q : QueuedWrite). q.list) w.item.view_is) w.in_ok-push.ensures.items
      | in_default w ↦ absurd (omega (arith, within_least c.loop-place.place c.min-count.result c.held.result 128 c.loop-place-test.true c.min-count.ensures, c.held.ensures.value, w.in_default.ensures.none.0 refl))
    ]

pub returns : goal.returns
returns c =
    let queue = c.args.queue.now.items in
    c.loop-place.invariant ∙ ap (map (λ (q : QueuedWrite). q.list)) (all_taken queue c.loop-place.place c.min-count.result c.held.result c.loop-place-test.false c.loop-place.auto.place-end c.min-count.ensures c.held.ensures.value)
