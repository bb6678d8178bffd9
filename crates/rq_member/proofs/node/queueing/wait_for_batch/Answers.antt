use Rattle.std.proofs.Common.{◌≡◌, ◌∙◌, ◌≤◌, ◌++◌, List, [], length, take, refl, sym, ap, arith}
use Rattle.rq_wire.specs.declared.config.Member.{Member}
use Rattle.rq_world.specs.Rules.{batch_waits}
use Rattle.rq_world.specs.declared.waiting.Waiting.{Waiting}
use Rattle.rq_member.proofs.Queueing.{waits_more, taken_back, all_taken, within_least}
use Rattle.rq_member.proofs.node.queueing.wait_for_batch.Goals as goal
use Rattle.rq_member.proofs.node.queueing.wait_for_batch.Goals.{in-Some+in_ok-wait_for_item, in_default}

pub loop-place-preserved : goal.loop-place-preserved
loop-place-preserved c =
    let queue = c.args.queue.now.items in
    elim c.match-get.branch [
      | in-Some+in_ok-wait_for_item w ↦
          let within = within_least c.loop-place.place c.min-count.result c.held.result 128 c.loop-place-test.true c.min-count.ensures in
          let waits = λ (first : List Member). ap (λ v. v.items) w.waiting-is ∙ waits_more first c.args.index queue c.loop-place.place w.in-Some.item.now c.args.waiting.now.items c.loop-place.waiting.items w.wait_for_item.new.waiting.items w.in-Some.ensures.some.1 (omega (arith, within, c.held.ensures.value)) (c.loop-place.invariant.waits first) (w.in_ok-wait_for_item.ensures.ok first) in
          record { waits = waits; old = ap (take (length c.args.waiting.now.items)) (waits []) ∙ taken_back c.args.waiting.now.items _ }
      | in_default w ↦ absurd (omega (arith, within_least c.loop-place.place c.min-count.result c.held.result 128 c.loop-place-test.true c.min-count.ensures, c.held.ensures.value, w.in_default.ensures.none.0 refl))
    ]

pub returns-clause-ok : goal.returns-clause-ok
returns-clause-ok c = λ (first : List Member).
    let queue = c.args.queue.now.items in
    c.loop-place.invariant.waits first ∙ ap (λ l. c.args.waiting.now.items ++ batch_waits first c.args.index 0 l) (all_taken queue c.loop-place.place c.min-count.result c.held.result c.loop-place-test.false c.loop-place.auto.place-end c.min-count.ensures c.held.ensures.value)
