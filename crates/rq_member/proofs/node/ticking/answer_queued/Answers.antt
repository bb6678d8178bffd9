use Rattle.std.proofs.Common.{◌≡◌, ◌∙◌, ◌≤◌, List, length, take, Some, slice_get, refl, sym, ap, arith}
use Rattle.rq_member.proofs.Answering.{queued_more}
use Rattle.rq_member.proofs.node.ticking.answer_queued.Goals as goal
use Rattle.rq_member.proofs.node.ticking.answer_queued.Goals.{in-Some+in_ok-answer_item, in_default}

pub loop-place-preserved : goal.loop-place-preserved
loop-place-preserved c = λ list so.
    let l = c.args.queue.now.items in
    elim c.match-get.branch [
      | in-Some+in_ok-answer_item w ↦ ap (λ v. v.items) w.answers-is ∙ queued_more c.args.now l c.loop-place.place w.in-Some.item.now c.loop-place.answers.items w.answer_item.new.answers.items list w.in-Some.ensures.some.1 w.in_ok-answer_item.ensures (c.loop-place.invariant list so)
      | in_default w ↦ absurd (omega (arith, c.loop-place-test.true, c.held-place-end.ensures.value, w.in_default.ensures.none.0 refl))
    ]
