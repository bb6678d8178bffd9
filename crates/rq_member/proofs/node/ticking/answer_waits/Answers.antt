use Rattle.std.proofs.Common.{◌≡◌, ◌∙◌, List, take, get_or, Some, slice_get, sym, ap, arith}
use Rattle.rq_member.proofs.Answering.{found, answer_more, answer_on, picks_waiting}
use Rattle.rq_member.proofs.node.ticking.answer_waits.Goals as goal
use Rattle.rq_member.proofs.node.ticking.answer_waits.Goals.{then-is_expired+in_ok-put_by_number, else-is_expired}

pub loop-place-preserved : goal.loop-place-preserved
loop-place-preserved c = λ list so.
    let now = c.args.now in
    let l = c.args.waiting.now.items in
    let x = c.index-wait.result.now in
    let at = found l c.loop-place.place x (omega (arith, c.loop-place-test.true, c.len-place-end.ensures)) c.index-wait.ensures in
    let before = c.loop-place.invariant list so in
    elim c.if-is_expired.branch [
      | then-is_expired+in_ok-put_by_number w ↦ ap (λ v. v.items) w.answers-is ∙ answer_more _ _ _ (picks_waiting now) l c.loop-place.place x w.expired.result c.loop-place.answers.items w.put_by_number.new.answers.items list at (sym c.is_expired.ensures ∙ w.if-is_expired.true) w.expired.ensures w.in_ok-put_by_number.ensures before
      | else-is_expired w ↦ ap (λ v. v.items) w.answers-is ∙ answer_on _ _ _ (picks_waiting now) l c.loop-place.place x c.loop-place.answers.items list at (sym c.is_expired.ensures ∙ w.if-is_expired.false) before
    ]
