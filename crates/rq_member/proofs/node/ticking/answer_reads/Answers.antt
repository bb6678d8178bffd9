use Rattle.std.proofs.Common.{◌≡◌, ◌∙◌, List, take, get_or, Some, slice_get, sym, ap, arith}
use Rattle.rq_world.specs.Node.{PendingRead}
use Rattle.rq_member.proofs.Answering.{found, answer_more, answer_on, answer_as, expired_as, picks_reads}
use Rattle.rq_member.proofs.node.ticking.answer_reads.Goals as goal
use Rattle.rq_member.proofs.node.ticking.answer_reads.Goals.{then-is_expired+in_ok-put_by_number, else-is_expired}

pub loop-place-preserved : goal.loop-place-preserved
loop-place-preserved c = λ list so.
    let now = c.args.now in
    let l = c.args.reads.now.items in
    let x = c.index-read.result.now in
    let at = found l c.loop-place.place x (omega (arith, c.loop-place-test.true, c.len-place-end.ensures)) c.index-read.ensures in
    let before = c.loop-place.invariant list so in
    elim c.if-is_expired.branch [
      | then-is_expired+in_ok-put_by_number w ↦ ap (λ v. v.items) w.answers-is ∙ answer_more _ _ _ (picks_reads now) l c.loop-place.place x w.expired.result c.loop-place.answers.items w.put_by_number.new.answers.items list at (expired_as now c.index-read.result.now c.read.inside.asked c.read.inside.timeout c.is_expired.result c.is_expired.ensures (ap (λ (r : PendingRead). r.asked) c.read.view_is) (ap (λ (r : PendingRead). r.timeout) c.read.view_is) ∙ w.if-is_expired.true) (answer_as now x w.expired.result c.read.inside.asked c.read.inside.pass.id w.expired.ensures (ap (λ (r : PendingRead). r.asked) c.read.view_is) (ap (λ (r : PendingRead). r.pass.id) c.read.view_is)) w.in_ok-put_by_number.ensures before
      | else-is_expired w ↦ ap (λ v. v.items) w.answers-is ∙ answer_on _ _ _ (picks_reads now) l c.loop-place.place x c.loop-place.answers.items list at (expired_as now c.index-read.result.now c.read.inside.asked c.read.inside.timeout c.is_expired.result c.is_expired.ensures (ap (λ (r : PendingRead). r.asked) c.read.view_is) (ap (λ (r : PendingRead). r.timeout) c.read.view_is) ∙ w.if-is_expired.false) before
    ]
