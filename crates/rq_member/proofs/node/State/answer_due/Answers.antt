use Rattle.std.proofs.Common.{◌≡◌, ◌∙◌, sym, ap, arith, length, get_or, List}
use Rattle.rq_world.specs.Node.{PendingRead}
use Rattle.rq_member.specs.Held.{Held}
use Rattle.rq_member.proofs.Answering.{found}
use Rattle.rq_member.proofs.Passing.{due_more}
use Rattle.rq_member.proofs.node.State.answer_due.Goals as goal

pub loop-place-preserved : goal.loop-place-preserved
loop-place-preserved g c =
    let h = c.args.self.now in
    let same = ap (λ (k : Held). k.node.pending_reads) c.self.view_is in
    let x = c.index.result.now in
    let at = found h.node.pending_reads c.loop-place.place x (omega (arith, c.loop-place-test.true, c.len-place-end.ensures, ap length same)) (c.index.ensures ∙ ap (λ (l : List PendingRead). get_or l c.loop-place.place x) same) in
    due_more h.first h.node h.node.pending_reads c.loop-place.place x c.args.answers.now.items c.loop-place.answers.items c.answer_if_due.new.answers.items at c.loop-place.invariant c.in_ok-answer_if_due.ensures.ok
