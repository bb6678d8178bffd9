use Rattle.std.proofs.Common.{◌≡◌, ◌∙◌, List, refl, sym, ap, length, map, arith}
use Rattle.rq_raft.specs.Node.{RaftNode}
use Rattle.rq_world.specs.declared.log_entry.LogEntry.{LogEntry}
use Rattle.rq_world.specs.Node.{PendingRead}
use Rattle.rq_world.specs.Reads.{is_due}
use Rattle.rq_member.proofs.Answering.{found}
use Rattle.rq_member.proofs.Applying.{due_taken, due_passed}
use Rattle.rq_member.proofs.node.applying.due_reads.Goals as goal
use Rattle.rq_member.proofs.node.applying.due_reads.Goals.{then-is_due_behind+in_ok-push, else-is_due_behind}

pub loop-place-preserved : goal.loop-place-preserved
loop-place-preserved c =
    let first = c.args.core.now.first in
    let n : RaftNode LogEntry = record c.args.core.now.node { applied = c.args.index } in
    let l = c.args.reads.now in
    let k = c.loop-place.place in
    let x = c.index-reads-place.result in
    let at = found l k x (omega (arith, c.loop-place-test.true)) c.index-reads-place.is in
    let test = sym (c.is_due_behind.ensures ∙ ap (λ (r : PendingRead). is_due first n r.pass) c.read.view_is) in
    elim c.if-is_due_behind.branch [
      | then-is_due_behind+in_ok-push w ↦ ap (λ v. map (λ b. b.now) v.items) w.due-is ∙ due_taken first n (λ b. b.now) c.loop-place.due.items w.push.new.self.items _ l k x at (test ∙ w.if-is_due_behind.true) (ap (λ (r : PendingRead). r.items) c.read.view_is) c.loop-place.invariant w.in_ok-push.ensures.items
      | else-is_due_behind w ↦ ap (λ v. map (λ b. b.now) v.items) w.due-is ∙ due_passed first n (λ b. b.now) c.loop-place.due.items l k x at (test ∙ w.if-is_due_behind.false) c.loop-place.invariant
    ]
