use Rattle.std.proofs.Common.{◌≡◌}
use Rattle.rq_member.proofs.Answering.{half_live}
use Rattle.rq_member.proofs.node.ticking.forget_queued.Given as goal

abbrev pub invariant-loop-place : goal.invariant-loop-place
invariant-loop-place l = l.queue ≡ record l.initial.queue { items = half_live l.now l.place l.initial.queue.items }
