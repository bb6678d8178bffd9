use Rattle.std.proofs.Common.{◌≡◌, map, take}
use Rattle.rq_world.specs.Node.{QueuedWrite}
use Rattle.rq_member.proofs.node.queueing.batch_lists.Given as goal

abbrev pub invariant-loop-place : goal.invariant-loop-place
invariant-loop-place l = l.lists.items ≡ map (λ (q : QueuedWrite). q.list) (take l.place l.queue.items)
