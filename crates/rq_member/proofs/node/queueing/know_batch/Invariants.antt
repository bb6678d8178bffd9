use Rattle.std.proofs.Common.{map, take}
use Rattle.std.specs.Prelude.{All}
use Rattle.rq_world.specs.Node.{QueuedWrite}
use Rattle.rq_member.specs.Queued.{IsQueueable}
use Rattle.rq_member.proofs.node.queueing.know_batch.Given as goal

abbrev pub invariant-loop-place : goal.invariant-loop-place
invariant-loop-place l = All IsQueueable (map (λ (q : QueuedWrite). q.list) (take l.place l.queue.items))
