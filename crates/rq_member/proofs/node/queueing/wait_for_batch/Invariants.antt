use Rattle.std.proofs.Common.{◌≡◌, ◌++◌, List, length, take}
use Rattle.rq_wire.specs.declared.config.Member.{Member}
use Rattle.rq_world.specs.Rules.{batch_waits}
use Rattle.rq_member.proofs.node.queueing.wait_for_batch.Given as goal

abbrev pub invariant-loop-place : goal.invariant-loop-place
invariant-loop-place l = record {
  waits : (first : List Member) → l.waiting.items ≡ l.initial.waiting.items ++ batch_waits first l.index 0 (take l.place l.queue.items);
  old : take (length l.initial.waiting.items) l.waiting.items ≡ l.initial.waiting.items;
}
