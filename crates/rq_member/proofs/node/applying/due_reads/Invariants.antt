use Rattle.std.proofs.Common.{◌≡◌, map, take}
use Rattle.rq_world.specs.Node.{PendingRead}
use Rattle.rq_member.specs.Applied.{due_reads}
use Rattle.rq_member.proofs.node.applying.due_reads.Given as goal

abbrev pub invariant-loop-place : goal.invariant-loop-place
invariant-loop-place l = map (λ items. items.now) l.due.items ≡ map (λ (r : PendingRead). r.items) (due_reads l.core.first (record l.core.node { applied = l.index }) (take l.place l.reads))
