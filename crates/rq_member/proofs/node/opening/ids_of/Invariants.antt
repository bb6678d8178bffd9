use Rattle.std.proofs.Common.{◌≡◌, take}
use Rattle.rq_world.specs.Node.{members}
use Rattle.rq_member.proofs.node.opening.ids_of.Given as goal

abbrev pub invariant-loop-place : goal.invariant-loop-place
invariant-loop-place l = l.ids.items ≡ members (take l.place l.members)
