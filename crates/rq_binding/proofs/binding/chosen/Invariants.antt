use Rattle.std.proofs.Common.{◌≡◌, ◌++◌, drop}
use Rattle.rq_binding.specs.Bound as spec
use Rattle.rq_binding.proofs.binding.chosen.Given as goal

abbrev pub invariant-loop-node : goal.invariant-loop-node
invariant-loop-node l = l.values ++ spec.chosen l.named (drop l.node-index l.nodes) l.rest ≡ spec.chosen l.named l.nodes l.list
