use Rattle.std.proofs.Common.{◌≡◌, drop}
use Rattle.rq_binding.specs.Bound as spec
use Rattle.rq_binding.proofs.binding.missing.Given as goal

abbrev pub invariant-loop-node : goal.invariant-loop-node
invariant-loop-node l = spec.missing l.named (drop l.node-index l.nodes) ≡ spec.missing l.named l.nodes
