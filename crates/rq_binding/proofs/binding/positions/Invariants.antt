use Rattle.std.proofs.Common.{◌≡◌, ◌≤◌, ◌+◌, drop}
use Rattle.rq_binding.specs.Bound as spec
use Rattle.rq_binding.proofs.binding.positions.Given as goal

abbrev pub invariant-loop-node : goal.invariant-loop-node
invariant-loop-node l = (l.count + spec.positions (drop l.node-index l.nodes) ≡ spec.positions l.nodes) × (l.count ≤ l.node-index)
