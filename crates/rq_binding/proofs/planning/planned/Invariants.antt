use Rattle.std.proofs.Common.{◌≡◌, drop}
use Rattle.rq_binding.specs.Plan.{planned}
use Rattle.rq_binding.proofs.planning.planned.Given as goal

abbrev pub invariant-loop-node : goal.invariant-loop-node
invariant-loop-node l = planned l.ordered l.moment (drop l.node-index l.nodes) l.plan ≡ planned l.ordered l.moment l.nodes l.fn.plan
