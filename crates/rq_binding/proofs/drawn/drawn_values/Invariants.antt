use Rattle.std.proofs.Common.{◌≡◌, ◌++◌, drop}
use Rattle.rq_binding.specs.Drawn as spec
use Rattle.rq_binding.proofs.drawn.drawn_values.Given as goal

abbrev pub invariant-loop-node : goal.invariant-loop-node
invariant-loop-node l = l.values ++ spec.drawn_values l.texts (drop l.node-index l.nodes) l.rest ≡ spec.drawn_values l.texts l.nodes l.words
