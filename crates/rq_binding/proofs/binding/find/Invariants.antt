use Rattle.std.proofs.Common.{◌≡◌, drop}
use Rattle.rq_binding.specs.Bound as spec
use Rattle.rq_binding.proofs.binding.find.Given as goal

abbrev pub invariant-loop-pair : goal.invariant-loop-pair
invariant-loop-pair l = spec.find l.name (drop l.pair-index l.named) ≡ spec.find l.name l.named
