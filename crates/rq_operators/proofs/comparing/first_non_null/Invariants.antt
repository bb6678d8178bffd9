use Rattle.std.proofs.Common.{◌≡◌, drop}
use Rattle.rq_operators.specs.Operators as spec
use Rattle.rq_operators.proofs.comparing.first_non_null.Given as goal

abbrev pub invariant-loop-value : goal.invariant-loop-value
invariant-loop-value l = spec.first_non_null (drop l.value-index l.list) ≡ spec.first_non_null l.list
