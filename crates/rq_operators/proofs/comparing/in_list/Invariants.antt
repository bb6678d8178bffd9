use Rattle.std.proofs.Common.{◌≡◌, drop}
use Rattle.std.specs.Prelude.{Some, false}
use Rattle.rq_operators.specs.Operators as spec
use Rattle.rq_operators.proofs.comparing.in_list.Given as goal

abbrev pub invariant-loop-b : goal.invariant-loop-b
invariant-loop-b l = spec.or_equal l.found l.a (drop l.b-index l.list) ≡ spec.or_equal (Some false) l.a l.list
