use Rattle.std.proofs.Common.{◌≡◌, drop}
use Rattle.rq_results.specs.Checks as spec
use Rattle.rq_results.proofs.checking.+calls.Given as goal

abbrev pub invariant-calls_in_all-loop-expr : goal.invariant-calls_in_all-loop-expr
invariant-calls_in_all-loop-expr l = spec.first (spec.calls_in_all (drop l.expr-index l.list) l.allowed) ≡ spec.first (spec.calls_in_all l.list l.allowed)
