use Rattle.std.proofs.Common.{◌≡◌, map, drop}
use Rattle.rq_results.specs.Checks as spec
use Rattle.rq_results.proofs.checking.+aggregates.Given as goal

abbrev pub invariant-any_aggregate-loop-expr : goal.invariant-any_aggregate-loop-expr
invariant-any_aggregate-loop-expr l = spec.any (map spec.has_aggregate (drop l.expr-index l.list)) ≡ spec.any (map spec.has_aggregate l.list)
