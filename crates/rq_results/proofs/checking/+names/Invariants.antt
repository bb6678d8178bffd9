use Rattle.std.proofs.Common.{◌≡◌, map, drop}
use Rattle.rq_results.specs.Checks as spec
use Rattle.rq_results.proofs.checking.+names.Given as goal

abbrev pub invariant-names_in_all-loop-expr : goal.invariant-names_in_all-loop-expr
invariant-names_in_all-loop-expr l = spec.first (map (spec.names_in l.scope) (drop l.expr-index l.list)) ≡ spec.first (map (spec.names_in l.scope) l.list)
