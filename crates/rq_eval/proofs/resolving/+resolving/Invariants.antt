use Rattle.std.proofs.Common.{◌≡◌, ◌++◌, drop}
use Rattle.rq_eval.specs.Resolved as spec
use Rattle.rq_eval.proofs.resolving.+resolving.Given as goal

abbrev pub invariant-all_resolved-loop-expr : goal.invariant-all_resolved-loop-expr
invariant-all_resolved-loop-expr l = l.found ++ spec.all_resolved l.scope (drop l.expr-index l.exprs) l.aggregates ≡ spec.all_resolved l.scope l.exprs l.aggregates
