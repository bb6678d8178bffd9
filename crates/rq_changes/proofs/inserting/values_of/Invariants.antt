use Rattle.std.proofs.Common.{◌≡◌, map, drop}
use Rattle.rq_eval.specs.declared.row.Scope.TheVariants as seen
use Rattle.rq_eval.specs.Outcome.{all_behind}
use Rattle.rq_eval.specs.Value.{value, no_row}
use Rattle.rq_meaning.specs.Changes.{values_of}
use Rattle.rq_changes.proofs.inserting.values_of.Given as goal

abbrev pub invariant-loop-expr : goal.invariant-loop-expr
invariant-loop-expr l = all_behind l.row (map (λ x. value seen.Empty x no_row) (drop l.expr-index l.exprs)) ≡ values_of l.exprs
