use Rattle.std.proofs.Common.{◌≡◌, map, drop}
use Rattle.rq_eval.specs.declared.row.Scope.TheVariants as seen
use Rattle.rq_results.specs.Checks.{first, names_in}
use Rattle.rq_changes.proofs.inserting.check_names_in_row.Given as goal

abbrev pub invariant-loop-expr : goal.invariant-loop-expr
invariant-loop-expr l = first (map (names_in seen.Empty) (drop l.expr-index l.row)) ≡ first (map (names_in seen.Empty) l.row)
