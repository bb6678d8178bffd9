use Rattle.std.proofs.Common.{◌≡◌, map, drop}
use Rattle.rq_results.specs.declared.checking.Allowed.TheVariants as allowed
use Rattle.rq_results.specs.Checks.{first, calls_in}
use Rattle.rq_changes.proofs.inserting.check_calls_in_row.Given as goal

abbrev pub invariant-loop-expr : goal.invariant-loop-expr
invariant-loop-expr l = first (map (calls_in allowed.Columns) (drop l.expr-index l.row)) ≡ first (map (calls_in allowed.Columns) l.row)
