use Rattle.std.proofs.Common.{◌≡◌, drop}
use Rattle.rq_results.specs.declared.checking.Allowed.TheVariants as allowed
use Rattle.rq_results.specs.Checks.{calls_in}
use Rattle.rq_meaning.specs.Checks.{in_rows}
use Rattle.rq_changes.proofs.inserting.check_calls_in_rows.Given as goal

abbrev pub invariant-loop-row : goal.invariant-loop-row
invariant-loop-row l = in_rows (calls_in allowed.Columns) (drop l.row-index l.rows) ≡ in_rows (calls_in allowed.Columns) l.rows
