use Rattle.std.proofs.Common.{◌≡◌, drop}
use Rattle.rq_eval.specs.declared.row.Scope.TheVariants as seen
use Rattle.rq_results.specs.Checks.{names_in}
use Rattle.rq_meaning.specs.Checks.{in_rows}
use Rattle.rq_changes.proofs.inserting.check_names_in_rows.Given as goal

abbrev pub invariant-loop-row : goal.invariant-loop-row
invariant-loop-row l = in_rows (names_in seen.Empty) (drop l.row-index l.rows) ≡ in_rows (names_in seen.Empty) l.rows
