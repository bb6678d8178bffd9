use Rattle.std.proofs.Common.{◌≡◌, [], take, drop}
use Rattle.rq_results.specs.Checks.{first}
use Rattle.rq_meaning.specs.Checks.{column_checks}
use Rattle.rq_tables.proofs.creating.check_columns.Given as goal

abbrev pub invariant-loop-i : goal.invariant-loop-i
invariant-loop-i l = first (column_checks l.table (take l.i l.columns) (drop l.i l.columns)) ≡ first (column_checks l.table [] l.columns)
