use Rattle.std.proofs.Common.{◌≡◌, ◌++◌, drop}
use Rattle.rq_meaning.specs.Rows.{all_columns}
use Rattle.rq_changes.proofs.table.all_columns.Given as goal

abbrev pub invariant-loop-column : goal.invariant-loop-column
invariant-loop-column l = l.all ++ drop l.column-index l.columns ≡ all_columns l.columns
