use Rattle.std.proofs.Common.{◌≡◌, drop}
use Rattle.rq_results.specs.Table as table
use Rattle.rq_results.proofs.results.rowid_column.Given as goal

abbrev pub invariant-loop-column : goal.invariant-loop-column
invariant-loop-column l = table.rowid_column (drop l.column-index l.columns) ≡ table.rowid_column l.columns
