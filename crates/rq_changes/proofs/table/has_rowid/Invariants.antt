use Rattle.std.proofs.Common.{◌≡◌, drop}
use Rattle.rq_meaning.specs.Rows.{has_rowid}
use Rattle.rq_changes.proofs.table.has_rowid.Given as goal

abbrev pub invariant-loop-column : goal.invariant-loop-column
invariant-loop-column l = has_rowid (drop l.column-index l.columns) ≡ has_rowid l.columns
