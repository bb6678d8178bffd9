use Rattle.std.proofs.Common.{◌≡◌, drop}
use Rattle.rq_meaning.specs.Rows.{rowid_value}
use Rattle.rq_changes.proofs.judging.rowid_value.Given as goal

abbrev pub invariant-loop-i : goal.invariant-loop-i
invariant-loop-i l = rowid_value (drop l.i l.columns) (drop l.i l.row) ≡ rowid_value l.columns l.row
