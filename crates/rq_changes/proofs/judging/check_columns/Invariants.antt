use Rattle.std.proofs.Common.{◌≡◌, drop}
use Rattle.rq_results.specs.Checks.{first}
use Rattle.rq_meaning.specs.Rows.{repeats}
use Rattle.rq_changes.specs.Staged.{now_of}
use Rattle.rq_changes.proofs.judging.check_columns.Given as goal

abbrev pub invariant-loop-i : goal.invariant-loop-i
invariant-loop-i l = first (repeats (now_of l.table) l.key l.row l.i (drop l.i l.table.rows.columns)) ≡ first (repeats (now_of l.table) l.key l.row 0 l.table.rows.columns)
