use Rattle.std.proofs.Common.{◌≡◌, ◌++◌, take, drop}
use Rattle.rq_meaning.specs.Rows.{with_rowid}
use Rattle.rq_changes.proofs.judging.lay_rowid.Given as goal

abbrev pub invariant-loop-i : goal.invariant-loop-i
invariant-loop-i l = take l.i l.row.items ++ with_rowid l.key (drop l.i l.columns) (drop l.i l.row.items) ≡ with_rowid l.key l.columns l.initial.row.items
