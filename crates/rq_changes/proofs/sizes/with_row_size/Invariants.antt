use Rattle.std.proofs.Common.{◌≡◌, ◌+◌, ◌≤◌, drop}
use Rattle.rq_meaning.specs.Database as db
use Rattle.rq_changes.proofs.sizes.with_row_size.Given as goal

abbrev pub invariant-loop-i : goal.invariant-loop-i
invariant-loop-i l = record {
  sum : l.total + db.cells_size (drop l.i l.columns) (drop l.i l.row) ≡ l.size + db.row_size l.columns l.row;
  small : l.total ≤ 268435464;
}
