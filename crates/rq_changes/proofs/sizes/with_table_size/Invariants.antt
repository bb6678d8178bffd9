use Rattle.std.proofs.Common.{◌≡◌, ◌+◌, ◌<◌, ◌^◌, drop}
use Rattle.rq_meaning.specs.Database as db
use Rattle.rq_changes.proofs.sizes.with_table_size.Given as goal

abbrev pub invariant-loop-column : goal.invariant-loop-column
invariant-loop-column l = record {
  sum : l.total + db.columns_size (drop l.column-index l.columns) ≡ l.size + db.empty_size l.name l.columns;
  small : l.total < 2 ^ 63 + 268435500;
}
