use Rattle.std.proofs.Common.{◌≡◌, take}
use Rattle.rq_tables.proofs.creating.copied_columns.Given as goal

abbrev pub invariant-loop-column : goal.invariant-loop-column
invariant-loop-column l = l.all ≡ take l.column-index l.columns
