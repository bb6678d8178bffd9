use Rattle.std.proofs.Common.{◌≡◌, ◌++◌, drop}
use Rattle.std.specs.Prelude.{map}
use Rattle.rq_print.specs.Text as spec
use Rattle.rq_print.proofs.statements.print_columns.Given as goal

-- what is printed, and then the rest, is the whole
abbrev pub invariant-loop-column : goal.invariant-loop-column
invariant-loop-column l = l.into.items ++ spec.listed_behind l.between (map spec.column_text (drop l.column-index l.columns)) ≡ l.fn.into.items ++ spec.listed (map spec.column_text l.columns)
