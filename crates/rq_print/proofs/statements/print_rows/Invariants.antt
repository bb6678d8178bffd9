use Rattle.std.proofs.Common.{◌≡◌, ◌++◌, drop}
use Rattle.std.specs.Prelude.{map}
use Rattle.rq_print.specs.Text as spec
use Rattle.rq_print.proofs.statements.print_rows.Given as goal

-- what is printed, and then the rest, is the whole
abbrev pub invariant-loop-row : goal.invariant-loop-row
invariant-loop-row l = l.into.items ++ spec.listed_behind l.between (map spec.row_text (drop l.row-index l.rows)) ≡ l.fn.into.items ++ spec.listed (map spec.row_text l.rows)
