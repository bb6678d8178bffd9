use Rattle.std.proofs.Common.{◌≡◌, ◌++◌, drop}
use Rattle.std.specs.Prelude.{map}
use Rattle.rq_print.specs.Text as spec
use Rattle.rq_print.proofs.statements.print_names.Given as goal

-- what is printed, and then the rest, is the whole
abbrev pub invariant-loop-name : goal.invariant-loop-name
invariant-loop-name l = l.into.items ++ spec.listed_behind l.between (map spec.name_text (drop l.name-index l.names)) ≡ l.fn.into.items ++ spec.listed (map spec.name_text l.names)
