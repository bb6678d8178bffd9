use Rattle.std.proofs.Common.{◌≡◌, ◌++◌, drop}
use Rattle.std.specs.Prelude.{map}
use Rattle.rq_print.specs.Text as spec
use Rattle.rq_print.proofs.statements.print_sets.Given as goal

-- what is printed, and then the rest, is the whole
abbrev pub invariant-loop-set : goal.invariant-loop-set
invariant-loop-set l = l.into.items ++ spec.listed_behind l.between (map spec.set_text (drop l.set-index l.sets)) ≡ l.fn.into.items ++ spec.listed (map spec.set_text l.sets)
