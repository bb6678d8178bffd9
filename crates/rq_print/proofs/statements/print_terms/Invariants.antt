use Rattle.std.proofs.Common.{◌≡◌, ◌++◌, drop}
use Rattle.std.specs.Prelude.{map}
use Rattle.rq_print.specs.Text as spec
use Rattle.rq_print.proofs.statements.print_terms.Given as goal

-- what is printed, and then the rest, is the whole
abbrev pub invariant-loop-term : goal.invariant-loop-term
invariant-loop-term l = l.into.items ++ spec.listed_behind l.between (map spec.term_text (drop l.term-index l.terms)) ≡ l.fn.into.items ++ spec.listed (map spec.term_text l.terms)
