use Rattle.std.proofs.Common.{◌≡◌, ◌++◌, drop}
use Rattle.std.specs.Prelude.{map}
use Rattle.rq_print.specs.Text as spec
use Rattle.rq_print.proofs.statements.print_results.Given as goal

-- what is printed, and then the rest, is the whole
abbrev pub invariant-loop-result : goal.invariant-loop-result
invariant-loop-result l = l.into.items ++ spec.listed_behind l.between (map spec.result_text (drop l.result-index l.results)) ≡ l.fn.into.items ++ spec.listed (map spec.result_text l.results)
