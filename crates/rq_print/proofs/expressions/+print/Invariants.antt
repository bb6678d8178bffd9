use Rattle.std.proofs.Common.{◌≡◌, ◌++◌, drop}
use Rattle.std.specs.Prelude.{map}
use Rattle.rq_print.specs.Text as spec
use Rattle.rq_print.proofs.expressions.+print.Given as goal

-- what is printed, and then the rest, is the whole
abbrev pub invariant-print_list-loop-expr : goal.invariant-print_list-loop-expr
invariant-print_list-loop-expr l = l.into.items ++ spec.listed_behind l.between (map spec.expr_text (drop l.expr-index l.list)) ≡ l.fn.into.items ++ spec.listed (map spec.expr_text l.list)
