use Rattle.std.proofs.Common.{◌≡◌, drop}
use Rattle.std.specs.Prelude.{map}
use Rattle.rq_grammar.specs.Proper.{all_of}
use Rattle.rq_print.specs.Written as spec
use Rattle.rq_print.proofs.written.+know.Given as goal

-- what is still to be looked at decides
abbrev pub invariant-know_list-loop-expr : goal.invariant-know_list-loop-expr
invariant-know_list-loop-expr l = all_of (map spec.is_written (drop l.expr-index l.list)) ≡ all_of (map spec.is_written l.list)
