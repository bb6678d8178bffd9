use Rattle.std.proofs.Common.{◌≡◌, drop}
use Rattle.std.specs.Prelude.{map}
use Rattle.rq_grammar.specs.Proper.{all_of}
use Rattle.rq_statement.specs.Fixed as spec
use Rattle.rq_statement.proofs.fixed.is_row_fixed.Given as goal

-- what is still to be looked at decides
abbrev pub invariant-loop-expr : goal.invariant-loop-expr
invariant-loop-expr l = all_of (map spec.is_fixed (drop l.expr-index l.row)) ≡ all_of (map spec.is_fixed l.row)
