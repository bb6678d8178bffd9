use Rattle.std.proofs.Common.{◌≡◌, drop}
use Rattle.std.specs.Prelude.{map}
use Rattle.rq_grammar.specs.Proper.{all_of}
use Rattle.rq_statement.specs.Fixed as spec
use Rattle.rq_statement.proofs.fixed.are_terms_fixed.Given as goal

-- what is still to be looked at decides
abbrev pub invariant-loop-term : goal.invariant-loop-term
invariant-loop-term l = all_of (map spec.term_fixed (drop l.term-index l.terms)) ≡ all_of (map spec.term_fixed l.terms)
