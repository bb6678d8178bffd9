use Rattle.std.proofs.Common.{◌≡◌, drop}
use Rattle.std.specs.Prelude.{map}
use Rattle.rq_grammar.specs.Proper.{all_of}
use Rattle.rq_print.specs.Written as spec
use Rattle.rq_print.proofs.written.know_terms.Given as goal

-- what is still to be looked at decides
abbrev pub invariant-loop-term : goal.invariant-loop-term
invariant-loop-term l = all_of (map spec.term_written (drop l.term-index l.terms)) ≡ all_of (map spec.term_written l.terms)
