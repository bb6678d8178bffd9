use Rattle.std.proofs.Common.{◌≡◌, drop}
use Rattle.std.specs.Prelude.{map}
use Rattle.rq_grammar.specs.Proper.{all_of}
use Rattle.rq_statement.specs.Fixed as spec
use Rattle.rq_statement.proofs.fixed.are_results_fixed.Given as goal

-- what is still to be looked at decides
abbrev pub invariant-loop-item : goal.invariant-loop-item
invariant-loop-item l = all_of (map spec.result_fixed (drop l.item-index l.results)) ≡ all_of (map spec.result_fixed l.results)
