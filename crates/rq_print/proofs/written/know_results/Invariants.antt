use Rattle.std.proofs.Common.{◌≡◌, drop}
use Rattle.std.specs.Prelude.{map}
use Rattle.rq_grammar.specs.Proper.{all_of}
use Rattle.rq_print.specs.Written as spec
use Rattle.rq_print.proofs.written.know_results.Given as goal

-- what is still to be looked at decides
abbrev pub invariant-loop-item : goal.invariant-loop-item
invariant-loop-item l = all_of (map spec.result_written (drop l.item-index l.results)) ≡ all_of (map spec.result_written l.results)
