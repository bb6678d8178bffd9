use Rattle.std.proofs.Common.{◌≡◌, drop}
use Rattle.std.specs.Prelude.{map}
use Rattle.rq_grammar.specs.Proper.{all_of}
use Rattle.rq_print.specs.Written as spec
use Rattle.rq_print.proofs.written.know_sets.Given as goal

-- what is still to be looked at decides
abbrev pub invariant-loop-set : goal.invariant-loop-set
invariant-loop-set l = all_of (map spec.set_written (drop l.set-index l.sets)) ≡ all_of (map spec.set_written l.sets)
