use Rattle.std.proofs.Common.{◌≡◌, drop}
use Rattle.std.specs.Prelude.{map}
use Rattle.rq_grammar.specs.Proper.{all_of}
use Rattle.rq_statement.specs.Fixed as spec
use Rattle.rq_statement.proofs.fixed.are_sets_fixed.Given as goal

-- what is still to be looked at decides
abbrev pub invariant-loop-set : goal.invariant-loop-set
invariant-loop-set l = all_of (map spec.set_fixed (drop l.set-index l.sets)) ≡ all_of (map spec.set_fixed l.sets)
