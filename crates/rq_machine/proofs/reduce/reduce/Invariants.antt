use Rattle.std.proofs.Common.{◌≡◌, length}
use Rattle.rq_automaton.specs.Stack as spec
use Rattle.rq_machine.proofs.reduce.reduce.Given as goal

abbrev pub invariant-loop-frame : goal.invariant-loop-frame
invariant-loop-frame l = spec.reduce l.level l.stack l.expr ≡ spec.reduce l.fn.level l.fn.stack l.fn.expr

abbrev pub decreases-loop-frame : goal.decreases-loop-frame
decreases-loop-frame l = length l.stack
