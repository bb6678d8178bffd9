use Rattle.std.proofs.Common.{◌≡◌, ◌++◌, drop}
use Rattle.rq_binding.specs.Statements.{each, set_filled}
use Rattle.rq_binding.proofs.statement_filling.filled_sets.Given as goal

abbrev pub invariant-loop-set : goal.invariant-loop-set
invariant-loop-set l = (l.list ++ (each (set_filled l.sort) (drop l.set-index l.sets) l.left).0, (each (set_filled l.sort) (drop l.set-index l.sets) l.left).1) ≡ each (set_filled l.sort) l.sets l.fn.left
