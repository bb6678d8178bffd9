use Rattle.std.proofs.Common.{◌≡◌, ◌++◌, drop}
use Rattle.rq_binding.specs.Statements.{every, set_nodes}
use Rattle.rq_binding.proofs.statement_nodes.gather_sets.Given as goal

-- what is gathered, and then the rest, is the whole
abbrev pub invariant-loop-set : goal.invariant-loop-set
invariant-loop-set l = l.into ++ every (set_nodes l.sort) (drop l.set-index l.sets) ≡ l.fn.into ++ every (set_nodes l.sort) l.sets
