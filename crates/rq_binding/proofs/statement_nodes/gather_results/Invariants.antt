use Rattle.std.proofs.Common.{◌≡◌, ◌++◌, drop}
use Rattle.rq_binding.specs.Statements.{every, result_nodes}
use Rattle.rq_binding.proofs.statement_nodes.gather_results.Given as goal

-- what is gathered, and then the rest, is the whole
abbrev pub invariant-loop-item : goal.invariant-loop-item
invariant-loop-item l = l.into ++ every (result_nodes l.sort) (drop l.item-index l.results) ≡ l.fn.into ++ every (result_nodes l.sort) l.results
