use Rattle.std.proofs.Common.{◌≡◌, ◌++◌, drop}
use Rattle.rq_binding.specs.Statements.{each, result_filled}
use Rattle.rq_binding.proofs.statement_filling.filled_results.Given as goal

abbrev pub invariant-loop-item : goal.invariant-loop-item
invariant-loop-item l = (l.list ++ (each (result_filled l.sort) (drop l.item-index l.results) l.left).0, (each (result_filled l.sort) (drop l.item-index l.results) l.left).1) ≡ each (result_filled l.sort) l.results l.fn.left
