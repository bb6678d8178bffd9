use Rattle.std.proofs.Common.{◌≡◌, ◌++◌, drop}
use Rattle.rq_binding.specs.Statements.{each}
use Rattle.rq_binding.specs.Filled.{all_filled}
use Rattle.rq_binding.proofs.statement_filling.filled_rows.Given as goal

abbrev pub invariant-loop-row : goal.invariant-loop-row
invariant-loop-row l = (l.list ++ (each (all_filled l.sort) (drop l.row-index l.rows) l.left).0, (each (all_filled l.sort) (drop l.row-index l.rows) l.left).1) ≡ each (all_filled l.sort) l.rows l.fn.left
