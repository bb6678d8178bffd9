use Rattle.std.proofs.Common.{◌≡◌, ◌++◌, drop}
use Rattle.rq_binding.specs.Statements.{every}
use Rattle.rq_binding.specs.Nodes.{all_nodes}
use Rattle.rq_binding.proofs.statement_nodes.gather_rows.Given as goal

-- what is gathered, and then the rest, is the whole
abbrev pub invariant-loop-row : goal.invariant-loop-row
invariant-loop-row l = l.into ++ every (all_nodes l.sort) (drop l.row-index l.rows) ≡ l.fn.into ++ every (all_nodes l.sort) l.rows
