use Rattle.std.proofs.Common.{◌≡◌, ◌++◌, drop}
use Rattle.rq_binding.specs.Nodes.{all_nodes}
use Rattle.rq_binding.proofs.gathering.+gather.Given as goal

-- what is gathered, and then the rest, is the whole
abbrev pub invariant-gather_list-loop-expr : goal.invariant-gather_list-loop-expr
invariant-gather_list-loop-expr l = l.into ++ all_nodes l.sort (drop l.expr-index l.list) ≡ l.fn.into ++ all_nodes l.sort l.list
