use Rattle.std.proofs.Common.{◌≡◌, ◌++◌, drop}
use Rattle.rq_binding.specs.Filled.{all_filled}
use Rattle.rq_binding.proofs.filling.+filled.Given as goal

-- what is made, and then the rest, is the whole
abbrev pub invariant-filled_list-loop-expr : goal.invariant-filled_list-loop-expr
invariant-filled_list-loop-expr l = (l.filling ++ (all_filled l.sort (drop l.expr-index l.list) l.left).0, (all_filled l.sort (drop l.expr-index l.list) l.left).1) ≡ all_filled l.sort l.list l.fn.left
