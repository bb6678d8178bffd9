use Rattle.std.proofs.Common.{◌≡◌, take}
use Rattle.rq_grammar.proofs.copies.+copied.Given as goal

abbrev pub invariant-copy_list-loop-expr : goal.invariant-copy_list-loop-expr
invariant-copy_list-loop-expr l = l.copy ≡ take l.expr-index l.list
