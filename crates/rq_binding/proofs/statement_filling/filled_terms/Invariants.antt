use Rattle.std.proofs.Common.{◌≡◌, ◌++◌, drop}
use Rattle.rq_binding.specs.Statements.{each, term_filled}
use Rattle.rq_binding.proofs.statement_filling.filled_terms.Given as goal

abbrev pub invariant-loop-term : goal.invariant-loop-term
invariant-loop-term l = (l.list ++ (each (term_filled l.sort) (drop l.term-index l.order) l.left).0, (each (term_filled l.sort) (drop l.term-index l.order) l.left).1) ≡ each (term_filled l.sort) l.order l.fn.left
