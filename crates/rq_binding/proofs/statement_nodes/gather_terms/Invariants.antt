use Rattle.std.proofs.Common.{◌≡◌, ◌++◌, drop}
use Rattle.rq_binding.specs.Statements.{every, term_nodes}
use Rattle.rq_binding.proofs.statement_nodes.gather_terms.Given as goal

-- what is gathered, and then the rest, is the whole
abbrev pub invariant-loop-term : goal.invariant-loop-term
invariant-loop-term l = l.into ++ every (term_nodes l.sort) (drop l.term-index l.order) ≡ l.fn.into ++ every (term_nodes l.sort) l.order
