use Rattle.std.proofs.Common.{drop}
use Rattle.rq_select.specs.Keys as spec
use Rattle.rq_select.proofs.keys.are_plain.Given as goal

abbrev pub invariant-loop-expr : goal.invariant-loop-expr
invariant-loop-expr l = spec.AllPlain (drop l.expr-index l.list) → spec.AllPlain l.list
