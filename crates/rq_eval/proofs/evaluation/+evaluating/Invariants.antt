use Rattle.std.proofs.Common.{◌≡◌, drop, map}
use Rattle.rq_eval.specs.Outcome.{all_behind}
use Rattle.rq_operators.specs.Aggregates.{start}
use Rattle.rq_eval.specs.Aggregates as aggregates
use Rattle.rq_eval.specs.Names.{row_of}
use Rattle.rq_eval.specs.Resolved as spec
use Rattle.rq_eval.proofs.evaluation.+evaluating.Given as goal

abbrev pub invariant-all_evaluated-loop-expr : goal.invariant-all_evaluated-loop-expr
invariant-all_evaluated-loop-expr l =
    all_behind l.found (map (λ y. y (row_of l.row)) (map (spec.evaluated (map row_of l.rows)) (drop l.expr-index l.exprs)))
    ≡ spec.all_evaluated (map row_of l.rows) l.exprs (row_of l.row)

abbrev pub invariant-over-loop-row : goal.invariant-over-loop-row
invariant-over-loop-row l =
    aggregates.over l.op (spec.evaluated (map row_of l.rows) l.operand) l.so_far (map row_of (drop l.row-index l.rows))
    ≡ aggregates.over l.op (spec.evaluated (map row_of l.rows) l.operand) (start l.op) (map row_of l.rows)
