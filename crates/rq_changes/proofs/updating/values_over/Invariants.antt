use Rattle.std.proofs.Common.{◌≡◌, [], map, drop}
use Rattle.rq_eval.specs.Names.{row_of}
use Rattle.rq_eval.specs.Outcome.{all_behind}
use Rattle.rq_eval.specs.Resolved.{evaluated, all_evaluated}
use Rattle.rq_changes.proofs.updating.values_over.Given as goal

abbrev pub invariant-loop-expr : goal.invariant-loop-expr
invariant-loop-expr l = all_behind l.values (map (λ y. y (row_of l.row)) (map (evaluated []) (drop l.expr-index l.exprs))) ≡ all_evaluated [] l.exprs (row_of l.row)
