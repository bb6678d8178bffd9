use Rattle.std.proofs.Common.{◌≡◌, map, drop}
use Rattle.rq_eval.specs.Names.{row_of}
use Rattle.rq_eval.specs.Outcome.{all_of, all_behind}
use Rattle.rq_eval.specs.Value.{Gives}
use Rattle.rq_select.specs.Planned as planned
use Rattle.rq_select.proofs.showing.results_of.Given as goal

abbrev pub invariant-loop-expr : goal.invariant-loop-expr
invariant-loop-expr l =
    all_behind l.values (map (λ (g : Gives). g (row_of l.row)) (planned.gives (drop l.expr-index l.results) (map row_of l.all)))
    ≡ all_of (map (λ (g : Gives). g (row_of l.row)) (planned.gives l.results (map row_of l.all)))
