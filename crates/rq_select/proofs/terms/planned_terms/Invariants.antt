use Rattle.std.proofs.Common.{◌≡◌, map, drop}
use Rattle.rq_eval.specs.Outcome.{all_of, all_behind}
use Rattle.rq_select.specs.Planned as planned
use Rattle.rq_results.specs.Viewed.{shown}
use Rattle.rq_select.proofs.terms.planned_terms.Given as goal

abbrev pub invariant-loop-term : goal.invariant-loop-term
invariant-loop-term l =
    all_behind l.terms (map (planned.planned_term l.scope (map shown l.items)) (drop l.term-index l.order))
    ≡ all_of (map (planned.planned_term l.scope (map shown l.items)) l.order)
