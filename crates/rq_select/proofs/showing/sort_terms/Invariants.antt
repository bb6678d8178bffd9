use Rattle.std.proofs.Common.{◌≡◌, map, drop}
use Rattle.rq_eval.specs.Names.{row_of}
use Rattle.rq_eval.specs.Outcome.{all_of, all_behind}
use Rattle.rq_select.specs.Planned as planned
use Rattle.rq_select.specs.Select as spec
use Rattle.rq_select.proofs.showing.sort_terms.Given as goal

abbrev pub invariant-loop-term : goal.invariant-loop-term
invariant-loop-term l =
    all_behind l.into.items (map (spec.sort_value (row_of l.row) l.values) (map planned.term_of (drop l.term-index l.terms)))
    ≡ all_of (map (spec.sort_value (row_of l.row) l.values) (map planned.term_of l.terms))
