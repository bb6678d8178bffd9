use Rattle.std.proofs.Common.{◌≡◌, map, drop}
use Rattle.rq_eval.specs.Names.{row_of}
use Rattle.rq_eval.specs.Outcome.{all_of, all_behind}
use Rattle.rq_select.specs.Planned as planned
use Rattle.rq_select.specs.Select as spec
use Rattle.rq_select.proofs.showing.entries_of.Given as goal

abbrev pub invariant-loop-row : goal.invariant-loop-row
invariant-loop-row l =
    all_behind (map planned.entry l.entries.items) (map (spec.entry_of (planned.gives l.plan.results (map row_of l.all)) (map planned.term_of l.plan.terms)) (map row_of (drop l.row-index l.rows)))
    ≡ all_of (map (spec.entry_of (planned.gives l.plan.results (map row_of l.all)) (map planned.term_of l.plan.terms)) (map row_of l.rows))
