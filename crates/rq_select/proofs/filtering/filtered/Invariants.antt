use Rattle.std.proofs.Common.{◌≡◌, [], map, drop}
use Rattle.rq_eval.specs.Names.{row_of}
use Rattle.rq_select.specs.Planned as planned
use Rattle.rq_select.specs.Select as spec
use Rattle.rq_select.proofs.filtering.filtered.Given as goal

abbrev pub invariant-loop-row : goal.invariant-loop-row
invariant-loop-row l =
    spec.filtered (planned.passes l.filter) (map row_of l.left.items) (map row_of (drop l.row-index l.rows))
    ≡ spec.filtered (planned.passes l.filter) [] (map row_of l.rows)
