use Rattle.std.proofs.Common.{ap, ◌∙◌, ◌+◌, map, drop}
use Rattle.rq_eval.specs.Names.{row_of}
use Rattle.rq_select.specs.Planned as planned
use Rattle.rq_select.specs.Select as spec
use Rattle.rq_select.proofs.Steps.{filtered_next}
use Rattle.rq_select.proofs.filtering.filtered.Goals as goal

pub loop-row-preserved : goal.loop-row-preserved
loop-row-preserved c =
    let p = planned.passes c.args.filter.now in
    ap (λ there. spec.filtered p there (map row_of (drop (c.loop-row.row-index + 1) c.args.rows.now))) c.in-Ok-keep.ensures
    ∙ filtered_next row_of p (map row_of c.loop-row.left.items) c.args.rows.now c.loop-row.row-index c.row-item.result c.in-Ok.passed c.loop-row-test.true c.row-item.is c.in-Ok.ensures
    ∙ c.loop-row.invariant
