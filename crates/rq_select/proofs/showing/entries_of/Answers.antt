use Rattle.std.proofs.Common.{ap, ◌∙◌, ◌+◌, [], ◌∷◌, map, drop}
use Rattle.std.proofs.lemmas.List.{map-append}
use Rattle.rq_eval.specs.Names.{row_of}
use Rattle.rq_eval.specs.Outcome.{all_behind}
use Rattle.rq_select.specs.Planned as planned
use Rattle.rq_select.specs.Select as spec
use Rattle.rq_select.proofs.Steps.{all_next}
use Rattle.rq_select.proofs.showing.entries_of.Goals as goal

pub loop-row-preserved : goal.loop-row-preserved
loop-row-preserved c =
    let l = c.loop-row in
    let f = spec.entry_of (planned.gives c.args.plan.now.results (map row_of c.args.all.now)) (map planned.term_of c.args.plan.now.terms) in
    let left = map f (map row_of (drop (l.row-index + 1) c.args.rows.now)) in
    ap (λ es. all_behind (map planned.entry es) left) c.in-Ok-push.ensures
    ∙ ap (λ es. all_behind es left) (map-append planned.entry l.entries.items (c.in-Ok.entry ∷ []))
    ∙ all_next row_of f (map planned.entry l.entries.items) c.args.rows.now l.row-index c.row-item.result (planned.entry c.in-Ok.entry) c.loop-row-test.true c.row-item.is c.in-Ok.ensures
    ∙ l.invariant
