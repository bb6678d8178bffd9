use Rattle.std.proofs.Common.{ap, sym, ◌∙◌, ◌+◌, map, drop, Ok}
use Rattle.rq_eval.specs.Names.{row_of}
use Rattle.rq_eval.specs.Outcome.{then_with, all_behind}
use Rattle.rq_select.specs.Planned as planned
use Rattle.rq_select.specs.Select as spec
use Rattle.rq_select.specs.Sorting as sorting
use Rattle.rq_select.proofs.Steps.{all_next}
use Rattle.rq_select.proofs.showing.sort_terms.Goals as goal

pub loop-term-preserved : goal.loop-term-preserved
loop-term-preserved c =
    let l = c.loop-term in
    let f = spec.sort_value (row_of c.args.row.now) c.args.values.now in
    let is = ap (λ o. then_with o (λ x. Ok (sorting.sort_term c.term-item.result.descending x))) c.in-Ok.ensures ∙ ap Ok (sym c.sort_term.ensures) in
    ap (λ ks. all_behind ks (map f (map planned.term_of (drop (l.term-index + 1) c.args.terms.now)))) c.in-Ok-push.ensures
    ∙ all_next planned.term_of f l.into.items c.args.terms.now l.term-index c.term-item.result c.sort_term.result c.loop-term-test.true c.term-item.is is
    ∙ l.invariant
