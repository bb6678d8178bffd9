use Rattle.std.proofs.Common.{ap, ◌∙◌, ◌+◌, ◌++◌, map, drop}
use Rattle.rq_results.specs.Results as spec
use Rattle.rq_results.specs.Viewed.{shown}
use Rattle.rq_results.proofs.Lists.{map_next}
use Rattle.rq_results.proofs.heading_texts.headings.Goals as goal

pub loop-item-preserved : goal.loop-item-preserved
loop-item-preserved c =
    let l = c.loop-item in
    let f = spec.heading c.args.scope.now c.args.columns.now in
    ap (λ texts. texts ++ map f (map shown (drop (l.item-index + 1) c.args.items.now))) c.in-Ok-push.ensures.ok
    ∙ map_next shown f l.texts c.args.items.now l.item-index c.item-item.result c.in-Ok.text c.loop-item-test.true c.item-item.is c.in-Ok.ensures
    ∙ l.invariant
