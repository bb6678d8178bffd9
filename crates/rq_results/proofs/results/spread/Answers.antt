use Rattle.std.proofs.Common.{ap, sym, ◌∙◌, ◌+◌, ◌++◌, map, drop, append_assoc}
use Rattle.rq_results.specs.Results as spec
use Rattle.rq_results.specs.Viewed.{shown}
use Rattle.rq_results.proofs.Lists.{rest}
use Rattle.rq_results.proofs.results.spread.Goals as goal

pub loop-item-preserved : goal.loop-item-preserved
loop-item-preserved c =
    let l = c.loop-item in
    let n = c.args.columns in
    let left = spec.spread n (drop (l.item-index + 1) c.args.items.now) in
    ap (λ z. z ++ left) c.in-Ok.ensures
    ∙ append_assoc (map shown l.all.items) (spec.in_place n c.item-item.result) left
    ∙ ap (λ is. map shown l.all.items ++ spec.spread n is) (sym (rest c.args.items.now l.item-index c.item-item.result c.loop-item-test.true c.item-item.is))
    ∙ l.invariant
