use Rattle.std.proofs.Common.{All, List, subst}
use Rattle.std.proofs.lemmas.List.{take_all}
use Rattle.std.proofs.lemmas.List.Elements.{All-more}
use Rattle.rq_statement.specs.declared.item.Item.{Item}
use Rattle.rq_statement.specs.Items as spec
use Rattle.rq_statement.proofs.item.know_items.Goals as goal

pub loop-item-preserved : goal.loop-item-preserved
loop-item-preserved c =
    All-more spec.IsItem c.args.items.now c.loop-item.item-index c.item-item.result c.loop-item-test.true c.loop-item.invariant (subst spec.IsItem c.item-item.is c.know_item.ensures)

pub returns : goal.returns
returns c = subst (λ (l : List Item). All spec.IsItem l) (take_all c.loop-item.item-index c.args.items.now c.loop-item-test.false) c.loop-item.invariant
