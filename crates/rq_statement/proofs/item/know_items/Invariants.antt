use Rattle.std.proofs.Common.{take}
use Rattle.std.specs.Prelude.{All}
use Rattle.rq_statement.specs.Items as spec
use Rattle.rq_statement.proofs.item.know_items.Given as goal

abbrev pub invariant-loop-item : goal.invariant-loop-item
invariant-loop-item l = All spec.IsItem (take l.item-index l.items)
