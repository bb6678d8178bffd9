use Rattle.std.proofs.Common.{◌≡◌, take}
use Rattle.rq_desk.proofs.wanted.copies.Given as goal

abbrev pub invariant-loop-item : goal.invariant-loop-item
invariant-loop-item l = l.items ≡ take l.item-index l.list.items
