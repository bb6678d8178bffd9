use Rattle.std.proofs.Common.{◌≡◌, ◌++◌}
use Rattle.rq_asking.proofs.asking.list_of.Given as goal

abbrev pub invariant-loop-item : goal.invariant-loop-item
invariant-loop-item l = (l.list.transaction ≡ l.fn.transaction) × (l.list.items ++ l.item-iterator.rest.items ≡ l.fn.items)
