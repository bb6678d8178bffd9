use Rattle.std.proofs.Common.{◌≡◌, drop}
use Rattle.rq_asking.specs.Asked.{has_write}
use Rattle.rq_asking.proofs.preparing.has_write.Given as goal

abbrev pub invariant-loop-item : goal.invariant-loop-item
invariant-loop-item l = has_write (drop l.item-index l.items) ≡ has_write l.items
