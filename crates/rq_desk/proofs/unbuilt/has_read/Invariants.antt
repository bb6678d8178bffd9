use Rattle.std.proofs.Common.{◌≡◌, drop}
use Rattle.rq_desk.specs.Asks.{has_read}
use Rattle.rq_desk.proofs.unbuilt.has_read.Given as goal

abbrev pub invariant-loop-item : goal.invariant-loop-item
invariant-loop-item l = has_read (drop l.item-index l.items) ≡ has_read l.items
