use Rattle.std.proofs.Common.{◌≡◌}
use Rattle.rq_rows.specs.Slots.{slots_of, live}
use Rattle.rq_rows.proofs.sweeping.settle.Given as goal

abbrev pub invariant-loop-i : goal.invariant-loop-i
invariant-loop-i l = live (slots_of l.slots.entries) ≡ live (slots_of l.fn.slots.entries)
