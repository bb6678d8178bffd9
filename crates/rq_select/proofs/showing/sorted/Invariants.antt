use Rattle.std.proofs.Common.{◌≡◌, [], map}
use Rattle.rq_select.specs.Planned as planned
use Rattle.rq_select.specs.Sorting as sorting
use Rattle.rq_select.proofs.showing.sorted.Given as goal

abbrev pub invariant-loop-entry : goal.invariant-loop-entry
invariant-loop-entry l = planned.viewed l.sorted.entries ≡ sorting.sorted_among [] (map planned.entry l.yielded)
