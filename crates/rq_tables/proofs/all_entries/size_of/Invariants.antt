use Rattle.std.proofs.Common.{◌≡◌, ◌+◌, take}
use Rattle.rq_tables.specs.Entries.{listed, at_now, sized}
use Rattle.rq_tables.proofs.all_entries.size_of.Given as goal

abbrev pub invariant-loop-entry : goal.invariant-loop-entry
invariant-loop-entry l = l.size ≡ 4 + sized (listed at_now (take l.entry-index l.entries))
