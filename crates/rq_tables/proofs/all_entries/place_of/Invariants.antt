use Rattle.std.proofs.Common.{◌≡◌, None, take}
use Rattle.std.specs.FinMap.Entries.{find}
use Rattle.rq_meaning.specs.Database.{name_cmp, lower}
use Rattle.rq_tables.specs.Entries.{listed, at_now}
use Rattle.rq_tables.proofs.all_entries.place_of.Given as goal

abbrev pub invariant-loop-i : goal.invariant-loop-i
invariant-loop-i l = find name_cmp (lower l.name) (listed at_now (take l.i l.entries)) ≡ None
