use Rattle.std.proofs.Common.{subst, sym}
use Rattle.rq_tables.specs.Entries.{Sound}
use Rattle.rq_tables.proofs.Placed.{none_sound}
use Rattle.rq_tables.proofs.staged.StagedTables.new.Goals as goal

pub invariant_of-result : goal.invariant_of-result
invariant_of-result c = subst Sound (sym c.new.ensures.items) none_sound
