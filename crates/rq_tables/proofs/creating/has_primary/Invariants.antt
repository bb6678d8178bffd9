use Rattle.std.proofs.Common.{◌≡◌, drop}
use Rattle.rq_meaning.specs.Checks.{has_primary}
use Rattle.rq_tables.proofs.creating.has_primary.Given as goal

abbrev pub invariant-loop-column : goal.invariant-loop-column
invariant-loop-column l = has_primary (drop l.column-index l.columns) ≡ has_primary l.columns
