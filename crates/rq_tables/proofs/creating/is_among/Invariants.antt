use Rattle.std.proofs.Common.{◌≡◌, drop}
use Rattle.rq_meaning.specs.Checks.{is_among}
use Rattle.rq_tables.proofs.creating.is_among.Given as goal

abbrev pub invariant-loop-column : goal.invariant-loop-column
invariant-loop-column l = is_among l.name (drop l.column-index l.columns) ≡ is_among l.name l.columns
