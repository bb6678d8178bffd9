use Rattle.std.proofs.Common.{◌≡◌, ◌+◌, drop}
use Rattle.rq_meaning.specs.Checks.{rowid_place}
use Rattle.rq_changes.proofs.naming.rowid_place.Given as goal

abbrev pub invariant-loop-i : goal.invariant-loop-i
invariant-loop-i l = l.i + rowid_place (drop l.i l.columns) ≡ rowid_place l.columns
