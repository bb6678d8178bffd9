use Rattle.std.proofs.Common.{◌≡◌, ◌≤◌, length}
use Rattle.rq_system.proofs.files.whole_read.Given as goal

-- what was read lies within the slice, which stays as long as it was
abbrev pub invariant-loop : goal.invariant-loop
invariant-loop l = (l.done ≤ length l.into) × (length l.into ≡ length l.initial.into)
