use Rattle.std.proofs.Common.{true, ◌≡◌, ◌≤◌, length, drop}
use Rattle.rq_outside.specs.Replay.{has_no_sync}
use Rattle.rq_outside.proofs.in_memory.journal.synced.Given as goal

abbrev pub invariant-loop-kept : goal.invariant-loop-kept
invariant-loop-kept l = record { within : l.kept ≤ length l.calls; after : has_no_sync (drop l.kept l.calls) ≡ true }

abbrev pub decreases-loop-kept : goal.decreases-loop-kept
decreases-loop-kept l = l.kept
