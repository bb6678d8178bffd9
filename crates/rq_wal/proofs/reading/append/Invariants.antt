use Rattle.std.proofs.Common.{◌≡◌, ◌++◌}
use Rattle.rq_wal.proofs.reading.append.Given as goal

abbrev pub invariant-loop-entry : goal.invariant-loop-entry
invariant-loop-entry l = l.entries.items ≡ l.fn.entries.items ++ l.yielded
