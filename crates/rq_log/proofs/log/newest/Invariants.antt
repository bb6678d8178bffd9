use Rattle.std.proofs.Common.{◌≡◌, ◌≤◌, length}
use Rattle.rq_history.specs.Configurations.{configuration_index, is_configuration, greatest}
use Rattle.rq_raft.specs.Entries.{entry_view}
use Rattle.rq_log.proofs.log.newest.Given as goal

abbrev pub invariant-loop-n : goal.invariant-loop-n
invariant-loop-n g l = (l.low ≤ l.n) × (l.n ≤ length l.entries) × (configuration_index (entry_view g.E.LogEntry.entries) l.entries ≡ greatest (is_configuration (entry_view g.E.LogEntry.entries) l.entries) 0 l.n)

abbrev pub decreases-loop-n : goal.decreases-loop-n
decreases-loop-n g l = l.n
