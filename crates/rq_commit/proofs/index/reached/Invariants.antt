use Rattle.std.proofs.Common.{◌≡◌, ◌-◌, ◌≤◌, length}
use Rattle.rq_history.specs.Configurations.{greatest}
use Rattle.rq_raft.specs.Entries.{voters}
use Rattle.rq_commit.specs.Commit.{may_commit_in}
use Rattle.rq_commit.proofs.index.reached.Given as goal

abbrev pub invariant-loop-index : goal.invariant-loop-index
invariant-loop-index g l = (l.commit ≤ l.index) × (l.index ≤ length l.log.0) × (greatest (may_commit_in g.E.LogEntry.entries l.log.0 (voters l.members) l.peers l.own l.term) l.commit (length l.log.0 - l.commit) ≡ greatest (may_commit_in g.E.LogEntry.entries l.log.0 (voters l.members) l.peers l.own l.term) l.commit (l.index - l.commit))

abbrev pub decreases-loop-index : goal.decreases-loop-index
decreases-loop-index g l = l.index
