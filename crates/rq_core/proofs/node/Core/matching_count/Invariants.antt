use Rattle.std.proofs.Common.{◌≡◌, ◌+◌, ◌≤◌, drop, length}
use Rattle.rq_raft.specs.Append.{matching_count}
use Rattle.rq_core.proofs.node.Core.matching_count.Given as goal

abbrev pub invariant-loop-k : goal.invariant-loop-k
invariant-loop-k g l = (l.place ≡ l.at + l.k) × (l.k ≤ length l.entries) × (matching_count g.E.LogEntry.entries l.self.node.log l.at l.entries ≡ l.k + matching_count g.E.LogEntry.entries l.self.node.log l.place (drop l.k l.entries)) × (l.at ≤ length l.self.node.log → l.place ≤ length l.self.node.log)
