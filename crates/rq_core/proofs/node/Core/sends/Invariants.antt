use Rattle.std.proofs.Common.{◌≡◌, ◌+◌, ◌≤◌, ◌++◌, drop}
use Rattle.rq_log.specs.Views.{spell}
use Rattle.rq_raft.specs.Lead.{sends}
use Rattle.rq_log.specs.Tally.{wanted_by}
use Rattle.rq_core.proofs.node.Core.sends.Given as goal

abbrev pub invariant-loop-peer : goal.invariant-loop-peer
invariant-loop-peer g l = (l.probe ≤ l.self.node.probe + l.peer-index) × (spell l.self.node.log l.packets ++ sends g.E.LogEntry.entries l.self.first l.self.node (wanted_by l.to) l.probe (drop l.peer-index l.self.node.peers) ≡ sends g.E.LogEntry.entries l.self.first l.self.node (wanted_by l.to) l.self.node.probe l.self.node.peers)
