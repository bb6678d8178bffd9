use Rattle.std.proofs.Common.{◌≡◌, ◌++◌, drop}
use Rattle.rq_log.specs.Views.{spell}
use Rattle.rq_raft.specs.Entries.{entry_view}
use Rattle.rq_core.specs.Asks.{asks}
use Rattle.rq_core.proofs.node.Core.vote_asks.Given as goal

abbrev pub invariant-loop-member : goal.invariant-loop-member
invariant-loop-member g l = spell l.self.node.log l.packets ++ asks (entry_view g.E.LogEntry.entries) l.self.node (drop l.member-index l.members) ≡ asks (entry_view g.E.LogEntry.entries) l.self.node l.members
