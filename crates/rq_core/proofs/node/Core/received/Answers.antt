use Rattle.std.proofs.Common.{subst, IfOk}
use Rattle.rq_log.specs.Views.{CoreView, Gives}
use Rattle.rq_raft.specs.Deliver.{by_message}
use Rattle.rq_log.specs.Incoming.{message_in, packet_in}
use Rattle.rq_core.proofs.node.Core.received.Goals as goal

pub returns-clause-ok : goal.returns-clause-ok
returns-clause-ok g c = subst (λ (h : CoreView g.row.E.Denot). IfOk c.by_message.result (λ moves. Gives (by_message g.E.LogEntry.entries h.first h.node c.args.moment (packet_in c.args.packet) (message_in c.args.packet.message)) c.by_message.new.self.node moves)) c.see_term.ensures c.by_message.ensures.ok
