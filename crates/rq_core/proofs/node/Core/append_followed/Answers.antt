use Rattle.std.proofs.Common.{subst, IfOk}
use Rattle.rq_log.specs.Views.{CoreView, Gives}
use Rattle.rq_raft.specs.Append.{append_in_term}
use Rattle.rq_core.proofs.node.Core.append_followed.Goals as goal

pub returns-clause-ok : goal.returns-clause-ok
returns-clause-ok g c = subst (λ (h : CoreView g.row.E.Denot). IfOk c.append_in_term.result (λ moves. Gives (append_in_term g.E.LogEntry.entries h.node c.args.from c.args.prev c.args.prev_term c.args.commit c.args.probe c.args.entries.now.items) c.append_in_term.new.self.node moves)) c.become_follower.ensures c.append_in_term.ensures.ok
