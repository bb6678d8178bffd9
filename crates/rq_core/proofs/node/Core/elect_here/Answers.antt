use Rattle.std.proofs.Common.{subst, IfOk}
use Rattle.rq_log.specs.Views.{CoreView, Gives}
use Rattle.rq_raft.specs.Vote.{campaigns}
use Rattle.rq_core.proofs.node.Core.elect_here.Goals as goal

pub returns-clause-ok : goal.returns-clause-ok
returns-clause-ok g c = subst (λ (h : CoreView g.row.E.Denot). IfOk c.campaigns.result (λ moves. Gives (campaigns g.E.LogEntry.entries h.first h.node) c.campaigns.new.self.node moves)) c.in_ok-become_candidate.ensures.ok c.campaigns.ensures.ok
