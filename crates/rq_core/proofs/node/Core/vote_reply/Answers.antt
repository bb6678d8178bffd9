use Rattle.std.proofs.Common.{subst, sym, IfOk, rules}
use Rattle.rq_raft.specs.Node.{RaftTurn}
use Rattle.rq_log.specs.Views.{CoreView, Gives}
use Rattle.rq_core.specs.Fast.{signed}
use Rattle.rq_raft.specs.Vote.{counted}
use Rattle.rq_core.proofs.Rules.{vote_on}
use Rattle.rq_core.proofs.node.Core.vote_reply.Goals as goal

pub returns-in_ok-count-clause-ok : goal.returns-in_ok-count-clause-ok
returns-in_ok-count-clause-ok g c =
    let es = g.E.LogEntry.entries in
    let made = subst (λ (h : CoreView g.row.E.Denot). IfOk c.counted.result (λ moves. Gives (counted es h.first h.node) c.counted.new.self.node moves)) c.in_ok-count.ensures.ok c.counted.ensures.ok in
    subst (λ (t : RaftTurn g.row.E.Denot). IfOk c.counted.result (λ moves. Gives t c.counted.new.self.node moves)) (sym (vote_on es c.args.self.now.first c.args.self.now.node (signed c.args.from c.args.term) c.args.granted (search rules))) made
