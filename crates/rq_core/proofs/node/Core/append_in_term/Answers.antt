use Rattle.std.proofs.Common.{subst, sym, IfOk, rules}
use Rattle.rq_raft.specs.Node.{RaftTurn}
use Rattle.rq_log.specs.Views.{Gives}
use Rattle.rq_core.proofs.Corrected.{fast_is}
use Rattle.rq_core.proofs.node.Core.append_in_term.Goals as goal

pub returns-clause-ok : goal.returns-clause-ok
returns-clause-ok g c = subst (λ (t : RaftTurn g.row.E.Denot). IfOk c.append_fast.result (λ moves. Gives t c.append_fast.new.self.node moves))
    (sym (fast_is g.E.LogEntry.entries c.args.self.now.node c.args.from c.args.prev c.args.prev_term c.args.commit c.args.probe c.args.entries.now.items (search rules))) c.append_fast.ensures.ok
