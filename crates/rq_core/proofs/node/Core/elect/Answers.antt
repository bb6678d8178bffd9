use Rattle.std.proofs.Common.{subst, rules}
use Rattle.rq_log.specs.Views.{CoreView, Gives}
use Rattle.rq_raft.specs.Vote.{campaigns, becomes_candidate, elect}
use Rattle.rq_core.proofs.Rules.{gives_vote, gives_same, elect_on}
use Rattle.rq_core.proofs.node.Core.elect.Goals as goal

pub returns-in-Ok-clause-ok : goal.returns-in-Ok-clause-ok
returns-in-Ok-clause-ok g c =
    let es = g.E.LogEntry.entries in
    let made = subst (λ (h : CoreView g.row.E.Denot). Gives (campaigns es h.first (becomes_candidate h.node)) c.elect_here.new.self.node c.in-Ok.moves) c.in_ok-remember.ensures.ok c.in-Ok.ensures.ok in
    rw (c.finish.ensures) (gives_vote (elect es c.args.self.now.first c.args.self.now.node) c.elect_here.new.self.node c.in-Ok.moves _
    (gives_same (campaigns es c.args.self.now.first (becomes_candidate c.args.self.now.node)) (elect es c.args.self.now.first c.args.self.now.node) c.elect_here.new.self.node c.in-Ok.moves
    (elect_on es c.args.self.now.first c.args.self.now.node (search rules)) made))
