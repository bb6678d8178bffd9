use Rattle.std.proofs.Common.{sym, subst}
use Rattle.rq_node.specs.declared.event.Event.{Event}
use Rattle.rq_node.specs.Events.{rule}
use Rattle.rq_node.specs.Node.{persistent_of}
use Rattle.rq_node.specs.Recovery.{Moments}
use Rattle.rq_node.proofs.node.Node.turn.Goals as goal

pub returns-in-Execute-clause-moments : goal.returns-in-Execute-clause-moments
returns-in-Execute-clause-moments g c =
    let n = c.args.self.now.state in
    subst (λ (e : Event). Moments g.D.Disk.told g.D.Disk.means c.args.disks.now c.execute.new.disks n.id (persistent_of n) (rule e n).records) (sym c.in-Execute.is) c.execute.ensures.moments

pub returns-in-Elect-clause-moments : goal.returns-in-Elect-clause-moments
returns-in-Elect-clause-moments g c =
    let n = c.args.self.now.state in
    subst (λ (e : Event). Moments g.D.Disk.told g.D.Disk.means c.args.disks.now c.elect.new.disks n.id (persistent_of n) (rule e n).records) (sym c.in-Elect.is) c.elect.ensures.moments
