use Rattle.std.proofs.Common.{Option, refl, subst}
use Rattle.rq_node.specs.declared.node.Node.{Node as RunningNode}
use Rattle.rq_cluster.specs.Refines.{NodeReady}
use Rattle.rq_cluster.proofs.Pairs.{SameDisks, open_same}
use Rattle.rq_cluster.proofs.Starts.{arms_server}
use Rattle.rq_cluster.proofs.Turns.{some_of}
use Rattle.rq_cluster.proofs.host.Host.arm.Goals as goal

pub returns-clause-ok : goal.returns-clause-ok
returns-clause-ok g c = λ bytes start s refines.
    let told = g.D.Disk.told in
    let means = g.D.Disk.means in
    let same : SameDisks c.args.disks.now c.arm.new.self = (c.arm.ensures.one, c.arm.ensures.two) in
    let runs = some_of c.args.self.now.node c.requires.running in
    let ready = subst (λ (o : Option RunningNode). NodeReady told means c.args.disks.now o) runs.1 c.requires.ready in
    arms_server told means start c.args.disks.now c.args.self.now _ s refines c.arm.new.self runs.0 c.args.arming same runs.1 refl c.arm.ensures.arm (open_same told means c.args.disks.now c.arm.new.self runs.0 same ready) bytes
