use Rattle.std.proofs.Common.{◌≡◌}
use Rattle.rq_world.specs.Rules.{enqueue}
use Rattle.rq_member.proofs.Resting.{did_state}
use Rattle.rq_member.proofs.Asking.{enqueue_rests}
use Rattle.rq_member.proofs.node.Node.enqueue.Goals as goal

pub returns-clause-did : goal.returns-clause-did
returns-clause-did g c =
    let h = c.args.self.now in
    let put = c.args.put in
    let rests = enqueue_rests h.state.first h.state.node put.number put.moment put.timeout c.args.list c.args.waits in
    did_state h.state.first g.D.Disk.told g.D.Disk.means c.logs_stand_while_room_is_made.ensures (enqueue h.state.first h.state.node put.number put.moment put.timeout c.args.list c.args.waits) c.args.disks.now h.state c.enqueue.new.self h.file c.enqueue.result
    c.requires.open rests.stored rests.kept c.enqueue.ensures.node c.enqueue.ensures.effects c.enqueue.ensures.err c.enqueue.ensures.refusals
