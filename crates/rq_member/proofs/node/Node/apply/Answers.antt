use Rattle.std.proofs.Common.{◌≡◌}
use Rattle.rq_member.proofs.Applying.{did_applied}
use Rattle.rq_member.proofs.node.Node.apply.Goals as goal

pub returns-clause-did : goal.returns-clause-did
returns-clause-did g c =
    let h = c.args.self.now in
    did_applied h.state.first g.D.Disk.told g.D.Disk.means c.logs_stand_while_room_is_made.ensures c.args.most c.args.disks.now h.state.node c.apply.new.self.node h.file c.apply.result c.requires.open c.apply.ensures.applied c.apply.ensures.refusals
