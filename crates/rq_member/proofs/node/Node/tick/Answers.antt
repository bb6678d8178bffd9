use Rattle.std.proofs.Common.{◌≡◌, refl}
use Rattle.rq_world.specs.Rules.{tick}
use Rattle.rq_member.proofs.Resting.{did_state}
use Rattle.rq_member.proofs.node.Node.tick.Goals as goal

pub returns-clause-did : goal.returns-clause-did
returns-clause-did g c =
    let h = c.args.self.now in
    did_state h.state.first g.D.Disk.told g.D.Disk.means c.logs_stand_while_room_is_made.ensures (tick h.state.node c.args.moment) c.args.disks.now h.state c.tick.new.self h.file c.tick.result
    c.requires.open refl refl c.tick.ensures.node c.tick.ensures.effects c.tick.ensures.err c.tick.ensures.refusals
