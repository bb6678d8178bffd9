use Rattle.std.proofs.Common.{◌≡◌, ◌∙◌, Some, inl, inr, refl, sym, ap, subst}
use Rattle.rq_log.specs.Incoming.{packet_in}
use Rattle.rq_world.specs.Rules.{receive}
use Rattle.rq_member.proofs.Receiving.{did_none, did_not, did_not_read, memory_alone, not_read}
use Rattle.rq_member.proofs.Ruling.{refused_so}
use Rattle.rq_member.proofs.Turning.{open_at}
use Rattle.rq_member.proofs.node.Node.receive.Goals as goal

pub returns-then-skips-clause-did : goal.returns-then-skips-clause-did
returns-then-skips-clause-did g c = λ q is.
    let h = c.args.self.now in
    did_none h.state.first g.D.Disk.told g.D.Disk.means c.logs_stand_while_room_is_made.ensures (receive h.state.first h.state.node c.args.moment (Some (packet_in q))) h.state.node c.args.disks.now h.state.node h.file c.quiet.result c.requires.open refl (c.skips.ensures.skips c.if-skips.true q c.args.moment is) c.quiet.ensures

pub returns-in-Err-clause-did : goal.returns-in-Err-clause-did
returns-in-Err-clause-did g c = λ q is.
    let h = c.args.self.now in
    did_not_read h.state.first g.D.Disk.told g.D.Disk.means c.logs_stand_while_room_is_made.ensures h.state.node c.args.moment c.args.packet.now q c.args.disks.now h.state.node h.file c.in-Err.error (is.receiver ∙ c.skips.ensures.here c.if-skips.false) is c.requires.open refl (inl (memory_alone c.in-Err.error q (c.in-Err.ensures.ok q is)))

pub returns-in-Err-clause-refused : goal.returns-in-Err-clause-refused
returns-in-Err-clause-refused g c =
    let h = c.args.self.now in
    inr (did_not h.state.first g.D.Disk.told g.D.Disk.means c.logs_stand_while_room_is_made.ensures h.state.node c.args.disks.now h.state.node h.file c.in-Err.error c.requires.open refl (not_read c.args.packet.now c.in-Err.error c.in-Err.ensures.wrong))

pub returns-in-Ok-clause-refused : goal.returns-in-Ok-clause-refused
returns-in-Ok-clause-refused g c =
    let h = c.args.self.now in
    refused_so h.state.first g.D.Disk.told g.D.Disk.means (receive h.state.first h.state.node c.args.moment (Some (packet_in c.in-Ok.packet))) c.args.disks.now c.take_in.new.disks h.state.node c.take_in.new.self.state.node c.take_in.new.self.file c.take_in.result c.take_in.ensures.did

pub returns-in-Ok-clause-open : goal.returns-in-Ok-clause-open
returns-in-Ok-clause-open g c =
    let h = c.args.self.now in
    open_at h.state.first g.D.Disk.told g.D.Disk.means (receive h.state.first h.state.node c.args.moment (Some (packet_in c.in-Ok.packet))) c.args.disks.now c.take_in.new.disks h.state.node c.take_in.new.self.state.node c.take_in.new.self.file c.take_in.result c.take_in.new.self.state.first c.take_in.ensures.first c.take_in.ensures.did
