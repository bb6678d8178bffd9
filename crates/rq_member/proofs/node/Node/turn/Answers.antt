use Rattle.std.proofs.Common.{◌≡◌, ◌≢◌, ◌∙◌, ℕ, Err, inl, inr, refl, sym, ap, subst, arith}
use Rattle.rq_world.specs.World.{asked}
use Rattle.rq_world.specs.Rules.{elect, flush}
use Rattle.rq_member.specs.declared.turn_error.TurnError.TheVariants as failures
use Rattle.rq_member.specs.Turned.{applies, op_of}
use Rattle.rq_member.proofs.Receiving.{did_not, did_apply_none}
use Rattle.rq_member.proofs.Ruling.{refused_so}
use Rattle.rq_member.proofs.Turning.{open_at}
use Rattle.rq_member.proofs.node.Node.turn.Goals as goal

ended_is_no_disk : (count : ℕ) → failures.Ended count ≢ failures.Disk
ended_is_no_disk count is = absurd (cc)

pub returns-in-Some-clause-applied : goal.returns-in-Some-clause-applied
returns-in-Some-clause-applied g c = λ most is.
    let h = c.args.self.now in
    did_apply_none h.state.first g.D.Disk.told g.D.Disk.means c.logs_stand_while_room_is_made.ensures most h.state.node c.args.disks.now h.state.node h.file (failures.Ended c.in-Some.count) c.requires.open refl (ended_is_no_disk c.in-Some.count)

pub returns-in-Some-clause-refused : goal.returns-in-Some-clause-refused
returns-in-Some-clause-refused g c =
    let h = c.args.self.now in
    inr (did_not h.state.first g.D.Disk.told g.D.Disk.means c.logs_stand_while_room_is_made.ensures h.state.node c.args.disks.now h.state.node h.file (failures.Ended c.in-Some.count) c.requires.open refl (ended_is_no_disk c.in-Some.count))

pub returns-in-Ask-clause-refused : goal.returns-in-Ask-clause-refused
returns-in-Ask-clause-refused g c =
    let h = c.args.self.now in
    refused_so h.state.first g.D.Disk.told g.D.Disk.means (asked h.state.first h.state.node c.in-Ask.ask.number c.args.moment c.in-Ask.ask.timeout (op_of c.in-Ask.ask.op)) c.args.disks.now c.ask.new.disks h.state.node c.ask.new.self.state.node c.ask.new.self.file c.ask.result c.ask.ensures.did

pub returns-in-Ask-clause-open : goal.returns-in-Ask-clause-open
returns-in-Ask-clause-open g c =
    let h = c.args.self.now in
    open_at h.state.first g.D.Disk.told g.D.Disk.means (asked h.state.first h.state.node c.in-Ask.ask.number c.args.moment c.in-Ask.ask.timeout (op_of c.in-Ask.ask.op)) c.args.disks.now c.ask.new.disks h.state.node c.ask.new.self.state.node c.ask.new.self.file c.ask.result c.ask.new.self.state.first c.ask.ensures.first c.ask.ensures.did

pub returns-in-Elect-clause-open : goal.returns-in-Elect-clause-open
returns-in-Elect-clause-open g c =
    let h = c.args.self.now in
    open_at h.state.first g.D.Disk.told g.D.Disk.means (elect h.state.first h.state.node) c.args.disks.now c.elect.new.disks h.state.node c.elect.new.self.state.node c.elect.new.self.file c.elect.result c.elect.new.self.state.first c.elect.ensures.first c.elect.ensures.did

pub returns-in-Flush-clause-open : goal.returns-in-Flush-clause-open
returns-in-Flush-clause-open g c =
    let h = c.args.self.now in
    open_at h.state.first g.D.Disk.told g.D.Disk.means (flush h.state.first h.state.node) c.args.disks.now c.flush.new.disks h.state.node c.flush.new.self.state.node c.flush.new.self.file c.flush.result c.flush.new.self.state.first c.flush.ensures.first c.flush.ensures.did

pub returns-in-Apply-clause-refused : goal.returns-in-Apply-clause-refused
returns-in-Apply-clause-refused g c =
    let h = c.args.self.now in
    refused_so h.state.first g.D.Disk.told g.D.Disk.means (applies h.state.first c.apply.ensures.did.count h.state.node) c.args.disks.now c.apply.new.disks h.state.node c.apply.new.self.state.node c.apply.new.self.file c.apply.result c.apply.ensures.did.did

pub returns-in-Apply-clause-open : goal.returns-in-Apply-clause-open
returns-in-Apply-clause-open g c =
    let h = c.args.self.now in
    open_at h.state.first g.D.Disk.told g.D.Disk.means (applies h.state.first c.apply.ensures.did.count h.state.node) c.args.disks.now c.apply.new.disks h.state.node c.apply.new.self.state.node c.apply.new.self.file c.apply.result c.apply.new.self.state.first c.apply.ensures.first c.apply.ensures.did.did
