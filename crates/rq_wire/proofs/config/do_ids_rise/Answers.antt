use Rattle.std.proofs.Common.{◌≡◌, true, ◌-◌, take, sym, ap, ◌∙◌}
use Rattle.rq_values.specs.Reading.{last_of}
use Rattle.rq_wire.specs.Config.{comes_after}
use Rattle.rq_wire.proofs.Rising.{begins, rises_on}
use Rattle.rq_wire.proofs.config.do_ids_rise.Goals as goal

pub loop-i-init : goal.loop-i-init
loop-i-init c = begins c.args.members.now

pub loop-i-preserved : goal.loop-i-preserved
loop-i-preserved c =
    let members = c.args.members.now in
    let member = c.index-members-i.result in
    let test : comes_after (last_of (take c.loop-i.i members)) member.id ≡ true = ap (λ m. comes_after (last_of (take c.loop-i.i members)) m.id) c.index-members-i.is ∙ sym c.is_after.ensures ∙ c.if-not-is_after.false in
    c.loop-i.invariant ∙ rises_on members c.loop-i.i member c.loop-i-test.true c.index-members-i.is test
