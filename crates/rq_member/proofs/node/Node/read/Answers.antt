use Rattle.std.proofs.Common.{◌≡◌, List, refl, sym, ap, subst}
use Rattle.rq_statement.specs.declared.item.Item.{Item}
use Rattle.rq_request.specs.declared.ask.Level.{Level}
use Rattle.rq_world.specs.Reads.{begin}
use Rattle.rq_world.specs.Rules.{query, query_if_fresh, if_leads, begun, read, reads}
use Rattle.rq_member.specs.Turned.{Did}
use Rattle.rq_member.proofs.Asking.{did_say_so, fresh_says, weak_says}
use Rattle.rq_member.proofs.Resting.{did_rest}
use Rattle.rq_member.proofs.Receiving.{linearizable_rests}
use Rattle.rq_member.proofs.node.Node.read.Goals as goal

pub returns-in-None-clause-did : goal.returns-in-None-clause-did
returns-in-None-clause-did g c =
    let h = c.args.self.now in
    let put = c.args.put in
    subst (λ (v : Level). Did h.state.first g.D.Disk.told g.D.Disk.means (read h.state.first h.state.node put.number put.moment put.timeout c.args.items v c.args.limit) c.args.disks.now c.args.disks.now h.state.node h.state.node h.file c.query_if_fresh-effects.result) (sym c.in-None.is)
    (did_say_so h.state.first g.D.Disk.told g.D.Disk.means c.logs_stand_while_room_is_made.ensures (query_if_fresh h.state.first h.state.node put.number put.moment c.args.items c.args.limit) (query_if_fresh h.state.first h.state.node put.number put.moment c.as_slice.result.now c.args.limit) c.args.disks.now h.state.node h.state.node h.file c.query_if_fresh-effects.result
    c.requires.open (ap (λ (i : List Item). query_if_fresh h.state.first h.state.node put.number put.moment i c.args.limit) (sym c.as_slice.ensures)) (fresh_says h.state.first h.state.node put.number put.moment c.as_slice.result.now c.args.limit) refl c.query_if_fresh-effects.ensures.effects c.query_if_fresh-effects.ensures.refusals)

pub returns-in-Weak-clause-did : goal.returns-in-Weak-clause-did
returns-in-Weak-clause-did g c =
    let h = c.args.self.now in
    let put = c.args.put in
    subst (λ (v : Level). Did h.state.first g.D.Disk.told g.D.Disk.means (read h.state.first h.state.node put.number put.moment put.timeout c.args.items v c.args.limit) c.args.disks.now c.args.disks.now h.state.node h.state.node h.file c.query_if_leads-effects.result) (sym c.in-Weak.is)
    (did_say_so h.state.first g.D.Disk.told g.D.Disk.means c.logs_stand_while_room_is_made.ensures (if_leads h.state.first h.state.node put.number (query h.state.first h.state.node put.number c.args.items)) (if_leads h.state.first h.state.node put.number (query h.state.first h.state.node put.number c.as_slice-in-Weak.result.now)) c.args.disks.now h.state.node h.state.node h.file c.query_if_leads-effects.result
    c.requires.open (ap (λ (i : List Item). if_leads h.state.first h.state.node put.number (query h.state.first h.state.node put.number i)) (sym c.as_slice-in-Weak.ensures)) (weak_says h.state.first h.state.node put.number c.as_slice-in-Weak.result.now) refl c.query_if_leads-effects.ensures.effects c.query_if_leads-effects.ensures.refusals)

pub returns-in-Linearizable-clause-did : goal.returns-in-Linearizable-clause-did
returns-in-Linearizable-clause-did g c =
    let h = c.args.self.now in
    let put = c.args.put in
    let rests = linearizable_rests h.state.first h.state.node put.number put.moment put.timeout c.args.items in
    subst (λ (v : Level). Did h.state.first g.D.Disk.told g.D.Disk.means (read h.state.first h.state.node put.number put.moment put.timeout c.args.items v c.args.limit) c.args.disks.now c.args.disks.now h.state.node c.begin_if_leads.new.self.node h.file c.begin_if_leads.result) (sym c.in-Linearizable.is)
    (did_rest h.state.first g.D.Disk.told g.D.Disk.means c.logs_stand_while_room_is_made.ensures (if_leads h.state.first h.state.node put.number (reads h.state.first (begun h.state.first h.state.node put.number put.moment put.timeout c.args.items (begin h.state.first h.state.node.raft)))) c.args.disks.now h.state.node c.begin_if_leads.new.self.node h.file c.begin_if_leads.result
    c.requires.open rests.stored rests.kept c.begin_if_leads.ensures.node c.begin_if_leads.ensures.effects c.begin_if_leads.ensures.err c.begin_if_leads.ensures.refusals)
