use Rattle.std.proofs.Common.{refl}
use Rattle.rq_node.specs.declared.event.Event.{Event}
use Rattle.rq_script.specs.ReadLine.{action_read}
use Rattle.rq_script.specs.ScriptLine.{At}
use Rattle.rq_cluster.specs.Events.{Puts, PutsNothing}
use Rattle.rq_cluster.specs.Refines.{with_host}
use Rattle.rq_cluster.proofs.Servers.{of_some, of_none, put_ok, put_breaks, put_outside}
use Rattle.rq_cluster.proofs.Refining.{host_stands}
use Rattle.rq_cluster.proofs.Worlds.{breaks_untouched}
use Rattle.rq_cluster.proofs.world.put.Goals as goal

pub returns-clause-ok : goal.returns-clause-ok
returns-clause-ok g c =
    let action = action_read c.args.action.now in
    let puts = of_some c.in_ok-event.field-0 c.in-Some.event (PutsNothing action) (λ (e : Event). Puts action c.args.asks.now c.event_of.new.asks e) c.in-Some.is c.in_ok-event.ensures.event in
    put_ok g.D.Disk.told g.D.Disk.means c.args.disks.now c.args.host.now c.args.asks.now action c.event_of.new.asks c.in-Some.event puts c.turn.new.disks c.turn.new.self c.args.text.now.items c.turn.new.text.items c.in_ok-turn.ensures.ok

pub returns-in_err-turn-clause-broken : goal.returns-in_err-turn-clause-broken
returns-in_err-turn-clause-broken g c = λ _.
    let action = action_read c.args.action.now in
    let puts = of_some c.in_ok-event.field-0 c.in-Some.event (PutsNothing action) (λ (e : Event). Puts action c.args.asks.now c.event_of.new.asks e) c.in-Some.is c.in_ok-event.ensures.event in
    put_breaks g.D.Disk.told g.D.Disk.means c.args.disks.now c.args.host.now c.args.asks.now action c.event_of.new.asks c.in-Some.event puts c.turn.new.disks c.in_err-turn.ensures.broken

pub returns-in_err-event-clause-broken : goal.returns-in_err-event-clause-broken
returns-in_err-event-clause-broken g c = λ _.
    breaks_untouched g.D.Disk.told g.D.Disk.means (host_stands g.D.Disk.told g.D.Disk.means c.current_logs_stand.ensures) (At c.args.host.now.id (action_read c.args.action.now)) c.args.disks.now c.args.disks.now
    (with_host c.args.host.now c.args.asks.now) refl

pub returns-in_default-clause-outside : goal.returns-in_default-clause-outside
returns-in_default-clause-outside g c = λ _.
    let action = action_read c.args.action.now in
    put_outside g.D.Disk.told g.D.Disk.means c.args.disks.now c.args.host.now c.args.asks.now action
    (of_none c.in_ok-event.field-0 (PutsNothing action) (λ (e : Event). Puts action c.args.asks.now c.event_of.new.asks e) c.in_default.is c.in_ok-event.ensures.event)
