use Rattle.std.proofs.Common.{refl, sym, ap}
use Rattle.rq_script.specs.ReadLine.{action_read}
use Rattle.rq_script.specs.ScriptLine.{At}
use Rattle.rq_cluster.specs.Refines.{with_host}
use Rattle.rq_cluster.proofs.Servers.{done_ok, done_breaks, stop_here, arm_here, start_here, show_here, shown_goes}
use Rattle.rq_cluster.proofs.Refining.{host_stands}
use Rattle.rq_cluster.proofs.Worlds.{breaks_untouched}
use Rattle.rq_cluster.proofs.world.act_at.Goals as goal

pub returns-in_ok-stop-in-Stop-clause-ok : goal.returns-in_ok-stop-in-Stop-clause-ok
returns-in_ok-stop-in-Stop-clause-ok g c =
    let told = g.D.Disk.told in
    let means = g.D.Disk.means in
    let old = c.args.disks.now in
    let host = c.args.host.now in
    let asks = c.args.asks.now in
    done_ok told means old host asks _ _ _ _ (stop_here told means old host asks (sym c.if-not-is_running.ensures)) (action_read c.args.action.now) (ap action_read c.in-Stop.is)
    c.stop.new.disks c.stop.new.self asks c.args.text.now.items c.stop.new.text.items refl c.in_ok-stop-in-Stop.ensures.ok

pub returns-in_err-stop-in-Stop-clause-broken : goal.returns-in_err-stop-in-Stop-clause-broken
returns-in_err-stop-in-Stop-clause-broken g c = λ _.
    let told = g.D.Disk.told in
    let means = g.D.Disk.means in
    let old = c.args.disks.now in
    let host = c.args.host.now in
    let asks = c.args.asks.now in
    done_breaks told means old host asks _ _ _ _ (stop_here told means old host asks (sym c.if-not-is_running.ensures)) (action_read c.args.action.now) (ap action_read c.in-Stop.is) c.stop.new.disks c.in_err-stop-in-Stop.ensures.broken

pub returns-in_ok-start-in-Start-clause-ok : goal.returns-in_ok-start-in-Start-clause-ok
returns-in_ok-start-in-Start-clause-ok g c =
    let told = g.D.Disk.told in
    let means = g.D.Disk.means in
    let old = c.args.disks.now in
    let host = c.args.host.now in
    let asks = c.args.asks.now in
    done_ok told means old host asks _ _ _ _ (start_here told means old host asks (sym c.if-is_running.ensures)) (action_read c.args.action.now) (ap action_read c.in-Start.is)
    c.start.new.disks c.start.new.self asks c.args.text.now.items c.start.new.text.items refl c.in_ok-start-in-Start.ensures.ok

pub returns-in_err-start-in-Start-clause-broken : goal.returns-in_err-start-in-Start-clause-broken
returns-in_err-start-in-Start-clause-broken g c = λ _.
    let told = g.D.Disk.told in
    let means = g.D.Disk.means in
    let old = c.args.disks.now in
    let host = c.args.host.now in
    let asks = c.args.asks.now in
    done_breaks told means old host asks _ _ _ _ (start_here told means old host asks (sym c.if-is_running.ensures)) (action_read c.args.action.now) (ap action_read c.in-Start.is) c.start.new.disks c.in_err-start-in-Start.ensures.broken

pub returns-else-not-is_running-2-clause-ok : goal.returns-else-not-is_running-2-clause-ok
returns-else-not-is_running-2-clause-ok g c =
    let told = g.D.Disk.told in
    let means = g.D.Disk.means in
    let old = c.args.disks.now in
    let host = c.args.host.now in
    let asks = c.args.asks.now in
    done_ok told means old host asks _ _ _ _ (arm_here told means old host asks c.in-StopWithin.calls c.in-StopWithin.pick (sym c.if-not-is_running-2.ensures)) (action_read c.args.action.now) (ap action_read c.in-StopWithin.is)
    c.arm.new.disks c.arm.new.self asks c.args.text.now.items c.args.text.now.items refl (c.arm.ensures.ok c.args.text.now.items)

pub returns-in_ok-show-in-Show-clause-ok : goal.returns-in_ok-show-in-Show-clause-ok
returns-in_ok-show-in-Show-clause-ok g c =
    let told = g.D.Disk.told in
    let means = g.D.Disk.means in
    let old = c.args.disks.now in
    let host = c.args.host.now in
    let asks = c.args.asks.now in
    done_ok told means old host asks _ _ _ _ (show_here told means old host asks) (action_read c.args.action.now) (ap action_read c.in-Show.is)
    old host asks c.args.text.now.items c.show.new.text.items refl (shown_goes told means old host c.args.text.now.items c.show.new.text.items c.in_ok-show-in-Show.ensures)

pub returns-in_err-show-in-Show-clause-broken : goal.returns-in_err-show-in-Show-clause-broken
returns-in_err-show-in-Show-clause-broken g c = λ _.
    let told = g.D.Disk.told in
    let means = g.D.Disk.means in
    let old = c.args.disks.now in
    let host = c.args.host.now in
    let asks = c.args.asks.now in
    breaks_untouched told means (host_stands told means c.current_logs_stand.ensures) (At host.id (action_read c.args.action.now)) old old (with_host host asks) refl
