use Rattle.std.proofs.Common.{refl, sym}
use Rattle.rq_cluster.proofs.Servers.{none_of}
use Rattle.rq_cluster.proofs.Worlds.{IsFresh, found_does, found_breaks}
use Rattle.rq_cluster.proofs.world.World.found.Goals as goal

pub returns-clause-ok : goal.returns-clause-ok
returns-clause-ok g c =
    let fresh : IsFresh c.new-host.result c.args.id =
    record { is_id = c.new-host.ensures.id; node = c.new-host.ensures.node; armed = c.new-host.ensures.armed; lost = c.new-host.ensures.lost; failures = c.new-host.ensures.failures } in
    found_does g.D.Disk.told g.D.Disk.means c.args.disks.now c.start.new.disks c.args.self.now c.new-host.result c.args.id (none_of c.args.self.now.host (sym c.if-is_some.ensures)) fresh
    _ c.start.new.self c.args.text.now.items c.start.new.text.items refl refl c.in_ok-start.ensures.ok

pub returns-in_err-start-clause-broken : goal.returns-in_err-start-clause-broken
returns-in_err-start-clause-broken g c = λ _.
    let fresh : IsFresh c.new-host.result c.args.id =
    record { is_id = c.new-host.ensures.id; node = c.new-host.ensures.node; armed = c.new-host.ensures.armed; lost = c.new-host.ensures.lost; failures = c.new-host.ensures.failures } in
    found_breaks g.D.Disk.told g.D.Disk.means c.args.disks.now c.start.new.disks c.args.self.now c.new-host.result c.args.id (none_of c.args.self.now.host (sym c.if-is_some.ensures)) fresh c.in_err-start.ensures.broken
