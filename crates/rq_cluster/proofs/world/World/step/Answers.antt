use Rattle.std.proofs.Common.{sym, arith}
use Rattle.std.proofs.lemmas.Option.{slice_get_read}
use Rattle.rq_cluster.proofs.Worlds.{step_does, step_outside, step_breaks, on_ok_map}
use Rattle.rq_cluster.proofs.world.World.step.Goals as goal

pub returns-clause-ok : goal.returns-clause-ok
returns-clause-ok g c =
    let there = slice_get_read c.args.disks.now.items 9 0 c.index_mut.result.now (sym c.requires.ready.count) (omega arith) c.index_mut.ensures.value in
    on_ok_map c.step_on.result _ _
    (step_does g.D.Disk.told g.D.Disk.means c.args.disks.now.items c.index_mut.result.now c.step_on.new.disks c.args.self.now there c.args.line.now c.step_on.new.self c.args.text.now.items c.step_on.new.text.items)
    c.step_on.ensures.ok

pub returns-clause-outside : goal.returns-clause-outside
returns-clause-outside g c = λ err start cluster refines.
    let there = slice_get_read c.args.disks.now.items 9 0 c.index_mut.result.now (sym c.requires.ready.count) (omega arith) c.index_mut.ensures.value in
    step_outside g.D.Disk.told g.D.Disk.means c.args.disks.now.items c.index_mut.result.now c.step_on.new.disks c.args.self.now there start cluster refines c.args.line.now
    (c.step_on.ensures.outside err) (c.step_on.ensures.untouched err) (c.refined_clusters_stand.ensures start c.args.disks.now.items c.args.self.now cluster refines)

pub returns-clause-broken : goal.returns-clause-broken
returns-clause-broken g c = λ err start cluster refines.
    let there = slice_get_read c.args.disks.now.items 9 0 c.index_mut.result.now (sym c.requires.ready.count) (omega arith) c.index_mut.ensures.value in
    step_breaks g.D.Disk.told g.D.Disk.means c.args.disks.now.items c.index_mut.result.now c.step_on.new.disks c.args.self.now there start cluster refines c.args.line.now (c.step_on.ensures.broken err)
