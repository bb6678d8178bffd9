use Rattle.std.proofs.Common.{ℕ, List, subst}
use Rattle.rq_script.specs.ReadLine.{action_read}
use Rattle.rq_script.specs.ScriptLine.{At}
use Rattle.rq_cluster.specs.declared.world.World.{World}
use Rattle.rq_cluster.specs.Refines.{DoesLine, IsOutsideHere, BreaksLine, with_host}
use Rattle.rq_cluster.proofs.Results.{on_ok_map}
use Rattle.rq_cluster.proofs.Servers.{same_id, with_is}
use Rattle.rq_cluster.proofs.world.World.act.Goals as goal

pub returns-clause-ok : goal.returns-clause-ok
returns-clause-ok g c =
    let told = g.D.Disk.told in
    let means = g.D.Disk.means in
    let action = action_read c.args.action.now in
    let new = c.act_at.new.disks in
    let to = with_host c.act_at.new.host c.act_at.new.asks in
    let same = same_id c.in-Some.host.id c.id.result.now c.args.id c.if-ne.ensures c.id.ensures in
    let is = with_is c.args.self.now c.in-Some.host c.in-Some.is in
    on_ok_map c.act_at.result _ (DoesLine told means (At c.args.id action) c.args.disks.now new c.args.self.now to c.args.text.now.items c.act_at.new.text.items)
    (λ (does : DoesLine told means (At c.in-Some.host.id action) c.args.disks.now new (with_host c.in-Some.host c.args.self.now.asks) to c.args.text.now.items c.act_at.new.text.items).
    subst (λ (i : List ℕ). DoesLine told means (At i action) c.args.disks.now new c.args.self.now to c.args.text.now.items c.act_at.new.text.items) same
    (subst (λ (w : World). DoesLine told means (At c.in-Some.host.id action) c.args.disks.now new w to c.args.text.now.items c.act_at.new.text.items) is does))
    c.act_at.ensures.ok

pub returns-clause-outside : goal.returns-clause-outside
returns-clause-outside g c = λ err.
    let told = g.D.Disk.told in
    let means = g.D.Disk.means in
    let action = action_read c.args.action.now in
    subst (λ (i : List ℕ). IsOutsideHere told means (At i action) c.args.disks.now c.args.self.now) (same_id c.in-Some.host.id c.id.result.now c.args.id c.if-ne.ensures c.id.ensures)
    (subst (λ (w : World). IsOutsideHere told means (At c.in-Some.host.id action) c.args.disks.now w) (with_is c.args.self.now c.in-Some.host c.in-Some.is) (c.act_at.ensures.outside err))

pub returns-clause-broken : goal.returns-clause-broken
returns-clause-broken g c = λ err.
    let told = g.D.Disk.told in
    let means = g.D.Disk.means in
    let action = action_read c.args.action.now in
    subst (λ (i : List ℕ). BreaksLine told means (At i action) c.args.disks.now c.act_at.new.disks c.args.self.now) (same_id c.in-Some.host.id c.id.result.now c.args.id c.if-ne.ensures c.id.ensures)
    (subst (λ (w : World). BreaksLine told means (At c.in-Some.host.id action) c.args.disks.now c.act_at.new.disks w) (with_is c.args.self.now c.in-Some.host c.in-Some.is) (c.act_at.ensures.broken err))
