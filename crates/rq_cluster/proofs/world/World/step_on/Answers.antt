use Rattle.std.proofs.Common.{◌≡◌, Some}
use Rattle.rq_script.specs.ReadLine.{line_read}
use Rattle.rq_script.specs.ScriptLine.{line_of}
use Rattle.rq_cluster.specs.Refines.{Does}
use Rattle.rq_cluster.proofs.Servers.{of_some, of_none}
use Rattle.rq_cluster.proofs.Worlds.{does_bytes, breaks_bytes, outside_bytes, outside_unread, on_ok_map}
use Rattle.rq_cluster.proofs.world.World.step_on.Goals as goal

pub returns-in-Some-clause-ok : goal.returns-in-Some-clause-ok
returns-in-Some-clause-ok g c =
    let is = of_some c.script_line.result c.in-Some.line _ (λ l. line_of c.args.line.now ≡ Some (line_read l)) c.in-Some.is c.script_line.ensures.read in
    on_ok_map c.do_line.result _ (Does g.D.Disk.told g.D.Disk.means c.args.line.now c.args.disks.now c.do_line.new.disks c.args.self.now c.do_line.new.self c.args.text.now.items c.do_line.new.text.items)
    (does_bytes g.D.Disk.told g.D.Disk.means c.args.line.now (line_read c.in-Some.line) is c.args.disks.now c.do_line.new.disks c.args.self.now c.do_line.new.self c.args.text.now.items c.do_line.new.text.items)
    c.do_line.ensures.ok

pub returns-in-Some-clause-outside : goal.returns-in-Some-clause-outside
returns-in-Some-clause-outside g c = λ err.
    let is = of_some c.script_line.result c.in-Some.line _ (λ l. line_of c.args.line.now ≡ Some (line_read l)) c.in-Some.is c.script_line.ensures.read in
    outside_bytes g.D.Disk.told g.D.Disk.means c.args.line.now (line_read c.in-Some.line) is c.args.disks.now c.do_line.new.disks c.args.self.now (c.do_line.ensures.outside err)

pub returns-in-Some-clause-broken : goal.returns-in-Some-clause-broken
returns-in-Some-clause-broken g c = λ err.
    let is = of_some c.script_line.result c.in-Some.line _ (λ l. line_of c.args.line.now ≡ Some (line_read l)) c.in-Some.is c.script_line.ensures.read in
    breaks_bytes g.D.Disk.told g.D.Disk.means c.args.line.now (line_read c.in-Some.line) is c.args.disks.now c.do_line.new.disks c.args.self.now (c.do_line.ensures.broken err)

pub returns-in-None-clause-outside : goal.returns-in-None-clause-outside
returns-in-None-clause-outside g c = λ _ start cluster refined.
    outside_unread cluster c.args.line.now (of_none c.script_line.result _ (λ l. line_of c.args.line.now ≡ Some (line_read l)) c.in-None.is c.script_line.ensures.read)
