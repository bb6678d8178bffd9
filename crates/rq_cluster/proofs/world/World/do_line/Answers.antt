use Rattle.std.proofs.Common.{ap, sym, subst}
use Rattle.rq_script.specs.ReadLine.{line_read}
use Rattle.rq_script.specs.ScriptLine.{Line}
use Rattle.rq_cluster.specs.Refines.{BreaksLine}
use Rattle.rq_cluster.proofs.Servers.{skips}
use Rattle.rq_cluster.proofs.world.World.do_line.Goals as goal

pub returns-in-Skip-clause-ok : goal.returns-in-Skip-clause-ok
returns-in-Skip-clause-ok g c = skips g.D.Disk.told g.D.Disk.means c.args.disks.now c.args.self.now (line_read c.args.line.now) c.args.text.now.items (ap line_read c.in-Skip.is)

pub returns-in-At-clause-broken : goal.returns-in-At-clause-broken
returns-in-At-clause-broken g c = λ err.
    subst (λ (l : Line). BreaksLine g.D.Disk.told g.D.Disk.means l c.args.disks.now c.act.new.disks c.args.self.now) (sym (ap line_read c.in-At.is)) (c.act.ensures.broken err)
