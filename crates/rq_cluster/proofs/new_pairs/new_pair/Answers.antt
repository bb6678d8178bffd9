use Rattle.std.proofs.Common.{[], sym, subst}
use Rattle.rq_outside.specs.Disk.{Only}
use Rattle.rq_cluster.proofs.Emptiness.{new_by}
use Rattle.rq_cluster.proofs.new_pairs.new_pair.Goals as goal

pub returns-clause-new : goal.returns-clause-new
returns-clause-new g c =
    new_by g.D.Disk.told g.D.Disk.means c.new.result c.new.ensures.arm
    (subst (λ d. Only [] (g.D.Disk.means d).images) (sym c.new.ensures.one) c.in_ok-one.ensures.empty)
    (subst (λ d. Only [] (g.D.Disk.means d).images) (sym c.new.ensures.two) c.in_ok-two.ensures.empty)
