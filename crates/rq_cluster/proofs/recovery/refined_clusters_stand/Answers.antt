use Rattle.rq_cluster.proofs.Refining.{refines_holds}
use Rattle.rq_cluster.proofs.recovery.refined_clusters_stand.Goals as goal

pub returns : goal.returns
returns g c = refines_holds g.D.Disk.told g.D.Disk.means c.current_logs_stand.ensures
