use Rattle.rq_wal.proofs.Recovery.{images_give}
use Rattle.rq_wal.proofs.laws.current_logs_stand.Goals as goal

pub returns : goal.returns
returns g c = images_give g.D.Disk.means
