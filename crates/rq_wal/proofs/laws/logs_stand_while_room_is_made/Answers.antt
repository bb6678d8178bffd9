use Rattle.rq_wal.proofs.Since.{stood}
use Rattle.rq_wal.proofs.laws.logs_stand_while_room_is_made.Goals as goal

pub returns : goal.returns
returns g c told = stood g.D.Disk.means (g.met.D.Disk.only_now told)
