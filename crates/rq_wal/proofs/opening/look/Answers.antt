use Rattle.rq_wal.proofs.Spending.{within_then}
use Rattle.rq_wal.proofs.opening.look.Goals as goal

pub returns-in-Err-clause-spent : goal.returns-in-Err-clause-spent
returns-in-Err-clause-spent g c = within_then g.D.Disk.means 1 1 _ _ _ _ c.in_ok-one.ensures.spent c.in-Err.ensures.spent
