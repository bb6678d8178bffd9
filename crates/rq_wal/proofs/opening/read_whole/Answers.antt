use Rattle.std.proofs.Common.{true, arith}
use Rattle.rq_wal.proofs.Spending.{looked_whole, looked_broken, spends_then, within}
use Rattle.rq_wal.proofs.opening.read_whole.Goals as goal

pub returns-in-Err-clause-spent : goal.returns-in-Err-clause-spent
returns-in-Err-clause-spent g c =
    let means = g.D.Disk.means in
    within means 0 0 true _ _ (spends_then means 0 0 true _ _ _ (looked_whole means _ _ _ c.in_ok-len.ensures.cause c.in_ok-len.ensures.arm) (looked_broken means _ _ _ c.in-Err.ensures.cause c.in-Err.ensures.arm)) (omega arith)
