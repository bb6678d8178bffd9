use Rattle.std.proofs.Common.{rules, true, arith}
use Rattle.rq_wal.specs.Spends.{Spends}
use Rattle.rq_wal.proofs.Spending.{passed_broken, within, room_spent, spends_then}
use Rattle.rq_wal.proofs.opening.sync_made.Goals as goal

pub returns-in_err-sync-clause-spent : goal.returns-in_err-sync-clause-spent
returns-in_err-sync-clause-spent g c =
    let means = g.D.Disk.means in
    let broke : Spends means 1 true c.args.disks.now c.sync.new.self = spends_then means 0 1 true c.args.disks.now c.ready.new.self c.sync.new.self
    (room_spent means c.args.disks.now c.ready.new.self c.args.file c.ready.ensures.other c.ready.ensures.faults c.ready.ensures.arm c.ready.ensures.own) (passed_broken means _ _ _ c.in_err-sync.ensures.cause c.in_err-sync.ensures.arm) in
    search (rules, within, arith)
