use Rattle.rq_outside.specs.Disk.{Cut}
use Rattle.rq_outside.specs.Pair.{disk_at}
use Rattle.rq_wal.proofs.Moments.{changed, then_synced, cut_same}
use Rattle.std.proofs.Common.{rules, arith}
use Rattle.rq_wal.proofs.Spending.{passed_whole, passed_broken, then_broken}
use Rattle.rq_wal.proofs.replacing.cut_synced.Goals as goal

pub returns-in_err-sync-clause-any_moment : goal.returns-in_err-sync-clause-any_moment
returns-in_err-sync-clause-any_moment g c told =
    let now = g.met.D.Disk.only_now told in
    then_synced (Cut c.args.to) (cut_same _) _ _ (now (disk_at c.args.disks.now c.args.file)) (c.requires.durable told)
    (c.cut.ensures.images told) (c.cut.ensures.time told) _ (now (disk_at c.cut.new.self c.args.file)) (c.sync.ensures.time told) (c.sync.ensures.images told)

pub returns-clause-any_moment : goal.returns-clause-any_moment
returns-clause-any_moment g c told =
    let now = g.met.D.Disk.only_now told in
    then_synced (Cut c.args.to) (cut_same _) _ _ (now (disk_at c.args.disks.now c.args.file)) (c.requires.durable told)
    (c.cut.ensures.images told) (c.cut.ensures.time told) _ (now (disk_at c.cut.new.self c.args.file)) (c.sync.ensures.time told) (c.sync.ensures.images told)

pub returns-in_err-cut-clause-any_moment : goal.returns-in_err-cut-clause-any_moment
returns-in_err-cut-clause-any_moment g c told =
    changed (Cut c.args.to) (cut_same _) _ _ (g.met.D.Disk.only_now told (disk_at c.args.disks.now c.args.file)) (c.requires.durable told) (c.cut.ensures.images told) (c.cut.ensures.time told)

pub returns-in_err-sync-clause-spent : goal.returns-in_err-sync-clause-spent
returns-in_err-sync-clause-spent g c = then_broken g.D.Disk.means 1 1 2 _ _ _ _ (search rules) (passed_whole g.D.Disk.means _ _ _ c.in_ok-cut.ensures.cause c.in_ok-cut.ensures.arm) (passed_broken g.D.Disk.means _ _ _ c.in_err-sync.ensures.cause c.in_err-sync.ensures.arm) (omega arith)
