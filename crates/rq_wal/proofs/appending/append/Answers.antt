use Rattle.rq_outside.specs.Pair.{disk_at}
use Rattle.rq_wal.proofs.AppendSteps.{first_torn, second_torn, prefix, at_rest}
use Rattle.rq_wal.proofs.Moments.{weaker, then}
use Rattle.std.proofs.Common.{rules, arith}
use Rattle.rq_wal.proofs.Spending.{then_broken}
use Rattle.rq_wal.proofs.appending.append.Goals as goal

pub returns-in_err-write_synced-clause-any_moment : goal.returns-in_err-write_synced-clause-any_moment
returns-in_err-write_synced-clause-any_moment g c told =
    let means = g.D.Disk.means in
    let old = means (disk_at c.args.disks.now c.args.file) in
    let mid = means (disk_at c.write_synced.new.disks c.args.file) in
    weaker old mid _ _ (c.write_synced.ensures.any_moment told) (first_torn old mid c.args.place c.args.piece.now c.requires.piece (c.requires.at_rest told))

pub returns-in_err-write_synced-2-clause-any_moment : goal.returns-in_err-write_synced-2-clause-any_moment
returns-in_err-write_synced-2-clause-any_moment g c told =
    let means = g.D.Disk.means in
    let old = means (disk_at c.args.disks.now c.args.file) in
    let mid = means (disk_at c.write_synced.new.disks c.args.file) in
    let new = means (disk_at c.write_synced-2.new.disks c.args.file) in
    let rest = c.requires.at_rest told in
    then old mid new _ _ _ (c.write_synced.ensures.any_moment told) (c.write_synced-2.ensures.any_moment told)
    (first_torn old mid c.args.place c.args.piece.now c.requires.piece rest) (second_torn old mid c.args.place c.args.piece.now c.requires.piece rest (c.in_ok-write_synced.ensures.written told))

pub returns-clause-any_moment : goal.returns-clause-any_moment
returns-clause-any_moment g c told =
    let means = g.D.Disk.means in
    let old = means (disk_at c.args.disks.now c.args.file) in
    let mid = means (disk_at c.write_synced.new.disks c.args.file) in
    let new = means (disk_at c.write_synced-2.new.disks c.args.file) in
    let rest = c.requires.at_rest told in
    then old mid new _ _ _ (c.write_synced.ensures.any_moment told) (c.write_synced-2.ensures.any_moment told)
    (first_torn old mid c.args.place c.args.piece.now c.requires.piece rest) (second_torn old mid c.args.place c.args.piece.now c.requires.piece rest (c.in_ok-write_synced.ensures.written told))

pub returns-clause-at_rest : goal.returns-clause-at_rest
returns-clause-at_rest g c told =
    let means = g.D.Disk.means in
    at_rest (means (disk_at c.args.disks.now c.args.file)) (means (disk_at c.write_synced.new.disks c.args.file)) c.args.place c.args.piece.now c.requires.piece (c.requires.at_rest told)
    (c.in_ok-write_synced.ensures.written told) (means (disk_at c.write_synced-2.new.disks c.args.file)) (c.in_ok-write_synced-2.ensures.written told) (c.in_ok-write_synced-2.ensures.durable told)

pub returns-clause-done : goal.returns-clause-done
returns-clause-done g c told =
    let means = g.D.Disk.means in
    prefix (means (disk_at c.args.disks.now c.args.file)) (means (disk_at c.write_synced.new.disks c.args.file)) c.args.place c.args.piece.now c.requires.piece (c.requires.at_rest told)
    (c.in_ok-write_synced.ensures.written told) (means (disk_at c.write_synced-2.new.disks c.args.file)) (c.in_ok-write_synced-2.ensures.written told) (c.in_ok-write_synced-2.ensures.durable told)

pub returns-in_err-write_synced-2-clause-spent : goal.returns-in_err-write_synced-2-clause-spent
returns-in_err-write_synced-2-clause-spent g c = then_broken g.D.Disk.means 2 2 4 _ _ _ _ (search rules) c.in_ok-write_synced.ensures.spent c.in_err-write_synced-2.ensures.spent (omega arith)
