use Rattle.std.proofs.Common.{List, ℕ, subst}
use Rattle.rq_outside.specs.Disk.{Torn}
use Rattle.rq_outside.specs.Pair.{disk_at}
use Rattle.rq_wal.proofs.Headers.{cut_below, torn_byte}
use Rattle.rq_wal.proofs.Moments.{weaker, then}
use Rattle.std.proofs.Common.{rules, arith}
use Rattle.rq_wal.proofs.Spending.{then_broken}
use Rattle.rq_wal.proofs.replacing.begin_replace.Goals as goal

pub returns-in_err-cut_synced-clause-any_moment : goal.returns-in_err-cut_synced-clause-any_moment
returns-in_err-cut_synced-clause-any_moment g c told =
    let means = g.D.Disk.means in
    let old = means (disk_at c.args.disks.now c.args.file) in
    weaker old (means (disk_at c.cut_synced.new.disks c.args.file)) _ _ (c.cut_synced.ensures.any_moment told) (λ f cut. cut_below c.args.generation old.content f (c.requires.below told) cut)

pub returns-in_err-write_synced-clause-any_moment : goal.returns-in_err-write_synced-clause-any_moment
returns-in_err-write_synced-clause-any_moment g c told =
    let means = g.D.Disk.means in
    let old = means (disk_at c.args.disks.now c.args.file) in
    let mid = means (disk_at c.cut_synced.new.disks c.args.file) in
    then old mid (means (disk_at c.write_synced.new.disks c.args.file)) _ _ _ (c.cut_synced.ensures.any_moment told) (c.write_synced.ensures.any_moment told)
    (λ f cut. cut_below c.args.generation old.content f (c.requires.below told) cut)
    (λ f torn. torn_byte c.args.generation f (subst (λ (l : List ℕ). Torn 0 1 l f) (c.in_ok-cut_synced.ensures.cut told) torn))

pub returns-clause-any_moment : goal.returns-clause-any_moment
returns-clause-any_moment g c told =
    let means = g.D.Disk.means in
    let old = means (disk_at c.args.disks.now c.args.file) in
    let mid = means (disk_at c.cut_synced.new.disks c.args.file) in
    then old mid (means (disk_at c.write_synced.new.disks c.args.file)) _ _ _ (c.cut_synced.ensures.any_moment told) (c.write_synced.ensures.any_moment told)
    (λ f cut. cut_below c.args.generation old.content f (c.requires.below told) cut)
    (λ f torn. torn_byte c.args.generation f (subst (λ (l : List ℕ). Torn 0 1 l f) (c.in_ok-cut_synced.ensures.cut told) torn))

pub returns-in_err-write_synced-clause-spent : goal.returns-in_err-write_synced-clause-spent
returns-in_err-write_synced-clause-spent g c = then_broken g.D.Disk.means 2 2 4 _ _ _ _ (search rules) c.in_ok-cut_synced.ensures.spent c.in_err-write_synced.ensures.spent (omega arith)
