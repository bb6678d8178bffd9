use Rattle.std.proofs.Common.{◌∷◌, [], List, ℕ, length, inl, subst}
use Rattle.rq_outside.specs.Disk.{Torn, Holds}
use Rattle.rq_outside.specs.Pair.{disk_at}
use Rattle.rq_wal.proofs.Headers.{torn_rest, torn_open, behind_gate, open_gate}
use Rattle.rq_wal.proofs.Moments.{weaker, then}
use Rattle.std.proofs.Common.{rules, arith}
use Rattle.rq_wal.proofs.Spending.{then_broken}
use Rattle.rq_wal.proofs.replacing.finish_replace.Goals as goal

pub returns-in_err-write_synced-clause-any_moment : goal.returns-in_err-write_synced-clause-any_moment
returns-in_err-write_synced-clause-any_moment g c told =
    let means = g.D.Disk.means in
    let old = means (disk_at c.args.disks.now c.args.file) in
    weaker old (means (disk_at c.write_synced.new.disks c.args.file)) _ _ (c.write_synced.ensures.any_moment told)
    (λ f torn. inl (torn_rest c.args.generation (length c.args.rest.now) f (subst (λ (l : List ℕ). Torn 1 (length c.args.rest.now) l f) (c.requires.closed told) torn)))

pub returns-in_err-write_synced-2-clause-any_moment : goal.returns-in_err-write_synced-2-clause-any_moment
returns-in_err-write_synced-2-clause-any_moment g c told =
    let means = g.D.Disk.means in
    let old = means (disk_at c.args.disks.now c.args.file) in
    let mid = means (disk_at c.write_synced.new.disks c.args.file) in
    let written = behind_gate c.args.rest.now mid.content (subst (λ (l : List ℕ). Holds l 1 c.args.rest.now mid.content) (c.requires.closed told) (c.in_ok-write_synced.ensures.written told)) in
    then old mid (means (disk_at c.write_synced-2.new.disks c.args.file)) _ _ _ (c.write_synced.ensures.any_moment told) (c.write_synced-2.ensures.any_moment told)
    (λ f torn. inl (torn_rest c.args.generation (length c.args.rest.now) f (subst (λ (l : List ℕ). Torn 1 (length c.args.rest.now) l f) (c.requires.closed told) torn)))
    (λ f torn. torn_open c.args.generation c.args.rest.now f (subst (λ (l : List ℕ). Torn 0 1 l f) written torn))

pub returns-clause-any_moment : goal.returns-clause-any_moment
returns-clause-any_moment g c told =
    let means = g.D.Disk.means in
    let old = means (disk_at c.args.disks.now c.args.file) in
    let mid = means (disk_at c.write_synced.new.disks c.args.file) in
    let written = behind_gate c.args.rest.now mid.content (subst (λ (l : List ℕ). Holds l 1 c.args.rest.now mid.content) (c.requires.closed told) (c.in_ok-write_synced.ensures.written told)) in
    then old mid (means (disk_at c.write_synced-2.new.disks c.args.file)) _ _ _ (c.write_synced.ensures.any_moment told) (c.write_synced-2.ensures.any_moment told)
    (λ f torn. inl (torn_rest c.args.generation (length c.args.rest.now) f (subst (λ (l : List ℕ). Torn 1 (length c.args.rest.now) l f) (c.requires.closed told) torn)))
    (λ f torn. torn_open c.args.generation c.args.rest.now f (subst (λ (l : List ℕ). Torn 0 1 l f) written torn))

pub returns-clause-open_now : goal.returns-clause-open_now
returns-clause-open_now g c told =
    let means = g.D.Disk.means in
    let mid = means (disk_at c.write_synced.new.disks c.args.file) in
    let new = means (disk_at c.write_synced-2.new.disks c.args.file) in
    let written = behind_gate c.args.rest.now mid.content (subst (λ (l : List ℕ). Holds l 1 c.args.rest.now mid.content) (c.requires.closed told) (c.in_ok-write_synced.ensures.written told)) in
    open_gate c.args.rest.now new.content (subst (λ (l : List ℕ). Holds l 0 (1 ∷ []) new.content) written (c.in_ok-write_synced-2.ensures.written told))

pub returns-in_err-write_synced-2-clause-spent : goal.returns-in_err-write_synced-2-clause-spent
returns-in_err-write_synced-2-clause-spent g c = then_broken g.D.Disk.means 2 2 4 _ _ _ _ (search rules) c.in_ok-write_synced.ensures.spent c.in_err-write_synced-2.ensures.spent (omega arith)
