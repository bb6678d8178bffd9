use Rattle.std.proofs.Common.{false, rules, length, ◌≡◌, ◌+◌, ◌*◌, ℕ, refl, sym, ◌∙◌, subst, arith}
use Rattle.rq_outside.specs.Pair.{disk_at}
use Rattle.rq_wal.specs.Spends.{Spends}
use Rattle.rq_wal.proofs.Progress.{begun, moments_of, went_on}
use Rattle.rq_wal.proofs.Spending.{spends_none, spends_then, then_broken}
use Rattle.rq_wal.proofs.framing.write_frames.Goals as goal

pub loop-piece-init : goal.loop-piece-init
loop-piece-init g c = record {
  progress = begun g.D.Disk.told (g.D.Disk.means (disk_at c.args.disks.now c.args.file)) c.args.place c.args.pieces.now
      (λ t. g.met.D.Disk.only_now t (disk_at c.args.disks.now c.args.file)) c.requires.at_rest c.requires.room;
  other = refl;
  spent = spends_none g.D.Disk.means c.args.disks.now;
}

pub returns-in_err-append-clause-any_moment : goal.returns-in_err-append-clause-any_moment
returns-in_err-append-clause-any_moment g c =
    let means = g.D.Disk.means in
    moments_of g.D.Disk.told (means (disk_at c.args.disks.now c.args.file)) c.args.place c.args.pieces.now
    (means (disk_at c.loop-piece.disks c.args.file)) c.loop-piece.end c.loop-piece.piece-index c.piece-item.result c.loop-piece.invariant.progress c.loop-piece-test.true (sym c.piece-item.is)
    c.bytes-piece.result.now c.bytes-piece.ensures
    (means (disk_at c.append.new.disks c.args.file)) c.append.ensures.any_moment

pub loop-piece-preserved : goal.loop-piece-preserved
loop-piece-preserved g c =
    let means = g.D.Disk.means in
    let spent = spends_then means (4 * c.loop-piece.piece-index) 4 false c.args.disks.now c.loop-piece.disks c.append.new.disks c.loop-piece.invariant.spent c.in_ok-append.ensures.spent in
    let count : 4 * c.loop-piece.piece-index + 4 ≡ 4 * (c.loop-piece.piece-index + 1) = omega arith in
    record {
      progress = went_on g.D.Disk.told (means (disk_at c.args.disks.now c.args.file)) c.args.place c.args.pieces.now
          (means (disk_at c.loop-piece.disks c.args.file)) c.loop-piece.end c.loop-piece.piece-index c.piece-item.result c.loop-piece.invariant.progress c.loop-piece-test.true (sym c.piece-item.is)
          c.bytes-piece.result.now c.bytes-piece.ensures
          (means (disk_at c.append.new.disks c.args.file)) _ (omega arith)
          c.in_ok-append.ensures.at_rest c.in_ok-append.ensures.done c.append.ensures.any_moment c.append.ensures.room;
      other = c.append.ensures.other ∙ c.loop-piece.invariant.other;
      spent = subst (λ (n : ℕ). Spends means n false c.args.disks.now c.append.new.disks) count spent;
    }

pub returns-in_err-append-clause-spent : goal.returns-in_err-append-clause-spent
returns-in_err-append-clause-spent g c = then_broken g.D.Disk.means (4 * c.loop-piece.piece-index) 4 (4 * length c.args.pieces.now) _ _ _ _ (search rules) c.loop-piece.invariant.spent c.in_err-append.ensures.spent (omega (arith, c.loop-piece-test.true))
