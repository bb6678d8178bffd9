use Rattle.std.proofs.Common.{false, ◌≡◌, ◌*◌}
use Rattle.rq_outside.specs.Pair.{other, disk_at}
use Rattle.rq_wal.specs.Spends.{Spends}
use Rattle.rq_wal.proofs.Progress.{Progress}
use Rattle.rq_wal.proofs.framing.write_frames.Given as goal

abbrev pub invariant-loop-piece : goal.invariant-loop-piece
invariant-loop-piece g l =
    let means = g.D.Disk.means in
    record {
      progress : Progress g.D.Disk.told (means (disk_at l.fn.disks l.file)) (means (disk_at l.disks l.file)) l.place l.end l.pieces l.piece-index;
      other : disk_at l.disks (other l.file) ≡ disk_at l.fn.disks (other l.file);
      spent : Spends means (4 * l.piece-index) false l.fn.disks l.disks;
    }
