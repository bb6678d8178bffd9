use Rattle.std.proofs.Common.{◌≡◌, ◌+◌, drop}
use Rattle.rq_wal.specs.Pieces.{bytes_of}
use Rattle.rq_wal.proofs.file.total.Given as goal

abbrev pub invariant-loop-piece : goal.invariant-loop-piece
invariant-loop-piece l = l.total + bytes_of (drop l.piece-index l.pieces) ≡ bytes_of l.pieces
