use Rattle.std.proofs.Common.{◌≡◌, map, take}
use Rattle.rq_wal.specs.Spelling.{piece_of}
use Rattle.rq_wal.proofs.spelling.pieces.Given as goal

abbrev pub invariant-loop-frame : goal.invariant-loop-frame
invariant-loop-frame l = l.pieces.items ≡ map piece_of (take l.frame-index l.frames)
