use Rattle.std.proofs.Common.{◌+◌, length}
use Rattle.rq_wal.specs.Reading.{frames_at}
use Rattle.rq_wal.proofs.FramesRead.{Comes}
use Rattle.rq_wal.proofs.reading.next_frames.Given as goal

abbrev pub invariant-frames : goal.invariant-frames
invariant-frames l = Comes l.stored l.rest (frames_at (length l.bytes + 1) l.fn.first l.bytes)

abbrev pub decreases-frames : goal.decreases-frames
decreases-frames l = length l.rest
