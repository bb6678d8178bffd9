use Rattle.std.proofs.Common.{◌≡◌, ◌+◌, length, drop}
use Rattle.rq_wal.specs.declared.base.Base.{Base}
use Rattle.rq_wal.specs.Reading.{spelled_at}
use Rattle.rq_wal.proofs.reading.next_spelled.Given as goal

abbrev pub invariant-loop-at : goal.invariant-loop-at
invariant-loop-at l = record {
  comes : (thing : Base) → spelled_at thing (drop l.at l.text) l.rest ≡ spelled_at thing l.text l.bytes;
  len : length l.bytes ≡ l.at + length l.rest;
}
