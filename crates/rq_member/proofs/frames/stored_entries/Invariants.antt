use Rattle.std.proofs.Common.{◌≡◌, take, map}
use Rattle.rq_values.specs.Exact.{AreProper}
use Rattle.rq_wire.specs.Exact.{IsEntry}
use Rattle.rq_wal.specs.Reading.{text_limit}
use Rattle.rq_member.specs.Files.{stored_entry, AreReadable}
use Rattle.rq_member.proofs.frames.stored_entries.Given as goal

abbrev pub invariant-loop-place : goal.invariant-loop-place
invariant-loop-place l = record {
  stored : l.stored.items ≡ map stored_entry (take l.place l.entries);
  sound : AreReadable l.entries → AreProper (IsEntry text_limit) l.stored.items;
}
