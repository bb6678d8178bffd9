use Rattle.std.proofs.Common.{◌≡◌, ◌+◌, max, take, vec_len, vec_capacity}
use Rattle.rq_outside.specs.Replay.{overwritten}
use Rattle.rq_outside.proofs.in_memory.journal.overwrite.Given as goal

abbrev pub invariant-loop-byte : goal.invariant-loop-byte
invariant-loop-byte l = record {
  items : l.content.items ≡ overwritten l.fn.content.items l.at (take l.byte-index l.piece);
  place : l.place ≡ l.at + l.byte-index;
  len : vec_len l.content ≡ max (vec_len l.fn.content) l.place;
  capacity : vec_capacity l.content ≡ vec_capacity l.fn.content;
}
