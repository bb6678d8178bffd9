use Rattle.std.proofs.Common.{true, ◌≡◌, ◌≤◌, ◌+◌, length, drop, vec_len, vec_capacity}
use Rattle.rq_outside.specs.Replay.{total_of, is_valid, content_after}
use Rattle.rq_outside.proofs.in_memory.journal.play.Given as goal

abbrev pub invariant-loop-call : goal.invariant-loop-call
invariant-loop-call l = record {
  items : content_after (drop l.call-index l.calls) l.rest l.image.items ≡ content_after l.calls l.written l.fn.image.items;
  valid : is_valid (drop l.call-index l.calls) l.rest l.image.items ≡ true;
  total : total_of (drop l.call-index l.calls) ≤ length l.rest;
  count : l.count + total_of (drop l.call-index l.calls) ≡ total_of l.calls;
  len : vec_len l.image ≤ vec_len l.fn.image + l.count;
  capacity : vec_capacity l.fn.image ≤ vec_capacity l.image;
}
