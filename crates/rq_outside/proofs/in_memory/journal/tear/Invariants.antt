use Rattle.std.proofs.Common.{true, ◌≡◌, ◌≤◌, ◌+◌, List, ℕ, length, drop, vec_len, vec_capacity}
use Rattle.rq_outside.specs.Replay.{total_of, is_valid, has_no_sync, torn_after, left_after}
use Rattle.rq_outside.proofs.in_memory.journal.tear.Given as goal

abbrev pub invariant-loop-call : goal.invariant-loop-call
invariant-loop-call l = record {
  items : torn_after l.pick (drop l.call-index l.calls) l.rest l.image.items ≡ torn_after l.pick l.calls l.written l.fn.image.items;
  valid : is_valid (drop l.call-index l.calls) l.rest l.image.items ≡ true;
  torn : (f : List ℕ) → left_after (drop l.call-index l.calls) l.rest l.image.items f → left_after l.calls l.written l.fn.image.items f;
  no_sync : has_no_sync (drop l.call-index l.calls) ≡ true;
  total : total_of (drop l.call-index l.calls) ≤ length l.rest;
  len : vec_len l.image + total_of (drop l.call-index l.calls) ≤ vec_len l.fn.image + total_of l.calls;
  capacity : vec_capacity l.fn.image ≤ vec_capacity l.image;
}
