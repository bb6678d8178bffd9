use Rattle.std.proofs.Common.{◌≡◌, ◌≤◌, ◌-◌, ◌++◌, max, vec_len, vec_capacity, replicate}
use Rattle.rq_outside.proofs.in_memory.journal.pad.Given as goal

abbrev pub invariant-loop-image : goal.invariant-loop-image
invariant-loop-image l = record {
  items : l.image.items ≡ l.fn.image.items ++ replicate (vec_len l.image - vec_len l.fn.image) 0;
  longer : vec_len l.fn.image ≤ vec_len l.image;
  within : vec_len l.image ≤ max (vec_len l.fn.image) l.end;
  capacity : vec_capacity l.image ≡ vec_capacity l.fn.image;
}

abbrev pub decreases-loop-image : goal.decreases-loop-image
decreases-loop-image l = l.end - vec_len l.image
