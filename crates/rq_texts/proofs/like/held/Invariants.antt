use Rattle.std.proofs.Common.{◌≡◌, ◌≤◌, ◌+◌, ℕ, length, drop}
use Rattle.rq_texts.specs.Like as spec
use Rattle.rq_texts.proofs.like.held.Given as goal

abbrev pub invariant-loop-i : goal.invariant-loop-i
invariant-loop-i l = record {
  within : l.i ≤ length l.text;
  same : spec.like (drop l.i l.pattern) (drop l.i l.text) ≡ spec.like l.pattern l.text;
  plain : (n : ℕ) → spec.is_first_run n (drop l.i l.pattern) ≡ spec.is_first_run (l.i + n) l.pattern;
}
