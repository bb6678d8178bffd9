use Rattle.std.proofs.Common.{◌≡◌, ◌<◌, ◌≤◌, length, drop}
use Rattle.rq_texts.specs.Like as spec
use Rattle.rq_texts.proofs.like.is_like.Given as goal

abbrev pub invariant-loop-turn : goal.invariant-loop-turn
invariant-loop-turn l = record {
  less : l._turn < l.p;
  within_pattern : l.p ≤ length l.pattern;
  within_text : l.t ≤ length l.text;
  same : spec.some_rest (spec.like (drop l.p l.pattern)) (drop l.t l.text) ≡ spec.like l.pattern l.text;
}
