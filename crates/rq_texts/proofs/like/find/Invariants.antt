use Rattle.std.proofs.Common.{◌≡◌, drop}
use Rattle.rq_texts.specs.Like as spec
use Rattle.rq_texts.proofs.like.find.Given as goal

abbrev pub invariant-loop-start : goal.invariant-loop-start
invariant-loop-start l = spec.some_rest (spec.like l.pattern) (drop l.start l.text) ≡ spec.some_rest (spec.like l.pattern) l.text
