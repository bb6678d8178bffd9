use Rattle.std.proofs.Common.{◌≡◌, ◌+◌, drop, ℕ, suc, sym, ap, ◌∙◌, arith}
use Rattle.std.proofs.lemmas.List.{length-drop}
use Rattle.rq_texts.specs.Like as spec
use Rattle.rq_texts.proofs.Liking.{rest_is, like_on}
use Rattle.rq_texts.proofs.like.is_like.Goals as goal

pub loop-turn-init : goal.loop-turn-init
loop-turn-init c =
    let one : suc c.in-Percent.n ≡ c.in-Percent.n + 1 = omega arith in
    record {
      less = omega arith;
      within_pattern = omega (arith, c.in-Percent.ensures.0);
      within_text = c.in-Percent.ensures.2;
      same = sym (c.in-Percent.ensures.3 ∙ ap (λ (k : ℕ). spec.some_rest (spec.like (drop k c.args.pattern.now)) (drop c.in-Percent.n c.args.text.now)) one);
    }

pub loop-turn-preserved : goal.loop-turn-preserved
loop-turn-preserved c =
    let h = simp rest_is at c.in-Rest.ensures in
    record {
      less = omega (arith, h.0);
      within_pattern = omega (arith, h.1, length-drop c.loop-turn.p c.args.pattern.now);
      within_text = omega (arith, h.2, length-drop c.loop-turn.t c.args.text.now);
      same = like_on c.args.pattern.now c.args.text.now c.loop-turn.p c.loop-turn.t c.in-Rest.m c.in-Rest.k _ c.loop-turn.invariant.same h.3;
    }

pub returns-in-Done-find : goal.returns-in-Done-find
returns-in-Done-find c = sym (simp rest_is at c.in-Done-find.ensures) ∙ c.loop-turn.invariant.same
