use Rattle.std.proofs.Common.{◌≡◌, ◌≤◌, ◌<◌, ◌+◌, ◌++◌, ℕ, List, drop, take, length, true, sym, ◌∙◌, ap, subst, arith}
use Rattle.std.proofs.lemmas.List.{length-drop}
use Rattle.rq_settle.specs.Shown.{replacement, char_len, shown_from}
use Rattle.rq_settle.proofs.Characters.{show_bad, show_good, both_texts, replacement_text}
use Rattle.rq_values.specs.Text.{is_text}
use Rattle.rq_settle.proofs.showing.show.Goals as goal

pub loop-at-preserved-then-len-eq0 : goal.loop-at-preserved-then-len-eq0
loop-at-preserved-then-len-eq0 c =
    let rest = c.from_place-rest.ensures in
    let less : c.loop-at.at < length c.args.source.now = omega (arith, c.loop-at-test.true) in
    let some : 0 < length (drop c.loop-at.at c.args.source.now) = omega (arith, less, length-drop c.loop-at.at c.args.source.now) in
    let none : char_len (drop c.loop-at.at c.args.source.now) ≡ 0 = ap char_len (sym rest) ∙ sym c.prefix_len-len.ensures.len ∙ c.if-len-eq0.true in
    record {
      within = omega (arith, less);
      shows = ap (λ (l : List ℕ). l ++ shown_from 0 (drop (c.loop-at.at + 1) c.args.source.now)) c.in_ok-extend_from_slice.ensures.items
          ∙ sym (show_bad c.args.source.now c.loop-at.into.items c.loop-at.at less none some) ∙ c.loop-at.invariant.shows;
      text = λ was. subst (λ (l : List ℕ). is_text l ≡ true) (sym c.in_ok-extend_from_slice.ensures.items) (both_texts c.loop-at.into.items replacement (c.loop-at.invariant.text was) replacement_text);
    }

pub loop-at-preserved : goal.loop-at-preserved
loop-at-preserved c =
    let rest = c.from_place-rest.ensures in
    let len = c.prefix_len-len.result in
    let less : c.loop-at.at < length c.args.source.now = omega (arith, c.loop-at-test.true) in
    let fits : len ≤ length (drop c.loop-at.at c.args.source.now) = subst (λ (l : List ℕ). len ≤ length l) rest c.prefix_len-len.ensures.within in
    let is : len ≡ char_len (drop c.loop-at.at c.args.source.now) = c.prefix_len-len.ensures.len ∙ ap char_len rest in
    let some : 0 < len = omega (arith, c.if-len-eq0.false) in
    let said = c.in_ok-extend_from_slice-2.ensures.items ∙ ap (λ (l : List ℕ). c.loop-at.into.items ++ take len l) rest in
    record {
      within = omega (arith, less, fits, length-drop c.loop-at.at c.args.source.now);
      shows = ap (λ (l : List ℕ). l ++ shown_from 0 (drop (c.loop-at.at + len) c.args.source.now)) said
          ∙ sym (show_good c.args.source.now c.loop-at.into.items c.loop-at.at len some fits is) ∙ c.loop-at.invariant.shows;
      text = λ was. subst (λ (l : List ℕ). is_text l ≡ true) (sym c.in_ok-extend_from_slice-2.ensures.items)
          (both_texts c.loop-at.into.items (take len c.from_place-rest.result.now) (c.loop-at.invariant.text was) (c.prefix_len-len.ensures.text some));
    }
