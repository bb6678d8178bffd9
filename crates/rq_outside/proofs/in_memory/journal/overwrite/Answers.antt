use Rattle.std.proofs.Common.{rules, ℕ, List, [], ◌∷◌, ◌++◌, get_or, set, vec_len, ◌∙◌, ap, arith}
use Rattle.rq_outside.proofs.Overwrites.{over, past}
use Rattle.rq_outside.proofs.in_memory.journal.overwrite.Goals as goal
use Rattle.rq_outside.proofs.in_memory.journal.overwrite.Goals.{then-place-len, else-place-len}

pub loop-byte-preserved : goal.loop-byte-preserved
loop-byte-preserved c =
    let so_far = c.loop-byte.invariant in
    let old = c.args.content.now.items in
    let piece = c.args.piece.now in
    let byte = get_or piece c.loop-byte.byte-index 0 in
    elim c.if-place-len.branch [
      | then-place-len w ↦ record {
        items = ap (λ v. v.items) w.content-is ∙ (λ i. set (so_far.items i) (so_far.place i) byte) ∙ over old piece c.args.at c.loop-byte.byte-index c.requires.place c.loop-byte-test.true (omega (arith, c.len.ensures, so_far.len, w.if-place-len.true));
        place = omega (arith, so_far.place);
        len = omega (arith, ap vec_len w.content-is, so_far.len, c.len.ensures, w.if-place-len.true);
        capacity = search rules;
      }
      | else-place-len w ↦ record {
        items = ap (λ v. v.items) w.content-is ∙ w.push_reserved.ensures.items ∙ ap (λ (l : List ℕ). l ++ byte ∷ []) so_far.items ∙ past old piece c.args.at c.loop-byte.byte-index c.requires.place c.loop-byte-test.true (omega (arith, c.len.ensures, so_far.len, w.if-place-len.false));
        place = omega (arith, so_far.place);
        len = omega (arith, ap vec_len w.content-is, so_far.len, c.len.ensures, w.if-place-len.false);
        capacity = search rules;
      }
    ]
