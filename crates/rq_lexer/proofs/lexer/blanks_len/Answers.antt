use Rattle.std.proofs.Common.{◌≡◌, ◌≤◌, ◌+◌, drop, sym, ap, ◌∙◌, subst, arith, length-drop}
use Rattle.rq_lexer.specs.Lex.{lex_from, blank_len}
use Rattle.rq_lexer.proofs.Cut.{blank_more, blank_within}
use Rattle.rq_lexer.proofs.lexer.blanks_len.Goals as goal

pub loop-passed-preserved : goal.loop-passed-preserved
loop-passed-preserved c =
    let z = c.args.text.now in
    let k = c.loop-passed.passed in
    let is : c.blank_len-len.result ≡ blank_len (drop k z) = c.blank_len-len.ensures.value ∙ ap blank_len c.from_place.ensures in
    let some : 1 ≤ blank_len (drop k z) = omega arith in
    let within = blank_within (drop k z) in
    (λ at. subst (λ n. lex_from at 0 z ≡ lex_from (at + (k + n)) 0 (drop (k + n) z)) (sym is) (blank_more k z c.loop-passed.invariant.0 some at), omega (arith, length-drop k z))
