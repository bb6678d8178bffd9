-- How the tokens of a text follow from what stands before it.
use Rattle.std.proofs.Common.{◌≡◌, ℕ, zero, suc, ◌+◌, ◌-◌, ◌<◌, ◌≤◌, Bool, true, false, ◌&&◌, cond, List, [], ◌∷◌, length, drop, refl, sym, ap, subst, ◌∙◌, arith, None, length-drop}
use Rattle.std.specs.Prelude.{slice_index, ◌==◌}
use Rattle.std.specs.List.{prefix_len}
use Rattle.std.proofs.lemmas.Bool.Decides.{nat_tests}
use Rattle.std.proofs.lemmas.List.{drop-drop}
use Rattle.std.proofs.lemmas.List.Sums.{prefix_len-le-length}
use Rattle.rq_grammar.specs.declared.token.Token.{Token}
use Rattle.rq_grammar.specs.Words.{Text}
use Rattle.rq_lexer.specs.declared.placed.Placed.{Placed}
use Rattle.rq_lexer.specs.Lex.{Front, is_blank, is_in_line, behind_comment, blank_len, prefix, piece_of, piece, placed, lex_from, lex}
use Rattle.rq_lexer.specs.Facts.{IsCut, InOrder}
use Rattle.rq_lexer.proofs.Prefixes.{prefix_is}

-- ---- a blank or a comment is within its text

comment_within : (at : ℕ) (star : Bool) (z : Text) → behind_comment at star z ≤ at + length z
comment_within at star [] = omega arith
comment_within at star (b ∷ z) = by_case (star && b == 47) (comment_within (at + 1) (b == 42) z)
  where
    by_case : (c : Bool) → behind_comment (at + 1) (b == 42) z ≤ at + 1 + length z → cond c (at + 1) (behind_comment (at + 1) (b == 42) z) ≤ at + suc (length z)
    by_case true h = omega arith
    by_case false h = omega arith

by_test : (n : ℕ) (b : Bool) (x y : ℕ) → (b ≡ true → x ≤ n) → (b ≡ false → y ≤ n) → cond b x y ≤ n
by_test n true x y f g = f refl
by_test n false x y f g = g refl

pub blank_within : (z : Text) → blank_len z ≤ length z
unfolding blank_len
blank_within z =
    let b = slice_index z 0 in
    let c = slice_index z 1 in
    by_test (length z) (is_blank b) 1 _ (λ h. one z h)
    (λ _. by_test (length z) (b == 45 && c == 45) (prefix_len is_in_line z) _ (λ h. prefix_len-le-length is_in_line z)
    (λ _. by_test (length z) (b == 47 && c == 42) (behind_comment 2 false (drop 2 z)) 0 (λ h. comment z h) (λ _. omega arith)))
  where
    one : (z : Text) → is_blank (slice_index z 0) ≡ true → 1 ≤ length z
    one [] h = absurd (cc)
    one (b ∷ z) h = omega arith

    comment : (z : Text) → (slice_index z 0 == 47 && slice_index z 1 == 42) ≡ true → behind_comment 2 false (drop 2 z) ≤ length z
    comment [] h = absurd (cc)
    comment (a ∷ []) h = grind (arith, nat_tests)
    comment (a ∷ b ∷ z) h = let most = comment_within 2 false z in omega arith

-- ---- what stands before it is cut off

pub past : (at left : ℕ) (z : Text) → lex_from at left z ≡ lex_from (at + left) 0 (drop left z)
unfolding lex_from
past at zero z = let e : at ≡ at + 0 = omega arith in ap (λ n. lex_from n 0 z) e
past at (suc left) [] = refl
past at (suc left) (b ∷ z) = let e : at + 1 + left ≡ at + suc left = omega arith in past (at + 1) left z ∙ ap (λ n. lex_from n 0 (drop left z)) e

-- the rest behind a piece of n bytes
behind : (at n b : ℕ) (z : Text) → 1 ≤ n → lex_from (at + 1) (n - 1) z ≡ lex_from (at + n) 0 (drop n (b ∷ z))
behind at zero b z h = absurd (omega arith)
behind at (suc n) b z h =
    let one : suc n - 1 ≡ n = omega arith in
    let e : at + 1 + n ≡ at + suc n = omega arith in
    ap (λ k. lex_from (at + 1) k z) one ∙ past (at + 1) n z ∙ ap (λ k. lex_from k 0 (drop n z)) e

blank_piece : (n : ℕ) (f : Front) → 1 ≤ n → piece_of n f ≡ (None, n)
blank_piece zero f h = absurd (omega arith)
blank_piece (suc n) f h = refl

pub blank_goes : (at : ℕ) (z : Text) → 1 ≤ blank_len z → lex_from at 0 z ≡ lex_from (at + blank_len z) 0 (drop (blank_len z) z)
unfolding lex_from piece
blank_goes at [] h = absurd (omega (arith, blank_within []))
blank_goes at (b ∷ z) h =
    let n = blank_len (b ∷ z) in
    ap (λ p. placed at p (lex_from (at + 1) (p.1 - 1) z)) (blank_piece n (prefix (b ∷ z)) h) ∙ behind at n b z h

pub token_goes : (at : ℕ) (z : Text) → 1 ≤ length z → blank_len z ≡ 0
    → lex_from at 0 z ≡ (record { token = (prefix z).0; start = at; end = at + (prefix z).1 }) ∷ lex_from (at + (prefix z).1) 0 (drop (prefix z).1 z)
unfolding lex_from piece
token_goes at [] some h = absurd (omega arith)
token_goes at (b ∷ z) some h =
    let f = prefix (b ∷ z) in
    let is = prefix_is (b ∷ z) some in
    let here : Placed = record { token = f.0; start = at; end = at + f.1 } in
    ap (λ n. placed at (piece_of n f) (lex_from (at + 1) ((piece_of n f).1 - 1) z)) h ∙ ap (λ more. here ∷ more) (behind at f.1 b z is.some)

pub nothing_left : (at : ℕ) (z : Text) → length z ≡ 0 → lex_from at 0 z ≡ []
unfolding lex_from
nothing_left at [] h = refl
nothing_left at (b ∷ z) h = absurd (omega arith)

-- ---- places rise

lower : (from from' upto : ℕ) (ps : List Placed) → from' ≤ from → InOrder from upto ps → InOrder from' upto ps
lower from from' upto [] le h = tt
lower from from' upto (p ∷ ps) le h = (let first = h.0 in omega arith, h.1, h.2, h.3, h.4)

along : (a b u v : ℕ) (ps : List Placed) → a ≡ b → u ≡ v → InOrder a u ps → InOrder b v ps
along a b u v ps d e h = subst (λ n. InOrder n v ps) d (subst (λ n. InOrder a n ps) e h)

in_order : (at left : ℕ) (z : Text) → InOrder (at + left) (at + length z) (lex_from at left z)
unfolding lex_from piece
in_order at left [] = tt
in_order at (suc left) (b ∷ z) =
    let d : at + 1 + left ≡ at + suc left = omega arith in
    let e : at + 1 + length z ≡ at + suc (length z) = omega arith in
    along (at + 1 + left) (at + suc left) (at + 1 + length z) (at + suc (length z)) (lex_from (at + 1) left z) d e (in_order (at + 1) left z)
in_order at zero (b ∷ z) = by_blank (blank_len (b ∷ z)) (λ n. in_order (at + 1) n z)
  where
    f : Front
    f = prefix (b ∷ z)

    by_blank : (n : ℕ) → ((k : ℕ) → InOrder (at + 1 + k) (at + 1 + length z) (lex_from (at + 1) k z)) → InOrder (at + 0) (at + suc (length z)) (placed at (piece_of n f) (lex_from (at + 1) ((piece_of n f).1 - 1) z))
    by_blank zero more =
        let is = prefix_is (b ∷ z) (omega arith) in
        let some = is.some in
        let within = is.within in
        let d : at + 1 + (f.1 - 1) ≡ at + f.1 = omega arith in
        let e : at + 1 + length z ≡ at + suc (length z) = omega arith in
        (omega arith, omega arith, omega arith, is.cut, along (at + 1 + (f.1 - 1)) (at + f.1) (at + 1 + length z) (at + suc (length z)) (lex_from (at + 1) (f.1 - 1) z) d e (more (f.1 - 1)))
    by_blank (suc n) more =
        let e : at + 1 + length z ≡ at + suc (length z) = omega arith in
        lower (at + 1 + (suc n - 1)) (at + 0) (at + suc (length z)) (lex_from (at + 1) (suc n - 1) z) (omega arith)
        (along (at + 1 + (suc n - 1)) (at + 1 + (suc n - 1)) (at + 1 + length z) (at + suc (length z)) (lex_from (at + 1) (suc n - 1) z) refl e (more (suc n - 1)))

pub lex_in_order : (z : Text) → InOrder 0 (length z) (lex z)
unfolding lex
lex_in_order z =
    let d : 0 + 0 ≡ 0 = refl in
    let e : 0 + length z ≡ length z = omega arith in
    along (0 + 0) 0 (0 + length z) (length z) (lex_from 0 0 z) d e (in_order 0 0 z)

few : (at left : ℕ) (z : Text) → length (lex_from at left z) ≤ length z
unfolding lex_from piece
few at left [] = omega arith
few at (suc left) (b ∷ z) = let fewer = few (at + 1) left z in omega arith
few at zero (b ∷ z) = by_blank (blank_len (b ∷ z)) (λ n. few (at + 1) n z)
  where
    f : Front
    f = prefix (b ∷ z)

    by_blank : (n : ℕ) → ((k : ℕ) → length (lex_from (at + 1) k z) ≤ length z) → length (placed at (piece_of n f) (lex_from (at + 1) ((piece_of n f).1 - 1) z)) ≤ suc (length z)
    by_blank zero more = let fewer = more (f.1 - 1) in omega arith
    by_blank (suc n) more = let fewer = more (suc n - 1) in omega arith

pub lex_few : (z : Text) → length (lex z) ≤ length z
unfolding lex
lex_few z = few 0 0 z

-- ---- the lexer's step

pub blank_more : (n : ℕ) (z : Text) → ((at : ℕ) → lex_from at 0 z ≡ lex_from (at + n) 0 (drop n z)) → 1 ≤ blank_len (drop n z)
    → (at : ℕ) → lex_from at 0 z ≡ lex_from (at + (n + blank_len (drop n z))) 0 (drop (n + blank_len (drop n z)) z)
blank_more n z before some at =
    let k = blank_len (drop n z) in
    let e : at + n + k ≡ at + (n + k) = omega arith in
    before at ∙ blank_goes (at + n) (drop n z) some ∙ ap (λ m. lex_from m 0 (drop k (drop n z))) e ∙ ap (λ y. lex_from (at + (n + k)) 0 y) (drop-drop k n z)

pub takes_nothing : (text behind rest : Text) (at n : ℕ) → behind ≡ drop at text → rest ≡ drop n behind → ((k : ℕ) → lex_from k 0 behind ≡ lex_from (k + n) 0 (drop n behind)) → length rest ≡ 0
    → lex_from at 0 (drop at text) ≡ []
takes_nothing text behind rest at n d e same none = ap (lex_from at 0) (sym d) ∙ same at ∙ nothing_left (at + n) (drop n behind) (ap length (sym e) ∙ none)

pub takes : (text behind rest : Text) (at n : ℕ) (u : Token) (len : ℕ) → behind ≡ drop at text → rest ≡ drop n behind → ((k : ℕ) → lex_from k 0 behind ≡ lex_from (k + n) 0 (drop n behind)) → blank_len (drop n behind) ≡ 0 → 1 ≤ length rest → (u, len) ≡ prefix rest
    → lex_from at 0 (drop at text) ≡ (record { token = u; start = at + n; end = at + n + len }) ∷ lex_from (at + n + len) 0 (drop (at + n + len) text)
takes text behind rest at n u len d e same stops some f =
    let g : prefix (drop n behind) ≡ (u, len) = ap prefix (sym e) ∙ sym f in
    let some' : 1 ≤ length (drop n behind) = subst (λ (y : Text). 1 ≤ length y) e some in
    let shown : (prefix (drop n behind)).1 ≡ len = ap (λ (p : Front). p.1) g in
    let cut : List Placed = (record { token = u; start = at + n; end = at + n + len }) ∷ lex_from (at + n + len) 0 (drop len (drop n behind)) in
    let one : lex_from (at + n) 0 (drop n behind) ≡ cut = token_goes (at + n) (drop n behind) some' stops ∙ ap (λ (p : Front). (record { token = p.0; start = at + n; end = at + n + p.1 }) ∷ lex_from (at + n + p.1) 0 (drop p.1 (drop n behind))) g in
    let place : drop len (drop n behind) ≡ drop (at + n + len) text = ap (λ (y : Text). drop len (drop n y)) d ∙ ap (drop len) (drop-drop n at text) ∙ drop-drop len (at + n) text in
    ap (lex_from at 0) (sym d) ∙ same at ∙ one ∙ ap (λ (y : Text). (record { token = u; start = at + n; end = at + n + len }) ∷ lex_from (at + n + len) 0 y) place

pub takes_within : (text behind rest : Text) (at n : ℕ) (u : Token) (len : ℕ) → at ≤ length text → behind ≡ drop at text → n ≤ length behind → rest ≡ drop n behind → 1 ≤ length rest → (u, len) ≡ prefix rest → at + n + len ≤ length text
takes_within text behind rest at n u len le d le' e some f =
    let is = prefix_is rest some in
    let within : len ≤ length rest = subst (λ (p : Front). p.1 ≤ length rest) (sym f) is.within in
    omega (arith, ap length d, ap length e, length-drop at text, length-drop n behind)

pub taken : (rest : Text) (start : ℕ) (u : Token) (len : ℕ) → 1 ≤ length rest → (u, len) ≡ prefix rest → (start < start + len) × IsCut u
taken rest start u len some f =
    let is = prefix_is rest some in
    let moves : 1 ≤ len = subst (λ (p : Front). 1 ≤ p.1) (sym f) is.some in
    (omega arith, subst (λ (p : Front). IsCut p.0) (sym f) is.cut)
