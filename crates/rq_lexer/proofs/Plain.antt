-- Words and numerals are texts, since they are ASCII without NUL.
use Rattle.std.proofs.Common.{Bool, true, false, ◌≡◌, ℕ, suc, ◌+◌, ◌<◌, ◌&&◌, cond, nat_lt, List, [], ◌∷◌, take, refl, ap, ◌∙◌, arith, Option, Some, None}
use Rattle.std.specs.List.{list_all, prefix_len}
use Rattle.std.specs.Str.{is_utf8, IsAscii}
use Rattle.std.proofs.lemmas.Bool.Decides.{nat_tests}
use Rattle.std.proofs.lemmas.Str.{is_utf8-from_IsUtf8, IsUtf8-from_ascii}
use Rattle.std.proofs.lemmas.Str.Ascii.{IsAscii-cons, IsAscii-nil}
use Rattle.rq_values.specs.Text.{is_text, IsMade}
use Rattle.rq_grammar.specs.Spelling.{is_in_word}
use Rattle.rq_lexer.specs.Lex.{is_in_numeral}

pub both : (a b : Bool) → a ≡ true → b ≡ true → (a && b) ≡ true
both a b h k = cc

pub left : (a b : Bool) → (a && b) ≡ true → a ≡ true
left true b h = refl
left false b h = h

pub right : (a b : Bool) → (a && b) ≡ true → b ≡ true
right true b h = h
right false b h = absurd (cc)

-- the bytes of a run pass its test
pub run_passes : (p : ℕ → Bool) (z : List ℕ) → list_all p (take (prefix_len p z) z) ≡ true
run_passes p [] = refl
run_passes p (b ∷ z) = elim (p b) as (λ t. p b ≡ t → list_all p (take (cond t (1 + prefix_len p z) 0) (b ∷ z)) ≡ true) [
  | true ↦ λ h. let e : 1 + prefix_len p z ≡ suc (prefix_len p z) = omega arith in ap (λ n. list_all p (take n (b ∷ z))) e ∙ both (p b) (list_all p (take (prefix_len p z) z)) h (run_passes p z)
  | false ↦ λ h. refl
] refl

below : (b : ℕ) → is_in_numeral b ≡ true → b < 128
below b h = grind (arith, nat_tests)

above : (b : ℕ) → is_in_numeral b ≡ true → nat_lt 0 b ≡ true
above b h = grind (arith, nat_tests)

ascii : (z : List ℕ) → list_all is_in_numeral z ≡ true → IsAscii z
ascii [] h = IsAscii-nil
ascii (b ∷ z) h = IsAscii-cons b z (below b (left (is_in_numeral b) (list_all is_in_numeral z) h)) (ascii z (right (is_in_numeral b) (list_all is_in_numeral z) h))

no_nul : (z : List ℕ) → list_all is_in_numeral z ≡ true → list_all (λ byte. nat_lt 0 byte) z ≡ true
no_nul [] h = refl
no_nul (b ∷ z) h = both (nat_lt 0 b) (list_all (λ byte. nat_lt 0 byte) z) (above b (left (is_in_numeral b) (list_all is_in_numeral z) h)) (no_nul z (right (is_in_numeral b) (list_all is_in_numeral z) h))

pub is_text-plain : (z : List ℕ) → list_all is_in_numeral z ≡ true → is_text z ≡ true
unfolding is_text
is_text-plain z h = both (is_utf8 z) (list_all (λ byte. nat_lt 0 byte) z) (is_utf8-from_IsUtf8 z (IsUtf8-from_ascii z (ascii z h))) (no_nul z h)

wider : (b : ℕ) → is_in_word b ≡ true → is_in_numeral b ≡ true
wider b h = cc

all_wider : (z : List ℕ) → list_all is_in_word z ≡ true → list_all is_in_numeral z ≡ true
all_wider [] h = refl
all_wider (b ∷ z) h = both (is_in_numeral b) (list_all is_in_numeral z) (wider b (left (is_in_word b) (list_all is_in_word z) h)) (all_wider z (right (is_in_word b) (list_all is_in_word z) h))

pub is_text_word : (z : List ℕ) → is_text (take (prefix_len is_in_word z) z) ≡ true
is_text_word z = is_text-plain (take (prefix_len is_in_word z) z) (all_wider (take (prefix_len is_in_word z) z) (run_passes is_in_word z))

pub is_text_numeral : (z : List ℕ) → is_text (take (prefix_len is_in_numeral z) z) ≡ true
is_text_numeral z = is_text-plain (take (prefix_len is_in_numeral z) z) (run_passes is_in_numeral z)

-- what a constructor answers
pub made : (is : Bool) (z : List ℕ) (o : Option (List ℕ)) → IsMade is z o → o ≡ cond is (Some z) None
made is z None h = rw h refl
made is z (Some x) h = rw h.0 (ap Some h.1)
