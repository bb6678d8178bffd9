-- Plain bytes are a text, and decimal numbers are plain.
use Rattle.std.proofs.Common.{Bool, true, false, ◌≡◌, ℕ, ◌+◌, ◌*◌, ◌-◌, ◌<◌, ◌^◌, ◌&&◌, nat_lt, List, [], ◌∷◌, ◌++◌, refl, ◌∙◌, arith, rules}
use Rattle.std.specs.List.{list_all}
use Rattle.std.specs.Str.{is_utf8, IsAscii, all_ascii_digits}
use Rattle.std.specs.Char.{is_ascii_digit}
use Rattle.std.specs.Fmt.{decimal}
use Rattle.std.specs.Prelude.{codes}
use Rattle.std.proofs.lemmas.Bool.Decides.{nat_tests}
use Rattle.std.proofs.lemmas.Str.{is_utf8-from_IsUtf8, IsUtf8-from_ascii}
use Rattle.std.proofs.lemmas.Str.Ascii.{IsAscii-cons, IsAscii-nil}
use Rattle.std.proofs.lemmas.Str.Parse.{IsNumeralModel, numerals_by_fold}
use Rattle.std.proofs.lemmas.List.Folds.{list_all-append}
use Rattle.std.proofs.lemmas.Fmt.{digits_decimal}
use Rattle.rq_values.specs.Text.{is_text}
use Rattle.rq_settle.specs.Refused.{is_plain}

both : (a b : Bool) → a ≡ true → b ≡ true → (a && b) ≡ true
both a b h k = cc

left : (a b : Bool) → (a && b) ≡ true → a ≡ true
left true b h = refl
left false b h = h

right : (a b : Bool) → (a && b) ≡ true → b ≡ true
right true b h = h
right false b h = absurd (cc)

below_from_test : (byte : ℕ) → nat_lt byte 128 ≡ true → byte < 128
below_from_test byte h = grind (arith, nat_tests)

ascii_from_plain : (bytes : List ℕ) → is_plain bytes ≡ true → IsAscii bytes
ascii_from_plain [] h = IsAscii-nil
ascii_from_plain (byte ∷ bytes) h =
    IsAscii-cons byte bytes (below_from_test byte (right (nat_lt 0 byte) (nat_lt byte 128) (left (nat_lt 0 byte && nat_lt byte 128) (is_plain bytes) h)))
    (ascii_from_plain bytes (right (nat_lt 0 byte && nat_lt byte 128) (is_plain bytes) h))

no_nul_from_plain : (bytes : List ℕ) → is_plain bytes ≡ true → list_all (λ byte. nat_lt 0 byte) bytes ≡ true
no_nul_from_plain [] h = refl
no_nul_from_plain (byte ∷ bytes) h =
    both (nat_lt 0 byte) (list_all (λ byte. nat_lt 0 byte) bytes) (left (nat_lt 0 byte) (nat_lt byte 128) (left (nat_lt 0 byte && nat_lt byte 128) (is_plain bytes) h))
    (no_nul_from_plain bytes (right (nat_lt 0 byte && nat_lt byte 128) (is_plain bytes) h))

pub is_text_from_plain : (bytes : List ℕ) → is_plain bytes ≡ true → is_text bytes ≡ true
unfolding is_text
is_text_from_plain bytes h = both (is_utf8 bytes) (list_all (λ byte. nat_lt 0 byte) bytes) (is_utf8-from_IsUtf8 bytes (IsUtf8-from_ascii bytes (ascii_from_plain bytes h))) (no_nul_from_plain bytes h)

-- ---- decimal text

abbrev read_on : ℕ → List ℕ → ℕ
read_on n [] = n
read_on n (c ∷ cs) = read_on (10 * n + (c - 48)) cs

own_numerals : IsNumeralModel (λ ds. all_ascii_digits ds ≡ true) (read_on 0)
own_numerals = numerals_by_fold _ (search rules) read_on (search rules)

plain_digit : (c : ℕ) → is_ascii_digit c ≡ true → (nat_lt 0 c && nat_lt c 128) ≡ true
plain_digit c h = grind (arith, nat_tests)

plain_from_digits : (ds : List ℕ) → all_ascii_digits ds ≡ true → is_plain ds ≡ true
plain_from_digits [] h = refl
plain_from_digits (d ∷ ds) h =
    both (nat_lt 0 d && nat_lt d 128) (is_plain ds) (plain_digit d (left (is_ascii_digit d) (all_ascii_digits ds) h)) (plain_from_digits ds (right (is_ascii_digit d) (all_ascii_digits ds) h))

plain_decimal : (n : ℕ) → n < 2 ^ 64 → is_plain (decimal n) ≡ true
plain_decimal n h = plain_from_digits (decimal n) (digits_decimal own_numerals n h)

pub plain_too_long : (n : ℕ) → n < 2 ^ 64 → is_plain (codes "statement too long: " ++ decimal n) ≡ true
plain_too_long n fits =
    list_all-append (λ byte. nat_lt 0 byte && nat_lt byte 128) (codes "statement too long: ") (decimal n)
    ∙ plain_decimal n fits

pub plain_too_large : (n : ℕ) → n < 2 ^ 64 → is_plain (codes "statement too large: " ++ decimal n) ≡ true
plain_too_large n fits =
    list_all-append (λ byte. nat_lt 0 byte && nat_lt byte 128) (codes "statement too large: ") (decimal n)
    ∙ plain_decimal n fits

pub nothing_text : is_text [] ≡ true
nothing_text = is_text_from_plain [] refl
