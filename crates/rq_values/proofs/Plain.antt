-- What is a text: ASCII without NUL, a text behind a text, a decimal number.
use Rattle.std.proofs.Common.{String, string_bytes, Bool, true, false, ◌≡◌, ℕ, ℤ, pos, negsuc, suc, ◌+◌, ◌*◌, ◌-◌, ◌<◌, ◌^◌, ◌&&◌, nat_lt, List, [], ◌∷◌, ◌++◌, map, refl, ap, ◌∙◌, arith, rules, w64, FitsSigned}
use Rattle.std.specs.List.{list_all}
use Rattle.std.specs.Str.{is_utf8, IsAscii, IsUtf8, all_ascii_digits}
use Rattle.std.specs.declared.alloc.Global.{Global}
use Rattle.std.specs.Char.{is_ascii_digit, to_ascii_lowercase, to_ascii_uppercase}
use Rattle.std.specs.Fmt.{decimal, signed_decimal}
use Rattle.std.proofs.lemmas.Bool.{and_from, and_parts}
use Rattle.std.proofs.lemmas.Bool.Decides.{nat_tests}
use Rattle.std.proofs.lemmas.Str.{IsUtf8-string_bytes, IsUtf8-append, IsUtf8-from_is_utf8, is_utf8-from_IsUtf8, IsUtf8-from_ascii}
use Rattle.std.proofs.lemmas.Str.Ascii.{IsAscii-cons, IsAscii-nil}
use Rattle.std.proofs.lemmas.Str.Parse.{IsNumeralModel, numerals_by_fold}
use Rattle.std.proofs.lemmas.List.Folds.{list_all-append}
use Rattle.std.proofs.lemmas.Fmt.{digits_decimal}
use Rattle.std.proofs.lemmas.Int.{ints}
use Rattle.rq_values.specs.Text.{is_text, is_plain}

below : (byte : ℕ) → nat_lt byte 128 ≡ true → byte < 128
below byte h = grind (arith, nat_tests)

ascii : (bytes : List ℕ) → is_plain bytes ≡ true → IsAscii bytes
ascii [] h = IsAscii-nil
ascii (b ∷ z) h =
    let d = and_parts (nat_lt 0 b && nat_lt b 128) (is_plain z) h in
    IsAscii-cons b z (below b (and_parts (nat_lt 0 b) (nat_lt b 128) d.0).1) (ascii z d.1)

full : (bytes : List ℕ) → is_plain bytes ≡ true → list_all (λ byte. nat_lt 0 byte) bytes ≡ true
full [] h = refl
full (b ∷ z) h =
    let d = and_parts (nat_lt 0 b && nat_lt b 128) (is_plain z) h in
    and_from (nat_lt 0 b) (list_all (λ byte. nat_lt 0 byte) z) (and_parts (nat_lt 0 b) (nat_lt b 128) d.0).0 (full z d.1)

pub text_plain : (bytes : List ℕ) → is_plain bytes ≡ true → is_text bytes ≡ true
unfolding is_text
text_plain bytes h = and_from (is_utf8 bytes) (list_all (λ byte. nat_lt 0 byte) bytes) (is_utf8-from_IsUtf8 bytes (IsUtf8-from_ascii bytes (ascii bytes h))) (full bytes h)

pub text_append : (a b : List ℕ) → is_text a ≡ true → is_text b ≡ true → is_text (a ++ b) ≡ true
unfolding is_text
text_append a b h k =
    let no_nul = list_all (λ byte. nat_lt 0 byte) in
    let p = and_parts (is_utf8 a) (no_nul a) h in
    let q = and_parts (is_utf8 b) (no_nul b) k in
    and_from (is_utf8 (a ++ b)) (no_nul (a ++ b))
    (is_utf8-from_IsUtf8 (a ++ b) (IsUtf8-append a b (IsUtf8-from_is_utf8 a p.0) (IsUtf8-from_is_utf8 b q.0)))
    (list_all-append (λ byte. nat_lt 0 byte) a b ∙ and_from (no_nul a) (no_nul b) p.1 q.1)

pub text_and_plain : (a b : List ℕ) → is_text a ≡ true → is_plain b ≡ true → is_text (a ++ b) ≡ true
text_and_plain a b h k = text_append a b h (text_plain b k)

-- ---- decimal numbers

abbrev read_on : ℕ → List ℕ → ℕ
read_on n [] = n
read_on n (c ∷ cs) = read_on (10 * n + (c - 48)) cs

numerals : IsNumeralModel (λ ds. all_ascii_digits ds ≡ true) (read_on 0)
numerals = numerals_by_fold _ (search rules) read_on (search rules)

digit : (c : ℕ) → is_ascii_digit c ≡ true → (nat_lt 0 c && nat_lt c 128) ≡ true
digit c h = grind (arith, nat_tests)

plain_digits : (ds : List ℕ) → all_ascii_digits ds ≡ true → is_plain ds ≡ true
plain_digits [] h = refl
plain_digits (d ∷ ds) h =
    let p = and_parts (is_ascii_digit d) (all_ascii_digits ds) h in
    and_from (nat_lt 0 d && nat_lt d 128) (is_plain ds) (digit d p.0) (plain_digits ds p.1)

pub plain_decimal : (n : ℕ) → n < 2 ^ 64 → is_plain (decimal n) ≡ true
plain_decimal n h = plain_digits (decimal n) (digits_decimal numerals n h)

pub text_and_decimal : (a : List ℕ) (n : ℕ) → is_text a ≡ true → n < 2 ^ 64 → is_text (a ++ decimal n) ≡ true
text_and_decimal a n h k = text_and_plain a (decimal n) h (plain_decimal n k)

pub utf8_text : (bytes : List ℕ) → is_text bytes ≡ true → IsUtf8 bytes
unfolding is_text
utf8_text bytes h = IsUtf8-from_is_utf8 bytes (and_parts (is_utf8 bytes) (list_all (λ byte. nat_lt 0 byte) bytes) h).0

-- a string is UTF-8, so it is a text exactly where it has no NUL
pub text_of_string : (s : String Global) → is_text (string_bytes s) ≡ list_all (λ byte. nat_lt 0 byte) (string_bytes s)
unfolding is_text
text_of_string s = rw (is_utf8-from_IsUtf8 (string_bytes s) (IsUtf8-string_bytes s))

-- ---- strings that are made of a number or of a text

pub text_signed : (z : ℤ) → FitsSigned w64 z → is_text (signed_decimal z) ≡ true
text_signed (pos n) h = text_plain (decimal n) (plain_decimal n (omega (arith, ints)))
text_signed (negsuc n) h = text_plain (45 ∷ decimal (suc n)) (plain_decimal (suc n) (omega (arith, ints)))

pub text_of_integer : (s : String Global) (z : ℤ) → string_bytes s ≡ signed_decimal z → FitsSigned w64 z → is_text (string_bytes s) ≡ true
text_of_integer s z e h = ap is_text e ∙ text_signed z h

abbrev positive : ℕ → Bool
positive byte = nat_lt 0 byte

lowered_positive : (b : ℕ) → positive b ≡ true → positive (to_ascii_lowercase b) ≡ true
lowered_positive b h = grind arith

raised_positive : (b : ℕ) → positive b ≡ true → positive (to_ascii_uppercase b) ≡ true
raised_positive b h = grind arith

all_lowered : (n : List ℕ) → list_all positive n ≡ true → list_all positive (map to_ascii_lowercase n) ≡ true
all_lowered [] h = refl
all_lowered (b ∷ n) h = grind (arith, lowered_positive, all_lowered n)

all_raised : (n : List ℕ) → list_all positive n ≡ true → list_all positive (map to_ascii_uppercase n) ≡ true
all_raised [] h = refl
all_raised (b ∷ n) h = grind (arith, raised_positive, all_raised n)

no_nul : (bytes : List ℕ) → is_text bytes ≡ true → list_all positive bytes ≡ true
unfolding is_text
no_nul bytes h = (and_parts (is_utf8 bytes) (list_all positive bytes) h).1

pub text_of_lowered : (s : String Global) (n : List ℕ) → string_bytes s ≡ map to_ascii_lowercase n → is_text n ≡ true → is_text (string_bytes s) ≡ true
text_of_lowered s n e h = text_of_string s ∙ ap (list_all positive) e ∙ all_lowered n (no_nul n h)

pub text_of_raised : (s : String Global) (n : List ℕ) → string_bytes s ≡ map to_ascii_uppercase n → is_text n ≡ true → is_text (string_bytes s) ≡ true
text_of_raised s n e h = text_of_string s ∙ ap (list_all positive) e ∙ all_raised n (no_nul n h)
