-- A plain spelling of an integer is read as that integer.
use Rattle.std.proofs.Common.{Bool, true, false, ◌≡◌, ℕ, ℤ, pos, negsuc, ◌<◌, ◌^◌, ◌&&◌, nat_lt, List, refl, Result, Ok, sym, ap, ◌∙◌, arith, w64, FitsSigned}
use Rattle.std.specs.Prelude.{is_some, bytes_eq}
use Rattle.std.specs.Fmt.{signed_decimal}
use Rattle.std.specs.Result.{result_ok}
use Rattle.std.specs.Int.Signed.{mag}
use Rattle.std.specs.Str.Parse.{ParsesSigned, signed_digits_value}
use Rattle.std.proofs.lemmas.Bool.Decides.{nat_tests}
use Rattle.std.proofs.lemmas.Int.{ints}
use Rattle.std.proofs.lemmas.Fmt.{parse-signed_decimal}
use Rattle.std.proofs.lemmas.Slice.Eq.{bytes_eq-Decides}
use Rattle.rq_operators.specs.Operators.{fits}
use Rattle.rq_meaning.specs.Rows.{is_plain_integer}

left : (a b : Bool) → (a && b) ≡ true → a ≡ true
left true b h = refl
left false b h = h

right : (a b : Bool) → (a && b) ≡ true → b ≡ true
right true b h = h
right false b h = absurd (cc)

below_63 : (n : ℕ) → nat_lt n (2 ^ 63) ≡ true → n < 2 ^ 63
below_63 n h = grind (arith, nat_tests)

mag_from_test : (z : ℤ) → fits z ≡ true → mag z < 2 ^ 63
mag_from_test (pos n) h = below_63 n h
mag_from_test (negsuc n) h = below_63 n h

fits_from_test : (z : ℤ) → fits z ≡ true → FitsSigned w64 z
fits_from_test (pos n) h = let below = below_63 n h in omega (arith, ints)
fits_from_test (negsuc n) h = let below = below_63 n h in omega (arith, ints)

same_bytes : (a b : List ℕ) → bytes_eq a b ≡ true → a ≡ b
same_bytes a b h = (bytes_eq-Decides a b).0 h

some_from_ok : {E : Type 0} (r : Result ℤ E) (z : ℤ) → r ≡ Ok z → is_some (result_ok r) ≡ true
some_from_ok r z h = ap (λ r. is_some (result_ok r)) h

-- a plain spelling is read
pub plain_is_read : {E : Type 0} (text bytes : List ℕ) (r : Result ℤ E) → is_plain_integer text ≡ true → bytes ≡ text → ParsesSigned w64 10 bytes r → is_some (result_ok r) ≡ true
plain_is_read text bytes r h is parses =
    let z = signed_digits_value 10 text in
    let range : fits z ≡ true = left (fits z) (bytes_eq (signed_decimal z) text) h in
    let spelled : signed_decimal z ≡ text = same_bytes (signed_decimal z) text (right (fits z) (bytes_eq (signed_decimal z) text) h) in
    some_from_ok r z (parse-signed_decimal w64 z bytes r (fits_from_test z range) (mag_from_test z range) (is ∙ sym spelled) parses)
