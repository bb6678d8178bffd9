-- The hexadecimal digits of a byte are ASCII without NUL.
use Rattle.std.proofs.Common.{◌≡◌, ℕ, true, ◌<◌, ◌/◌, ◌%◌, ◌&&◌, nat_lt, refl, arith}
use Rattle.std.proofs.lemmas.Bool.Decides.{nat_tests}
use Rattle.std.proofs.lemmas.Bool.{and_from}
use Rattle.rq_values.specs.Text.{is_plain}
use Rattle.rq_texts.specs.Hex.{hex_digit, hex_byte}

digit_plain : (n : ℕ) → n < 16 → (nat_lt 0 (hex_digit n) && nat_lt (hex_digit n) 128) ≡ true
digit_plain n h = grind (arith, nat_tests)

pub hex_byte_plain : (b : ℕ) → b < 256 → is_plain (hex_byte b) ≡ true
hex_byte_plain b small =
    let high : b / 16 < 16 = omega arith in
    let low : b % 16 < 16 = omega arith in
    and_from (nat_lt 0 (hex_digit (b / 16)) && nat_lt (hex_digit (b / 16)) 128) _ (digit_plain (b / 16) high)
    (and_from (nat_lt 0 (hex_digit (b % 16)) && nat_lt (hex_digit (b % 16)) 128) _ (digit_plain (b % 16) low) refl)
