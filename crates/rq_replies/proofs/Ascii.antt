-- Ids and addresses are ASCII, so they are UTF-8.
use Rattle.std.proofs.Common.{◌≡◌, true, Bool, ℕ, ◌<◌, ◌&&◌, ◌||◌, nat_lt, nat_le, List, [], ◌∷◌, length, arith}
use Rattle.std.specs.List.{list_all}
use Rattle.std.specs.Str.{IsAscii, IsUtf8}
use Rattle.std.proofs.lemmas.Bool.{and_parts}
use Rattle.std.proofs.lemmas.Bool.Decides.{nat_tests}
use Rattle.std.proofs.lemmas.Str.{IsUtf8-from_ascii}
use Rattle.std.proofs.lemmas.Str.Ascii.{IsAscii-cons, IsAscii-nil}
use Rattle.rq_values.specs.Text.{is_id, is_addr, is_visible, is_lower, is_lower_or_digit}

all_ascii : (test : ℕ → Bool) → ((byte : ℕ) → test byte ≡ true → byte < 128) → (bytes : List ℕ) → list_all test bytes ≡ true → IsAscii bytes
all_ascii test low [] h = IsAscii-nil
all_ascii test low (byte ∷ bytes) h =
    let parts = and_parts (test byte) (list_all test bytes) h in
    IsAscii-cons byte bytes (low byte parts.0) (all_ascii test low bytes parts.1)

lower_is_low : (byte : ℕ) → is_lower byte ≡ true → byte < 128
lower_is_low byte h = grind (arith, nat_tests)

name_is_low : (byte : ℕ) → is_lower_or_digit byte ≡ true → byte < 128
name_is_low byte h = grind (arith, nat_tests)

visible_is_low : (byte : ℕ) → is_visible byte ≡ true → byte < 128
visible_is_low byte h = grind (arith, nat_tests)

pub id_is_utf8 : (bytes : List ℕ) → is_id bytes ≡ true → IsUtf8 bytes
unfolding is_id
id_is_utf8 [] h = absurd (cc)
id_is_utf8 (first ∷ rest) h =
    let parts = and_parts (is_lower first && nat_lt (length rest) 16) (list_all is_lower_or_digit rest) h in
    let start = and_parts (is_lower first) (nat_lt (length rest) 16) parts.0 in
    IsUtf8-from_ascii (first ∷ rest) (IsAscii-cons first rest (lower_is_low first start.0) (all_ascii is_lower_or_digit name_is_low rest parts.1))

pub address_is_utf8 : (bytes : List ℕ) → is_addr bytes ≡ true → IsUtf8 bytes
unfolding is_addr
address_is_utf8 bytes h =
    let parts = and_parts (nat_lt 0 (length bytes) && nat_lt (length bytes) 256) (list_all is_visible bytes) h in
    IsUtf8-from_ascii bytes (all_ascii is_visible visible_is_low bytes parts.1)
