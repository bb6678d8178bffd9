-- The addresses of a node.
use Rattle.std.proofs.lemmas.Bool.Decides.{nat_tests}
use Rattle.std.proofs.Common.{◌≡◌, ◌<◌, ℕ, suc, Bool, true, false, ◌&&◌, nat_lt, List, [], ◌∷◌, ◌++◌, length, refl, ◌∙◌, arith, length-append}
use Rattle.std.specs.List.{list_all}
use Rattle.std.proofs.lemmas.List.Folds.{list_all-append}
use Rattle.rq_values.specs.Text.{is_id, is_addr, is_lower, is_lower_or_digit, is_visible}

name_is_visible : (byte : ℕ) → is_lower_or_digit byte ≡ true → is_visible byte ≡ true
name_is_visible byte is = grind arith

first_is_visible : (byte : ℕ) → is_lower byte ≡ true → is_visible byte ≡ true
first_is_visible byte is = grind arith

pub both : (a b : Bool) → (a && b) ≡ true → (a ≡ true) × (b ≡ true)
both true true is = (refl, refl)
both true false is = (refl, is)
both false b is = (is, elim b as (λ v. v ≡ true) [ true ↦ refl | false ↦ is ])

all_visible : (bytes : List ℕ) → list_all is_lower_or_digit bytes ≡ true → list_all is_visible bytes ≡ true
all_visible [] is = refl
all_visible (byte ∷ bytes) is =
    let parts = both (is_lower_or_digit byte) (list_all is_lower_or_digit bytes) is in
    rw (name_is_visible byte parts.0, all_visible bytes parts.1) refl

below : (rest : List ℕ) → nat_lt (length rest) 16 ≡ true → length rest < 16
below rest is = grind (arith, nat_tests)

low_of : (n : ℕ) → nat_lt 0 (suc n) ≡ true
low_of n = grind (arith, nat_tests)

high_of : (n : ℕ) → n < 255 → nat_lt (suc n) 256 ≡ true
high_of n less = grind (arith, nat_tests)

-- an id and a port of visible bytes are an address
pub port_of_id : (id port : List ℕ) → is_id id ≡ true → list_all is_visible port ≡ true → length port < 200 → is_addr (id ++ port) ≡ true
unfolding is_id is_addr
port_of_id [] port is visible short = absurd (cc)
port_of_id (first ∷ rest) port is visible short =
    let parts = both (is_lower first && nat_lt (length rest) 16) (list_all is_lower_or_digit rest) is in
    let start = both (is_lower first) (nat_lt (length rest) 16) parts.0 in
    let first_seen = first_is_visible first start.0 in
    let rest_seen = all_visible rest parts.1 in
    let all_seen : list_all is_visible (rest ++ port) ≡ true = list_all-append is_visible rest port ∙ (rw (rest_seen, visible) refl) in
    let size = length-append rest port in
    let fits : length rest < 16 = below rest start.1 in
    let low = low_of (length (rest ++ port)) in
    let high = high_of (length (rest ++ port)) (omega arith) in
    rw (low, high, first_seen, all_seen) refl
