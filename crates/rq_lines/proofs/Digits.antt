-- What one digit more makes of a number.
use Rattle.std.proofs.Common.{◌≡◌, ◌<◌, ℕ, ◌+◌, ◌*◌, ◌-◌, min, List, [], ◌∷◌, ◌++◌, length, take, get_or, refl, sym, ◌∙◌, ap, arith}
use Rattle.std.proofs.lemmas.List.{take_more}
use Rattle.rq_lines.specs.Spelled.{value_behind}

value_more : (value : ℕ) (digits : List ℕ) (digit : ℕ) → value_behind value (digits ++ digit ∷ []) ≡ 10 * value_behind value digits + (digit - 48)
value_more value [] digit = refl
value_more value (first ∷ digits) digit = value_more (10 * value + (first - 48)) digits digit

bounded_more : (value digit most : ℕ) → min (min (min value most * 10) most + digit) most ≡ min (10 * value + digit) most
bounded_more value digit most = omega arith

pub digit_more : (digits : List ℕ) (i digit value most product sum : ℕ) → i < length digits → digit ≡ get_or digits i 0 - 48
    → value ≡ min (value_behind 0 (take i digits)) most → product ≡ min (value * 10) most → sum ≡ min (product + digit) most
    → sum ≡ min (value_behind 0 (take (i + 1) digits)) most
digit_more digits i digit value most product sum below is_digit is_value is_product is_sum =
    is_sum
    ∙ ap (λ (p : ℕ). min (p + digit) most) (is_product ∙ ap (λ (v : ℕ). min (v * 10) most) is_value)
    ∙ bounded_more (value_behind 0 (take i digits)) digit most
    ∙ ap (λ (d : ℕ). min (10 * value_behind 0 (take i digits) + d) most) is_digit
    ∙ ap (λ (v : ℕ). min v most) (sym (value_more 0 (take i digits) (get_or digits i 0)))
    ∙ ap (λ (l : List ℕ). min (value_behind 0 l) most) (sym (take_more digits i 0 below))
