-- How a token's source is shown in an error text: a NUL and each byte that is no UTF-8 as U+FFFD.
use Rattle.std.specs.Prelude.{ℕ, zero, suc, pred, Bool, true, false, if◌then◌else◌, List, [], ◌∷◌, ◌++◌, take}
use Rattle.rq_values.specs.Text.{is_text}

-- U+FFFD in UTF-8
abbrev pub replacement : List ℕ
replacement = 239 ∷ 191 ∷ 189 ∷ []

-- how long the character before it is that can be shown, 0 where there is none
abbrev pub char_len : List ℕ → ℕ
char_len z =
    if is_text (take 1 z) then 1
    else (if is_text (take 2 z) then 2
    else (if is_text (take 3 z) then 3
    else (if is_text (take 4 z) then 4
    else 0)))

abbrev pub is_zero : ℕ → Bool
is_zero zero = true
is_zero (suc n) = false

-- `left` bytes of a character before it are still to come
abbrev pub shown_from : ℕ → List ℕ → List ℕ
shown_from left [] = []
shown_from (suc left) (b ∷ z) = b ∷ shown_from left z
shown_from zero (b ∷ z) = if is_zero (char_len (b ∷ z)) then replacement ++ shown_from zero z else b ∷ shown_from (pred (char_len (b ∷ z))) z

abbrev pub shown : List ℕ → List ℕ
shown source = shown_from 0 source
