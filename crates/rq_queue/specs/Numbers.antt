-- A queue as a list in order, each item with its sequence number.
use Rattle.std.specs.Prelude.{ℕ, ◌+◌, ◌-◌, List, [], ◌∷◌, length}

-- the items that are held, in order, and the last number that was given
pub record Contents (T : Type 0) : Type 0 where
  pub items : List T
  pub last : ℕ

module _ {T : Type 0} where
  -- numbers rise by one
  abbrev pub numbered : ℕ → List T → List (ℕ × T)
  numbered number [] = []
  numbered number (item ∷ items) = (number, item) ∷ numbered (number + 1) items

  -- the last item has the last number
  abbrev pub first_number : Contents T → ℕ
  first_number q = q.last - length q.items + 1

  abbrev pub with_numbers : Contents T → List (ℕ × T)
  with_numbers q = numbered (first_number q) q.items
