-- The columns of a table in the order of their headings; of equal headings the last.
use Rattle.std.specs.Prelude.{ℕ, ◌<◌, ⊤, length, zero, suc, List, [], ◌∷◌, ◌++◌, get_or, insert, set}
use Rattle.std.specs.Ordering.{nat_cmp, match_ordering}
use Rattle.std.specs.Cmp.Lexicographic.{slice_cmp}
use Rattle.json.specs.Token.{Token, key, string}
use Rattle.rq_values.specs.declared.value.Value.{Value}
use Rattle.rq_values.specs.declared.value.Value.TheVariants.{Null}
use Rattle.rq_replies.specs.Reply.{value_token}
use Rattle.rq_replies.specs.declared.objects.Spot.{Spot}
use Rattle.rq_replies.specs.declared.objects.Spot.TheVariants.{Before, At, End}

abbrev pub heading : List (List ℕ) → ℕ → List ℕ
heading headings at = get_or headings at []

-- a column's index put among those in order
abbrev pub place : List (List ℕ) → ℕ → List ℕ → List ℕ
place headings at [] = at ∷ []
place headings at (other ∷ order) =
    match_ordering (slice_cmp nat_cmp (heading headings at) (heading headings other)) (at ∷ other ∷ order) (at ∷ order) (other ∷ place headings at order)

-- the first so many columns in order
abbrev pub order_to : List (List ℕ) → ℕ → List ℕ
order_to headings zero = []
order_to headings (suc n) = place headings n (order_to headings n)

-- the order with an index at a spot
abbrev pub with_spot : Spot → ℕ → List ℕ → List ℕ
with_spot (Before p) at order = insert order p at
with_spot (At p) at order = set order p at
with_spot End at order = order ++ at ∷ []

abbrev pub value_under : List (List ℕ) → List Value → ℕ → List Token
value_under headings row at = key (heading headings at) ∷ value_token (get_or row at Null) ∷ []

abbrev pub type_under : List (List ℕ) → List (List ℕ) → ℕ → List Token
type_under headings types at = key (heading headings at) ∷ string (get_or types at []) ∷ []

-- a spot that names a place names one of the order
abbrev pub IsWithin : Spot → List ℕ → Type 0
IsWithin (Before p) order = p < length order
IsWithin (At p) order = p < length order
IsWithin End order = ⊤
