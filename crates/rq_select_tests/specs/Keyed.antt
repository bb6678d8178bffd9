-- Each row has its rowid in the place for it; and the integers of a UNIQUE column.
use Rattle.std.specs.Prelude.{◌≡◌, ◌⊎◌, ℕ, ℤ, List, Option, Some, None}
use Rattle.std.specs.Ordering.{int_cmp}
use Rattle.std.specs.BTreeMap.{BTreeMap, get}
use Rattle.rq_values.specs.declared.value.Value.{Value}
use Rattle.rq_values.specs.declared.value.Value.TheVariants as v
use Rattle.rq_eval.specs.Names.{value_at}
use Rattle.rq_results.specs.Table.{as_row}

abbrev pub Rows : Type 0
Rows = BTreeMap ℤ (List Value)

abbrev pub IsKeyed : ℕ → Rows → Type 0
IsKeyed key rows = (j : ℤ) (vs : List Value) → get int_cmp rows j ≡ Some vs → value_at (as_row (j, vs)) key ≡ v.Int j

-- each row was there, or is the one that comes in
abbrev pub IsAdded : Rows → Rows → ℤ → List Value → Type 0
IsAdded old new k vs = (j : ℤ) (ws : List Value) → get int_cmp new j ≡ Some ws → (get int_cmp old j ≡ Some ws) ⊎ ((k ≡ j) × (vs ≡ ws))

-- each row is found by the integer that it has at the place
abbrev pub IsHeld : ℕ → BTreeMap ℤ ℤ → Rows → Type 0
IsHeld place holders rows = (j : ℤ) (vs : List Value) (n : ℤ) → get int_cmp rows j ≡ Some vs → value_at (as_row (j, vs)) place ≡ v.Int n → get int_cmp holders n ≡ Some j

abbrev pub number_of : Value → Option ℤ
number_of v.Null = None
number_of (v.Int n) = Some n
number_of (v.Text t) = None
number_of (v.Blob b) = None
