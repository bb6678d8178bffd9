-- Rows of a table: each rowid's values, and what two rows may not share.
-- Source: SQLite, "CREATE TABLE", sections "UNIQUE constraints" and "ROWIDs and the INTEGER PRIMARY KEY".
use Rattle.std.specs.Prelude.{ℕ, ℤ, Bool, true, false, not, ◌&&◌, ◌||◌, List, [], ◌∷◌, slice_get, Option, Some, None, unwrap_or}
use Rattle.std.specs.List.{list_any}
use Rattle.std.specs.Ordering.{int_cmp, is_eq}
use Rattle.std.specs.FinMap as fin
use Rattle.std.specs.FinMap.{FinMap}
use Rattle.rq_values.specs.Order.{value_cmp}
use Rattle.rq_values.specs.declared.value.Value.{Value}
use Rattle.rq_values.specs.declared.value.Value.TheVariants.{Null, Int, Text, Blob}
use Rattle.rq_grammar.specs.declared.stmt.ColumnKind.{ColumnKind}
use Rattle.rq_grammar.specs.declared.stmt.ColumnKind.TheVariants as kind
use Rattle.rq_grammar.specs.declared.stmt.ColumnDef.{ColumnDef}

-- the values of the columns, by rowid
abbrev pub Filled : Type 0
Filled = FinMap int_cmp (List Value)

abbrev pub Row : Type 0
Row = ℤ × List Value

-- the rows in rising rowid
abbrev pub walk : Filled → List Row
walk rows = fin.entries rows

abbrev pub is_integer : ColumnKind → Bool
is_integer kind.Integer = true
is_integer kind.Text = false
is_integer kind.Blob = false

-- an INTEGER column that is the PRIMARY KEY is the rowid
abbrev pub is_rowid : ColumnDef → Bool
is_rowid c = is_integer c.kind && c.primary

-- a column in which no two rows have one value, but for the rowid
abbrev pub is_unique : ColumnDef → Bool
is_unique c = not (is_rowid c) && (c.unique || c.primary)

-- a value, unless it is NULL
abbrev pub known : Value → Option Value
known Null = None
known (Int n) = Some (Int n)
known (Text t) = Some (Text t)
known (Blob b) = Some (Blob b)

abbrev pub known_or : Option Value → Option Value
known_or None = None
known_or (Some v) = known v

-- the value at a place, unless it is NULL
abbrev pub key_of : ℕ → List Value → Option Value
key_of n vs = known_or (slice_get vs n)

abbrev pub is_same : Value → Option Value → Bool
is_same v None = false
is_same v (Some w) = is_eq (value_cmp v w)

-- whether a row has the value at the place
abbrev pub has : ℕ → Value → Row → Bool
has n v r = is_same v (key_of n r.1)

-- whether some row has the value at the place; NULLs are never equal
abbrev pub is_taken : ℕ → Filled → Option Value → Bool
is_taken n rows None = false
is_taken n rows (Some v) = list_any (has n v) (walk rows)

-- the largest rowid
abbrev pub largest : List Row → Option ℤ
largest [] = None
largest (r ∷ rs) = Some (unwrap_or (largest rs) r.0)
