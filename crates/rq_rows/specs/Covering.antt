-- How the maps by value go with the rows.
use Rattle.std.specs.Prelude.{ℕ, ℤ, ◌≡◌, ◌<◌, ◌≤◌, Bool, true, false, ◌&&◌, cond, if◌then◌else◌, List, length, Option, Some, None, IsSome, slice_get}
use Rattle.std.specs.FinMap as fin
use Rattle.std.specs.List.{list_any}
use Rattle.rq_values.specs.declared.value.Value.{Value}
use Rattle.rq_values.specs.declared.value.Value.TheVariants.{Int}
use Rattle.rq_grammar.specs.declared.stmt.ColumnDef.{ColumnDef}
use Rattle.rq_rows.specs.Rows.{Filled, is_rowid, is_unique, key_of, is_taken, is_same, has, walk}
use Rattle.rq_rows.specs.Holding.{held, same}
use Rattle.rq_rows.specs.Slots.{Slot}

abbrev pub Held : Type 0
Held = List (Value × ℤ)

-- each row is found by its value
abbrev pub Cover : ℕ → Held → Filled → Type 0
Cover n h rows = (k : ℤ) (row : List Value) (v : Value) → fin.get rows k ≡ Some row → key_of n row ≡ Some v → held h v ≡ Some k

abbrev pub Covers : List ColumnDef → List Held → Filled → Type 0
Covers cs hs rows = (n : ℕ) (c : ColumnDef) (h : Held) → slice_get cs n ≡ Some c → slice_get hs n ≡ Some h → is_unique c ≡ true → Cover n h rows

-- no two rows have one value
abbrev pub Apart : ℕ → Filled → Type 0
Apart n rows = (j k : ℤ) (r s : List Value) (v : Value) → fin.get rows j ≡ Some r → fin.get rows k ≡ Some s → key_of n r ≡ Some v → key_of n s ≡ Some v → j ≡ k

-- the value is the rowid
abbrev pub Keyed : ℕ → Filled → Type 0
Keyed n rows = (k : ℤ) (row : List Value) → fin.get rows k ≡ Some row → slice_get row n ≡ Some (Int k)

-- each row has a value for each column
abbrev pub Counted : ℕ → Filled → Type 0
Counted n rows = (k : ℤ) (row : List Value) → fin.get rows k ≡ Some row → length row ≡ n

-- each row has a value for each column, UNIQUE columns differ, and the column that is the rowid has it
pub record Valid (cs : List ColumnDef) (rows : Filled) : Type 0 where
  pub counted : Counted (length cs) rows
  pub apart : (n : ℕ) (c : ColumnDef) → slice_get cs n ≡ Some c → is_unique c ≡ true → Apart n rows
  pub keyed : (n : ℕ) (c : ColumnDef) → slice_get cs n ≡ Some c → is_rowid c ≡ true → Keyed n rows

-- no row has a value of this one
abbrev pub Free : List ColumnDef → Filled → List Value → Type 0
Free cs rows row = (n : ℕ) (c : ColumnDef) → slice_get cs n ≡ Some c → is_unique c ≡ true → is_taken n rows (key_of n row) ≡ false

-- the row has a value for each column, and its rowid in the rowid's column
pub record HasKey (cs : List ColumnDef) (k : ℤ) (row : List Value) : Type 0 where
  pub count : length row ≡ length cs
  pub key : (n : ℕ) (c : ColumnDef) → slice_get cs n ≡ Some c → is_rowid c ≡ true → slice_get row n ≡ Some (Int k)

-- the maps have an entry for each value of a row
abbrev pub HasHolders : List ColumnDef → List Held → Slot → Type 0
HasHolders cs hs None = Unit {0}
HasHolders cs hs (Some row) = (n : ℕ) (c : ColumnDef) (h : Held) (v : Value) → slice_get cs n ≡ Some c → slice_get hs n ≡ Some h → is_unique c ≡ true → key_of n row ≡ Some v → IsSome (held h v)

-- an entry stays an entry
abbrev pub MoreHeld : Held → Held → Type 0
MoreHeld g h = (q : Value) → IsSome (held g q) → IsSome (held h q)

abbrev pub More : List Held → List Held → Type 0
More gs hs = (n : ℕ) (h : Held) → slice_get hs n ≡ Some h → (g : Held) × (slice_get gs n ≡ Some g) × MoreHeld g h

-- whether a row that comes in gives the entry of q another rowid
abbrev pub is_new : ColumnDef → Option Value → Value → Bool
is_new c None q = false
is_new c (Some v) q = is_unique c && same v q

abbrev pub Points : ColumnDef → Option Value → ℤ → Held → Held → Type 0
Points c o k g h = (q : Value) → held h q ≡ cond (is_new c o q) (Some k) (held g q)

-- the maps below place i know the row, the others are as they were
abbrev pub PointsBelow : ℕ → List ColumnDef → List Value → ℤ → List Held → List Held → Type 0
PointsBelow i cs row k gs hs = (n : ℕ) (c : ColumnDef) (h : Held) → slice_get cs n ≡ Some c → slice_get hs n ≡ Some h
    → (g : Held) × (slice_get gs n ≡ Some g) × (n < i → Points c (key_of n row) k g h) × (i ≤ n → h ≡ g)

abbrev pub PointsAll : List ColumnDef → List Value → ℤ → List Held → List Held → Type 0
PointsAll cs row k gs hs = PointsBelow (length cs) cs row k gs hs

abbrev pub PointsSome : List ColumnDef → List Value → ℤ → List Held → List Held → Type 0
PointsSome cs row k gs hs = (i : ℕ) × PointsBelow i cs row k gs hs

-- the row that a map gives, if it has the value
abbrev pub probe_row : ℕ → Value → ℤ → Option (List Value) → Option ℤ
probe_row n v k None = None
probe_row n v k (Some row) = if is_same v (key_of n row) then Some k else None

abbrev pub probe : ℕ → Value → Filled → Option ℤ → Option ℤ
probe n v rows None = None
probe n v rows (Some k) = probe_row n v k (fin.get rows k)

-- the one row with the value
abbrev pub Finds : ℕ → Value → Filled → Option ℤ → Type 0
Finds n v rows None = list_any (has n v) (walk rows) ≡ false
Finds n v rows (Some k) = (row : List Value) × (fin.get rows k ≡ Some row) × (has n v (k, row) ≡ true) × ((j : ℤ) (r : List Value) → fin.get rows j ≡ Some r → has n v (j, r) ≡ true → j ≡ k)
