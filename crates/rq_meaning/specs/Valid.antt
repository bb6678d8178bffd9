-- Valid databases.
use Rattle.std.specs.Prelude.{◌≡◌, ◌≢◌, ◌≤◌, ◌+◌, ℕ, ℤ, int_lt, true, false, List, [], ◌∷◌, length, slice_get, Option, Some, None}
use Rattle.std.specs.FinMap as fin
use Rattle.rq_values.specs.declared.value.Value.{Value}
use Rattle.rq_values.specs.declared.value.Value.TheVariants as v
use Rattle.rq_grammar.specs.declared.stmt.ColumnDef.{ColumnDef}
use Rattle.rq_results.specs.Checks.{first}
use Rattle.rq_meaning.specs.Database.{Table, Database, lower, is_rowid, table_size, tables_size, size_limit}
use Rattle.rq_rows.specs.Rows.{is_unique}
use Rattle.rq_meaning.specs.Rows.{stored, last_rowid}
use Rattle.rq_meaning.specs.Checks.{create_check}

-- a value that a column has in the row of that rowid
pub record FitsColumn (c : ColumnDef) (k : ℤ) (x : Value) : Type 0 where
  pub kind : stored c.kind x ≡ Some x
  pub rowid : is_rowid c ≡ true → x ≡ v.Int k
  pub not_null : c.not_null ≡ true → x ≢ v.Null

pub record ValidRow (cs : List ColumnDef) (k : ℤ) (vs : List Value) : Type 0 where
  pub last : int_lt last_rowid k ≡ false
  pub count : length vs ≡ length cs
  pub values : (i : ℕ) (c : ColumnDef) (x : Value) → slice_get cs i ≡ Some c → slice_get vs i ≡ Some x → FitsColumn c k x

-- no two rows have one value in the column
abbrev pub Differs : Table → ℕ → Type 0
Differs t i = (j k : ℤ) (us vs : List Value) (x : Value) → fin.get t.rows j ≡ Some us → fin.get t.rows k ≡ Some vs
    → slice_get us i ≡ Some x → slice_get vs i ≡ Some x → x ≢ v.Null → j ≡ k

-- the columns are such as CREATE lets through, each row fits them, and UNIQUE holds
pub record ValidTable (t : Table) : Type 0 where
  pub declared : first (create_check t.name t.columns ∷ []) ≡ None
  pub some : t.columns ≢ []
  pub rows : (k : ℤ) (vs : List Value) → fin.get t.rows k ≡ Some vs → ValidRow t.columns k vs
  pub unique : (i : ℕ) (c : ColumnDef) → slice_get t.columns i ≡ Some c → is_unique c ≡ true → Differs t i

pub record Valid (db : Database) : Type 0 where
  pub named : (name : List ℕ) (t : Table) → fin.get db name ≡ Some t → name ≡ lower t.name
  pub tables : (name : List ℕ) (t : Table) → fin.get db name ≡ Some t → ValidTable t
  pub size : tables_size db ≤ size_limit

-- ---- what leaves a table valid

-- the rowid that a row had is within its range
abbrev pub HadFits : Option ℤ → Type 0
HadFits None = Unit {0}
HadFits (Some k) = int_lt last_rowid k ≡ false

-- a row that comes into a valid table leaves it valid, and within the limit together with the others
pub record Entered (others : ℕ) (t new : Table) : Type 0 where
  pub valid : ValidTable new
  pub name : new.name ≡ t.name
  pub columns : new.columns ≡ t.columns
  pub within : others + table_size new ≤ size_limit
