-- One table of a database: its name and columns as declared, and the values of each rowid.
use Rattle.std.specs.Prelude.{ℕ, ℤ, Bool, true, false, ◌&&◌, if◌then◌else◌, List, [], ◌∷◌, map, slice_get, Option, Some, None}
use Rattle.std.specs.Option.{option_or, option_map}
use Rattle.std.specs.Ordering.{int_cmp}
use Rattle.std.specs.FinMap as fin
use Rattle.std.specs.FinMap.{FinMap}
use Rattle.rq_values.specs.declared.value.Value.{Value}
use Rattle.rq_grammar.specs.declared.stmt.ColumnDef.{ColumnDef}
use Rattle.rq_grammar.specs.declared.stmt.ColumnKind.{ColumnKind}
use Rattle.rq_grammar.specs.declared.stmt.ColumnKind.TheVariants as kind
use Rattle.rq_eval.specs.declared.row.Scope.{Scope}
use Rattle.rq_eval.specs.declared.row.Scope.TheVariants as scope
use Rattle.rq_eval.specs.Names.{Row}

pub record Table : Type 0 where
  pub name : List ℕ
  pub columns : List ColumnDef
  pub rows : FinMap int_cmp (List Value)

-- a rowid and its values, as a row that expressions see
abbrev pub as_row : ℤ × List Value → Row
as_row e = record { values = e.1; rowid = e.0 }

-- the rows in rising rowid
abbrev pub rows_of : Table → List Row
rows_of t = map as_row (fin.entries t.rows)

-- what names may name
abbrev pub scope_of : Table → Scope
scope_of t = scope.Table t.name (map (λ (c : ColumnDef). c.name) t.columns)

-- the row of a rowid
abbrev pub row_at : Table → ℤ → Option Row
row_at t k = option_map (λ vs. as_row (k, vs)) (fin.get t.rows k)

-- an INTEGER column that is the PRIMARY KEY is the rowid
abbrev pub is_integer : ColumnKind → Bool
is_integer kind.Integer = true
is_integer kind.Text = false
is_integer kind.Blob = false

abbrev pub is_rowid : ColumnDef → Bool
is_rowid c = is_integer c.kind && c.primary

abbrev pub rowid_column : List ColumnDef → Option ColumnDef
rowid_column [] = None
rowid_column (c ∷ cs) = if is_rowid c then Some c else rowid_column cs

-- the column at a place; behind the columns stands the rowid, which is a column where one is the rowid
abbrev pub column_at : List ColumnDef → ℕ → Option ColumnDef
column_at cs i = option_or (slice_get cs i) (rowid_column cs)
