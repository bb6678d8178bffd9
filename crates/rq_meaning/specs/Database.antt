-- Database: tables by name, and how long their spelling is.
-- Source: SQLite, "CREATE TABLE", section "ROWIDs and the INTEGER PRIMARY KEY"; the sizes are ours.
use Rattle.std.specs.Prelude.{ℕ, ◌+◌, ℤ, if◌then◌else◌, List, [], ◌∷◌, length, map, Option}
use Rattle.std.specs.Char.{to_ascii_lowercase}
use Rattle.std.specs.List.{sum_by}
use Rattle.std.specs.Ordering.{nat_cmp}
use Rattle.std.specs.declared.cmp.Ordering.{Ordering}
use Rattle.std.specs.Cmp.Lexicographic.{slice_cmp}
use Rattle.std.specs.FinMap as fin
use Rattle.std.specs.FinMap.{FinMap}
use Rattle.rq_values.specs.declared.value.Value.{Value}
use Rattle.rq_values.specs.declared.value.Value.TheVariants.{Null, Int, Text, Blob}
use Rattle.rq_grammar.specs.declared.stmt.ColumnDef.{ColumnDef}
pub use Rattle.rq_rows.specs.Rows.{is_rowid}
pub use Rattle.rq_results.specs.Table.{Table}

-- names that are alike in ASCII lower case are one name
abbrev pub lower : List ℕ → List ℕ
lower name = map to_ascii_lowercase name

abbrev pub name_cmp : List ℕ → List ℕ → Ordering
name_cmp = slice_cmp nat_cmp

-- each table under its name in lower case
abbrev pub Database : Type 0
Database = FinMap name_cmp Table

abbrev pub table_of : List ℕ → Database → Option Table
table_of name db = fin.get db (lower name)

abbrev pub with_table : List ℕ → Table → Database → Database
with_table name t db = fin.insert db (lower name) t

abbrev pub without_table : List ℕ → Database → Database
without_table name db = fin.remove db (lower name)

-- ---- rows of a table

abbrev pub with_row : ℤ → List Value → Table → Table
with_row k vs t = record t { rows = fin.insert t.rows k vs }

abbrev pub without_row : ℤ → Table → Table
without_row k t = record t { rows = fin.remove t.rows k }

-- ---- how many bytes the tables take where they are spelled: names and texts with their length in four bytes, a kind byte and
-- a flags byte for a column, the number of rows in eight bytes, rowids in eight, values with a kind byte; the rowid's column is left out

abbrev pub value_size : Value → ℕ
value_size Null = 1
value_size (Int number) = 9
value_size (Text text) = 5 + length text
value_size (Blob bytes) = 5 + length bytes

abbrev pub cell_size : ColumnDef → Value → ℕ
cell_size c v = if is_rowid c then 0 else value_size v

abbrev pub cells_size : List ColumnDef → List Value → ℕ
cells_size [] vs = 0
cells_size (c ∷ cs) [] = 0
cells_size (c ∷ cs) (v ∷ vs) = cell_size c v + cells_size cs vs

abbrev pub row_size : List ColumnDef → List Value → ℕ
row_size cs vs = 8 + cells_size cs vs

abbrev pub column_size : ColumnDef → ℕ
column_size c = 6 + length c.name

abbrev pub columns_size : List ColumnDef → ℕ
columns_size [] = 0
columns_size (c ∷ cs) = column_size c + columns_size cs

abbrev pub empty_size : List ℕ → List ColumnDef → ℕ
empty_size name cs = 16 + length name + columns_size cs

abbrev pub table_size : Table → ℕ
table_size t = empty_size t.name t.columns + sum_by (row_size t.columns) (fin.values t.rows)

abbrev pub tables_size : Database → ℕ
tables_size db = 4 + sum_by table_size (fin.values db)

-- what the tables may take
abbrev pub size_limit : ℕ
size_limit = 268435456
