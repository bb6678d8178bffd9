-- The tables that entries hold: as the command found them, as the statement or the transaction did, and as they are.
use Rattle.std.specs.Prelude.{◌≡◌, ◌≤◌, ◌<◌, ℕ, Bool, true, false, ◌||◌, ◌&&◌, bytes_eq, if◌then◌else◌, List, [], ◌∷◌, length, slice_index_or, Option, Some, None, refl}
use Rattle.std.specs.List.{filter_map, sum_by}
use Rattle.std.specs.Coded.{Coded, code_by, coded×, coded_bool, coded_list}
use Rattle.std.specs.FinMap as fin
use Rattle.std.specs.FinMap.Entries.{find}
use Rattle.rq_values.specs.declared.value.Value.{Value}
use Rattle.rq_grammar.specs.declared.stmt.ColumnDef.{ColumnDef}
use Rattle.rq_meaning.specs.Database.{Table, Database, name_cmp, lower, table_size, tables_size, size_limit}
use Rattle.rq_changes.specs.Staged.{StagedTable, start_of, before_of, now_of, table_code}
use Rattle.rq_tables.specs.declared.entry.Entry.{Entry}

-- a table under its name in lower case
abbrev pub Named : Type 0
Named = List ℕ × Table

abbrev pub named : Table → Named
named t = (lower t.name, t)

abbrev pub named_if : Bool → Table → Option Named
named_if b t = if b then Some (named t) else None

abbrev pub at_start : Entry → Option Named
at_start e = named_if e.start (start_of e.table)

abbrev pub at_before : Entry → Option Named
at_before e = named_if e.before (before_of e.table)

abbrev pub at_now : Entry → Option Named
at_now e = named_if e.now (now_of e.table)

-- the tables that are there, of all entries
abbrev pub listed : (Entry → Option Named) → List Entry → List Named
listed f es = filter_map f es

abbrev pub named_db : List Named → Database
named_db xs = fin.from_entries xs

abbrev pub database : (Entry → Option Named) → List Entry → Database
database f es = named_db (listed f es)

abbrev pub start_db : List Entry → Database
start_db es = database at_start es

abbrev pub before_db : List Entry → Database
before_db es = database at_before es

abbrev pub now_db : List Entry → Database
now_db es = database at_now es

-- no two tables have one name
abbrev pub Apart : List Named → Type 0
Apart [] = Unit {0}
Apart (x ∷ xs) = (find name_cmp x.0 xs ≡ None) × Apart xs

-- what tables take where they are spelled
abbrev pub sized : List Named → ℕ
sized xs = sum_by (λ (x : Named). table_size x.1) xs

-- a state of the entries: names differ, and the tables are within the limit
pub record IsState (f : Entry → Option Named) (es : List Entry) : Type 0 where
  pub apart : Apart (listed f es)
  pub within : tables_size (database f es) ≤ size_limit

pub record Sound (es : List Entry) : Type 0 where
  pub start : IsState at_start es
  pub before : IsState at_before es
  pub now : IsState at_now es

-- what a change of the tables leaves as it was
pub record Rest (old new : List Entry) : Type 0 where
  pub start : start_db new ≡ start_db old
  pub before : before_db new ≡ before_db old

-- whether it is the table of a name
abbrev pub is_named : Entry → List ℕ → Bool
is_named e n = e.now && bytes_eq (lower e.table.name) (lower n)

-- there is a table at a place
abbrev pub IsThere : List Entry → ℕ → Type 0
IsThere es i = (i < length es) × ((d : Entry) → (slice_index_or es i d).now ≡ true)

-- the place of the table of a name, where there is one
abbrev pub IsPlace : List Entry → List ℕ → Option ℕ → Type 0
IsPlace es n None = find name_cmp (lower n) (listed at_now es) ≡ None
IsPlace es n (Some i) = IsThere es i × ((d : Entry) → lower (slice_index_or es i d).table.name ≡ lower n)

-- ---- what becomes of an entry

-- whether it is there, or was when the command began
abbrev pub is_used : Entry → Bool
is_used e = e.start || e.now

-- a table that comes
abbrev pub fresh : StagedTable → Entry
fresh t = record { table = t; start = false; before = false; now = true }

abbrev pub begun : Entry → Entry
begun e = record e { before = e.now; table = record e.table { rows = record e.table.rows { before = e.table.rows.now } } }

abbrev pub taken_back : Entry → Entry
taken_back e = record e { now = e.before; table = record e.table { rows = record e.table.rows { now = e.table.rows.before } } }

abbrev pub all_taken_back : Entry → Entry
all_taken_back e = record e { before = e.start; now = e.start; table = record e.table { rows = record e.table.rows { before = e.table.rows.start; now = e.table.rows.start } } }

abbrev pub kept : Entry → Entry
kept e = record e { start = e.now; before = e.now; table = record e.table { rows = record e.table.rows { start = e.table.rows.now; before = e.table.rows.now } } }

abbrev pub entries_code : Coded ColumnDef → Coded Value → Coded (List Entry)
entries_code c v = coded_list (code_by (StagedTable × (Bool × (Bool × Bool))) (coded× (table_code c v) (coded× coded_bool (coded× coded_bool coded_bool)))
    (λ e. (e.table, (e.start, (e.before, e.now))))
    (λ p. record { table = p.0; start = p.1.0; before = p.1.1.0; now = p.1.1.1 })
    (λ _. refl))
