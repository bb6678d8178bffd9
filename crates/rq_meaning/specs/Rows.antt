-- Rows: how a row comes into a table, and what may be wrong with it. docs/SQL.md, "Errors of statements", its lines for a row.
-- Source: SQLite, "CREATE TABLE" (constraints, rowids), "STRICT Tables" (kinds), "INSERT".
pub use Rattle.std.specs.Fmt.{signed_decimal}
use Rattle.std.specs.Prelude.{ℕ, ◌+◌, ◌^◌, ◌-◌, ℤ, int_lt, pos, ◌+ℤ◌, Bool, true, false, ◌&&◌, if◌then◌else◌, nat_lt, List, [], ◌∷◌, drop, codes, bytes_eq, Option, Some, None, is_some, Ok, Err}
use Rattle.std.specs.Option.{option_map_or}
use Rattle.std.specs.List.{list_any}
use Rattle.std.specs.FinMap as fin
use Rattle.std.specs.Str.Parse.{signed_digits_value}
use Rattle.rq_values.specs.declared.value.Value.{Value}
use Rattle.rq_values.specs.declared.value.Value.TheVariants as v
use Rattle.rq_grammar.specs.declared.stmt.ColumnKind.{ColumnKind}
use Rattle.rq_grammar.specs.declared.stmt.ColumnKind.TheVariants as kind
use Rattle.rq_grammar.specs.declared.stmt.ColumnDef.{ColumnDef}
use Rattle.rq_eval.specs.declared.error.StmtError.{StmtError}
use Rattle.rq_eval.specs.declared.error.StmtError.TheVariants as error
use Rattle.rq_eval.specs.Outcome.{Outcome, then_with, all_of}
use Rattle.rq_operators.specs.Operators.{is_null, fits}
use Rattle.rq_results.specs.Checks.{Check, first}
use Rattle.rq_rows.specs.Rows.{is_unique, is_taken, key_of, largest}
use Rattle.rq_select.specs.Select.{unless}
use Rattle.rq_meaning.specs.Database.{Table, is_rowid, with_row, table_size, size_limit}

abbrev pub if_so : Bool → StmtError → Check
if_so b e = if b then Some e else None

-- ---- all columns of a table

-- the rowid, where it is none of the columns
abbrev pub hidden : ColumnDef
hidden = record { name = codes "rowid"; kind = kind.Integer; primary = true; not_null = false; unique = false }

abbrev pub has_rowid : List ColumnDef → Bool
has_rowid cs = list_any is_rowid cs

-- a hidden rowid stands before the columns
abbrev pub all_columns : List ColumnDef → List ColumnDef
all_columns cs = if has_rowid cs then cs else hidden ∷ cs

-- a row's values of all columns
abbrev pub all_values : List ColumnDef → ℤ → List Value → List Value
all_values cs k vs = if has_rowid cs then vs else v.Int k ∷ vs

-- of the values of all columns those of the table's own
abbrev pub own_values : List ColumnDef → List Value → List Value
own_values cs ws = if has_rowid cs then ws else drop 1 ws

-- ---- kinds

-- whether the text is the decimal spelling of an integer of 64 bits, which is then what its digits write
abbrev pub is_plain_integer : List ℕ → Bool
is_plain_integer text = fits (signed_digits_value 10 text) && bytes_eq (signed_decimal (signed_digits_value 10 text)) text

abbrev pub kind_of : Value → ColumnKind
kind_of v.Null = kind.Integer
kind_of (v.Int n) = kind.Integer
kind_of (v.Text t) = kind.Text
kind_of (v.Blob b) = kind.Blob

abbrev pub integer_stored : ColumnKind → ℤ → Option Value
integer_stored kind.Integer n = Some (v.Int n)
integer_stored kind.Text n = Some (v.Text (signed_decimal n))
integer_stored kind.Blob n = None

abbrev pub text_stored : ColumnKind → List ℕ → Option Value
text_stored kind.Integer t = if is_plain_integer t then Some (v.Int (signed_digits_value 10 t)) else None
text_stored kind.Text t = Some (v.Text t)
text_stored kind.Blob t = None

abbrev pub blob_stored : ColumnKind → List ℕ → Option Value
blob_stored kind.Integer b = None
blob_stored kind.Text b = None
blob_stored kind.Blob b = Some (v.Blob b)

-- a value as a column takes it
abbrev pub stored : ColumnKind → Value → Option Value
stored k v.Null = Some v.Null
stored k (v.Int n) = integer_stored k n
stored k (v.Text t) = text_stored k t
stored k (v.Blob b) = blob_stored k b

abbrev pub needed : {A : Type 0} → StmtError → Option A → Outcome A
needed e None = Err e
needed e (Some x) = Ok x

abbrev pub stored_in : List ℕ → ColumnDef → Value → Outcome Value
stored_in t c x = needed (error.CannotStore (kind_of x) c.kind t c.name) (stored c.kind x)

abbrev pub all_stored : List ℕ → List ColumnDef → List Value → List (Outcome Value)
all_stored t [] xs = []
all_stored t (c ∷ cs) [] = []
all_stored t (c ∷ cs) (x ∷ xs) = stored_in t c x ∷ all_stored t cs xs

-- ---- the rowid

-- rowids end here
abbrev pub last_rowid : ℤ
last_rowid = pos (2 ^ 63 - 2)

-- one more than the largest, 1 in an empty table
abbrev pub next_rowid : Table → ℤ
next_rowid t = option_map_or (λ k. k +ℤ pos 1) (largest (fin.entries t.rows)) (pos 1)

abbrev pub new_rowid : Table → Outcome ℤ
new_rowid t = let k = next_rowid t in if int_lt last_rowid k then Err error.Full else Ok k

abbrev pub given_rowid : ℤ → Outcome ℤ
given_rowid k = if int_lt last_rowid k then Err error.RowidOutOfRange else Ok k

-- where none is given: the one that the row had; the next, where it is a new row
abbrev pub missing_rowid : Table → Option ℤ → Outcome ℤ
missing_rowid t (Some k) = Ok k
missing_rowid t None = new_rowid t

abbrev pub rowid_for : Table → Option ℤ → Value → Outcome ℤ
rowid_for t had (v.Int k) = given_rowid k
rowid_for t had v.Null = missing_rowid t had
rowid_for t had (v.Text s) = missing_rowid t had
rowid_for t had (v.Blob b) = missing_rowid t had

-- the value in the column that is the rowid
abbrev pub rowid_value : List ColumnDef → List Value → Value
rowid_value [] xs = v.Null
rowid_value (c ∷ cs) [] = v.Null
rowid_value (c ∷ cs) (x ∷ xs) = if is_rowid c then x else rowid_value cs xs

abbrev pub with_rowid : ℤ → List ColumnDef → List Value → List Value
with_rowid k [] xs = xs
with_rowid k (c ∷ cs) [] = []
with_rowid k (c ∷ cs) (x ∷ xs) = (if is_rowid c then v.Int k else x) ∷ with_rowid k cs xs

-- ---- NOT NULL and UNIQUE

-- the rowid of a new row may be missing
abbrev pub is_needed : Option ℤ → ColumnDef → Bool
is_needed had c = if is_rowid c then is_some had else c.not_null

abbrev pub nulls : List ℕ → Option ℤ → List ColumnDef → List Value → List Check
nulls t had [] xs = []
nulls t had (c ∷ cs) [] = []
nulls t had (c ∷ cs) (x ∷ xs) = if_so (is_needed had c && is_null x) (error.NotNullFailed t c.name) ∷ nulls t had cs xs

-- whether another row has the rowid, or the value of the row in a UNIQUE column at place i
abbrev pub repeat : Table → ℤ → List Value → ℕ → ColumnDef → Check
repeat t k vs i c = if_so (if is_rowid c then fin.contains_key t.rows k else is_unique c && is_taken i t.rows (key_of i vs)) (error.UniqueFailed t.name c.name)

-- of the columns from place i on
abbrev pub repeats : Table → ℤ → List Value → ℕ → List ColumnDef → List Check
repeats t k vs i [] = []
repeats t k vs i (c ∷ cs) = repeat t k vs i c ∷ repeats t k vs (i + 1) cs

abbrev pub hidden_repeat : Table → ℤ → Check
hidden_repeat t k = if has_rowid t.columns then None else repeat t k [] 0 hidden

-- ---- the row in its table

-- the table may not pass the limit together with the others, which take so much
abbrev pub limit_check : ℕ → Table → Check
limit_check others t = if_so (nat_lt size_limit (others + table_size t)) error.Full

-- a row that has its values and its rowid
abbrev pub placed : ℕ → Table → ℤ → List Value → Outcome (ℤ × List Value)
placed others t k vs = unless (first (hidden_repeat t k ∷ repeats t k vs 0 t.columns)) (unless (limit_check others (with_row k vs t)) (Ok (k, vs)))

-- a row whose values are of their columns' kinds
abbrev pub numbered : ℕ → Table → Option ℤ → List Value → Outcome (ℤ × List Value)
numbered others t had xs =
    then_with (rowid_for t had (rowid_value (all_columns t.columns) xs)) (λ k.
    unless (first (nulls t.name had (all_columns t.columns) xs)) (
    placed others t k (with_rowid k t.columns (own_values t.columns xs))))

-- a row with the values of all columns as the table takes it, its rowid and its own values: kinds, then the rowid, then NOT NULL, then
-- UNIQUE, then the limit. `had` is the rowid of a row that is changed, `others` what the other tables take
abbrev pub judged : ℕ → Table → Option ℤ → List Value → Outcome (ℤ × List Value)
judged others t had xs = then_with (all_of (all_stored t.name (all_columns t.columns) xs)) (numbered others t had)

-- the row comes into the table; its rowid, and the table with it
abbrev pub entered : ℕ → Table → Option ℤ → List Value → Outcome (ℤ × Table)
entered others t had xs = then_with (judged others t had xs) (λ p. Ok (p.0, with_row p.0 p.1 t))
