-- What is wrong with a statement before any row is looked at. docs/SQL.md, "Errors of statements", its lines from the top down to those
-- of a row; a select's own are those of rq_select.
use Rattle.std.specs.Prelude.{ℕ, ◌+◌, ◌==◌, Bool, not, ◌&&◌, if◌then◌else◌, nat_lt, List, [], ◌∷◌, ◌++◌, length, map, take, codes, bytes_eq, Option, Some, None}
use Rattle.std.specs.Option.{option_map}
use Rattle.std.specs.List.{list_any, filter_map}
use Rattle.rq_grammar.specs.declared.expr.Expr.{Expr}
use Rattle.rq_grammar.specs.declared.stmt.ColumnDef.{ColumnDef}
use Rattle.rq_eval.specs.declared.error.StmtError.TheVariants as error
use Rattle.rq_eval.specs.declared.row.Scope.TheVariants as scope
use Rattle.rq_eval.specs.Names.{is_same_name, place}
use Rattle.rq_results.specs.declared.checking.Allowed.TheVariants as allowed
use Rattle.rq_results.specs.Table.{scope_of}
use Rattle.rq_results.specs.Checks.{Check, first, names_in, calls_in, optional}
use Rattle.rq_meaning.specs.Database.{Table, is_rowid, lower}
use Rattle.rq_meaning.specs.Rows.{if_so, has_rowid, all_columns}

-- ---- CREATE

-- names that begin with `sqlite_` are reserved
abbrev pub is_reserved : List ℕ → Bool
is_reserved n = bytes_eq (lower (take 7 n)) (codes "sqlite_")

abbrev pub is_among : List ℕ → List ColumnDef → Bool
is_among n cs = list_any (λ (c : ColumnDef). is_same_name c.name n) cs

abbrev pub has_primary : List ColumnDef → Bool
has_primary cs = list_any (λ (c : ColumnDef). c.primary) cs

-- a column behind others: its name, and then its PRIMARY KEY
abbrev pub column_check : List ℕ → List ColumnDef → ColumnDef → Check
column_check t before c = first (
    if_so (is_among c.name before) (error.DuplicateColumn c.name) ∷
    if_so (c.primary && has_primary before) (error.SecondPrimaryKey t) ∷ [])

abbrev pub column_checks : List ℕ → List ColumnDef → List ColumnDef → List Check
column_checks t before [] = []
column_checks t before (c ∷ cs) = column_check t before c ∷ column_checks t (before ++ c ∷ []) cs

abbrev pub create_check : List ℕ → List ColumnDef → Check
create_check t cs = first (if_so (is_reserved t) (error.ReservedName t) ∷ column_checks t [] cs)

-- ---- lists of names

-- the place among all columns of the one that is the rowid
abbrev pub rowid_place : List ColumnDef → ℕ
rowid_place [] = 0
rowid_place (c ∷ cs) = if is_rowid c then 0 else rowid_place cs + 1

-- the place among all columns, of a place in an expression's row
abbrev pub in_all : List ColumnDef → ℕ → ℕ
in_all cs i = if nat_lt i (length cs) then (if has_rowid cs then i else i + 1) else rowid_place (all_columns cs)

-- the place among all columns of the one that a name names
abbrev pub place_of : Table → List ℕ → Option ℕ
place_of t n = option_map (in_all t.columns) (place (scope_of t) n)

abbrev pub places_of : Table → List (List ℕ) → List ℕ
places_of t ns = filter_map (place_of t) ns

-- a name behind others names a column, and none that they name
abbrev pub named_check : Table → List ℕ → List ℕ → Option ℕ → Check
named_check t before n None = Some (error.NoColumnInTable t.name n)
named_check t before n (Some i) = if_so (list_any (λ j. j == i) before) (error.DuplicateColumn n)

abbrev pub name_check : Table → List (List ℕ) → List ℕ → Check
name_check t before n = named_check t (places_of t before) n (place_of t n)

abbrev pub name_checks : Table → List (List ℕ) → List (List ℕ) → List Check
name_checks t before [] = []
name_checks t before (n ∷ ns) = name_check t before n ∷ name_checks t (before ++ n ∷ []) ns

-- ---- INSERT

abbrev pub list_check : Table → Option (List (List ℕ)) → Check
list_check t None = None
list_check t (Some ns) = first (name_checks t [] ns)

-- how many values a row has
abbrev pub count_check : Table → Option (List (List ℕ)) → ℕ → Check
count_check t None m = if_so (not (m == length t.columns)) (error.WrongValueCount t.name (length t.columns) m)
count_check t (Some ns) m = if_so (not (m == length ns)) (error.WrongListCount m (length ns))

-- of each expression of each row
abbrev pub in_rows : (Expr → Check) → List (List Expr) → Check
in_rows f rows = first (map (λ xs. first (map f xs)) rows)

-- no column is named in VALUES
abbrev pub values_check : Table → Option (List (List ℕ)) → List (List Expr) → Check
values_check t ns rows = first (
    list_check t ns ∷
    in_rows (names_in scope.Empty) rows ∷
    first (map (λ xs. count_check t ns (length xs)) rows) ∷
    in_rows (calls_in allowed.Columns) rows ∷ [])

-- ---- UPDATE and DELETE

-- an assignment: its name, and then the names in its expression
abbrev pub set_check : Table → List (List ℕ) → List ℕ × Expr → Check
set_check t before s = first (name_check t before s.0 ∷ names_in (scope_of t) s.1 ∷ [])

abbrev pub set_checks : Table → List (List ℕ) → List (List ℕ × Expr) → List Check
set_checks t before [] = []
set_checks t before (s ∷ ss) = set_check t before s ∷ set_checks t (before ++ s.0 ∷ []) ss

abbrev pub update_check : Table → List (List ℕ × Expr) → Option Expr → Check
update_check t ss f = first (
    first (set_checks t [] ss) ∷
    optional (names_in (scope_of t)) f ∷
    first (map (λ (s : List ℕ × Expr). calls_in allowed.Columns s.1) ss) ∷
    optional (calls_in allowed.Columns) f ∷ [])

abbrev pub delete_check : Table → Option Expr → Check
delete_check t f = first (optional (names_in (scope_of t)) f ∷ optional (calls_in allowed.Columns) f ∷ [])
