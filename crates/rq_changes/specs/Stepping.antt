-- What functions over a table that changes give.
use Rattle.std.specs.Prelude.{◌≡◌, ℕ, ℤ, pos, false, if◌then◌else◌, List, [], ◌∷◌, ◌++◌, map, length, Option, Some, None, Result, Ok, Err, unwrap_or, slice_get, slice_set}
use Rattle.std.specs.FinMap as fin
use Rattle.std.specs.Option.{option_to_list}
use Rattle.rq_values.specs.declared.value.Value.{Value}
use Rattle.rq_values.specs.declared.value.Value.TheVariants.{Null, Int}
use Rattle.rq_grammar.specs.declared.stmt.ColumnDef.{ColumnDef}
use Rattle.rq_grammar.specs.declared.expr.Expr.{Expr}
use Rattle.rq_eval.specs.declared.error.StmtError.TheVariants as error
use Rattle.rq_eval.specs.declared.error.EvalError.{EvalError}
use Rattle.rq_eval.specs.declared.error.EvalError.TheVariants.{Says, NoMemory}
use Rattle.rq_eval.specs.Outcome.{Outcome, then_with}
use Rattle.rq_eval.specs.Resolved.{resolved, all_evaluated}
use Rattle.rq_eval.specs.declared.resolved.ResolvedExpr.{ResolvedExpr}
use Rattle.rq_eval.specs.declared.row.Scope.TheVariants as scope
use Rattle.rq_results.specs.declared.checking.Allowed.TheVariants as allowed
use Rattle.rq_results.specs.Checks.{Check, first, names_in, calls_in, optional}
use Rattle.rq_results.specs.Table.{as_row, scope_of}
use Rattle.rq_rows.specs.Rows.{is_rowid}
use Rattle.rq_select.specs.Select.{unless}
use Rattle.rq_select.specs.Parts.{rowids_where}
use Rattle.rq_meaning.specs.Database.{Table, with_row, without_row, table_size}
use Rattle.rq_meaning.specs.Rows.{stored_in, all_columns, all_values, own_values, rowid_for, rowid_value, with_rowid, nulls, hidden_repeat, repeats, entered}
use Rattle.rq_meaning.specs.Checks.{named_check, place_of, places_of, name_checks, set_checks, count_check, in_rows}
use Rattle.rq_meaning.specs.Changes.{Inserted, one_inserted, in_turn, values_of, laid_out, all_set}
use Rattle.rq_meaning.specs.Statements.{done}
use Rattle.rq_meaning.specs.declared.done.Done.{Done}

-- a value at a place that is stored there
abbrev pub stored_at : List ℕ → ColumnDef → ℕ → List Value → Outcome (List Value)
stored_at t c i row = then_with (stored_in t c (unwrap_or (slice_get row i) Null)) (λ y. Ok (slice_set row i y))

-- the rowid at a place, if its column is the rowid
abbrev pub laid_at : ColumnDef → ℕ → ℤ → List Value → List Value
laid_at c i k row = if is_rowid c then slice_set row i (Int k) else row

-- a row with its rowid and its own values, but for the limit
abbrev pub placed_row : Table → ℤ → List Value → Outcome (ℤ × List Value)
placed_row t k vs = unless (first (hidden_repeat t k ∷ repeats t k vs 0 t.columns)) (Ok (k, vs))

abbrev pub numbered_row : Table → Option ℤ → List Value → Outcome (ℤ × List Value)
numbered_row t had xs =
    then_with (rowid_for t had (rowid_value (all_columns t.columns) xs)) (λ k.
    unless (first (nulls t.name had (all_columns t.columns) xs)) (
    placed_row t k (with_rowid k t.columns (own_values t.columns xs))))

-- a judged row, and what the table takes with it
abbrev pub Judges : Outcome (ℤ × List Value) → Table → List Value → Result (ℤ × ℕ) EvalError → Type 0
Judges o t vs (Ok p) = (o ≡ Ok (p.0, vs)) × (p.1 ≡ table_size (with_row p.0 vs t))
Judges o t vs (Err (Says e)) = o ≡ Err e
Judges o t vs (Err NoMemory) = Unit {0}

-- the places of names, with one more
abbrev pub place_pushed : Table → List ℕ → List ℕ → Outcome (List ℕ)
place_pushed t places n = unless (named_check t places n (place_of t n)) (Ok (places ++ option_to_list (place_of t n)))

-- the places of the names of a list
abbrev pub listed : Table → List (List ℕ) → Outcome (List ℕ)
listed t ns = unless (first (name_checks t [] ns)) (Ok (places_of t ns))

-- the names of SET
abbrev pub set_names : List (List ℕ × Expr) → List (List ℕ)
set_names ss = map (λ (s : List ℕ × Expr). s.0) ss

abbrev pub sets_listed : Table → List (List ℕ × Expr) → Outcome (List ℕ)
sets_listed t ss = unless (first (set_checks t [] ss)) (Ok (places_of t (set_names ss)))

-- a value for each of all columns, given by places; NULL elsewhere
abbrev pub laid_by : Table → List ℕ → List Value → List Value
laid_by t places xs = all_set places xs (map (λ c. Null) (all_columns t.columns))

abbrev pub laid_out_by : Table → Option (List ℕ) → List Value → List Value
laid_out_by t None xs = laid_out t None xs
laid_out_by t (Some places) xs = laid_by t places xs

-- the places of an optional list of names
abbrev pub optional_listed : Table → Option (List (List ℕ)) → Outcome (Option (List ℕ))
optional_listed t None = Ok None
optional_listed t (Some ns) = then_with (listed t ns) (λ places. Ok (Some places))

-- what is wrong with the rows of VALUES before any is evaluated
abbrev pub rows_check : Table → Option (List (List ℕ)) → List (List Expr) → Check
rows_check t ns rows = first (
    in_rows (names_in scope.Empty) rows ∷
    first (map (λ xs. count_check t ns (length xs)) rows) ∷
    in_rows (calls_in allowed.Columns) rows ∷ [])

-- the table that a FROM names is there
abbrev pub source_check : Option (List ℕ) → Option Table → Check
source_check None t = None
source_check (Some n) None = Some (error.NoTable n)
source_check (Some n) (Some t) = None

-- a row comes in, by places
abbrev pub row_by : ℕ → Table → Option (List ℕ) → List Value → Outcome (ℤ × Table)
row_by others t places xs = entered others t None (laid_out_by t places xs)

abbrev pub one_by : ℕ → Option (List ℕ) → Inserted → List Value → Outcome Inserted
one_by others places s xs = then_with (row_by others s.table places xs) (λ p. Ok (one_inserted s p))

-- a row of expressions comes in, by places
abbrev pub evaluated_by : ℕ → Table → Option (List ℕ) → List Expr → Outcome (ℤ × Table)
evaluated_by others t places xs = then_with (values_of xs) (row_by others t places)

abbrev pub expressions_by : ℕ → Option (List ℕ) → Inserted → List Expr → Outcome Inserted
expressions_by others places s xs = then_with (evaluated_by others s.table places xs) (λ p. Ok (one_inserted s p))

-- what is wrong with an UPDATE behind the names of SET
abbrev pub rest_check : Table → List (List ℕ × Expr) → Option Expr → Check
rest_check t ss f = first (
    optional (names_in (scope_of t)) f ∷
    first (map (λ (s : List ℕ × Expr). calls_in allowed.Columns s.1) ss) ∷
    optional (calls_in allowed.Columns) f ∷ [])

-- the expressions of SET, with their names found
abbrev pub sets_resolved : Table → List (List ℕ × Expr) → List ResolvedExpr
sets_resolved t ss = map (λ (s : List ℕ × Expr). resolved (scope_of t) s.1 false) ss

-- a row of that rowid takes its new values, by places
abbrev pub assigned_by : Table → List ℕ → List ResolvedExpr → ℤ → List Value → Outcome (List Value)
assigned_by t places xs k vs = then_with (all_evaluated [] xs (as_row (k, vs))) (λ ys. Ok (all_set places ys (all_values t.columns k vs)))

abbrev pub assigned_row : Table → List ℕ → List ResolvedExpr → ℤ → Option (List Value) → Outcome (Option (List Value))
assigned_row t places xs k None = Ok None
assigned_row t places xs k (Some vs) = then_with (assigned_by t places xs k vs) (λ ys. Ok (Some ys))

-- a row is taken out and comes in again
abbrev pub moved : ℕ → Table → ℤ → List Value → Outcome Table
moved others t k xs = then_with (entered others (without_row k t) (Some k) xs) (λ p. Ok p.1)

abbrev pub moved_row : ℕ → Table → ℤ → Option (List Value) → Outcome Table
moved_row others t k None = Ok t
moved_row others t k (Some xs) = moved others t k xs

abbrev pub updated_by : ℕ → List ℕ → List ResolvedExpr → Table → ℤ → Outcome Table
updated_by others places xs t k = then_with (assigned_row t places xs k (fin.get t.rows k)) (moved_row others t k)

abbrev pub where_updated : ℕ → List ℕ → List ResolvedExpr → Option Expr → Table → Outcome (Table × Done)
where_updated others places xs f t = then_with (rowids_where t f) (λ ks. then_with (in_turn (updated_by others places xs) ks t) (λ u. Ok (u, done (pos 0) (length ks))))
