-- Changes: what INSERT, UPDATE and DELETE make of a table, where the statement has passed its checks.
-- Source: SQLite, "INSERT", "UPDATE", "DELETE".
use Rattle.std.specs.Prelude.{ℕ, ◌+◌, ℤ, pos, if◌then◌else◌, List, [], ◌∷◌, map, slice_set, Option, Some, None, Ok}
use Rattle.std.specs.FinMap as fin
use Rattle.rq_values.specs.declared.value.Value.{Value}
use Rattle.rq_values.specs.declared.value.Value.TheVariants as v
use Rattle.rq_grammar.specs.declared.expr.Expr.{Expr}
use Rattle.rq_eval.specs.declared.row.Scope.TheVariants as scope
use Rattle.rq_eval.specs.Outcome.{Outcome, then_with, all_of}
use Rattle.rq_eval.specs.Value.{value, no_row}
use Rattle.rq_results.specs.Table.{as_row, scope_of}
use Rattle.rq_meaning.specs.Database.{Table, without_row}
use Rattle.rq_meaning.specs.Rows.{has_rowid, all_columns, all_values, entered}
use Rattle.rq_meaning.specs.Checks.{places_of}

-- one after the other, each on what the last one left
abbrev pub in_turn : {A X : Type 0} → (A → X → Outcome A) → List X → A → Outcome A
in_turn step [] a = Ok a
in_turn step (x ∷ xs) a = then_with (step a x) (in_turn step xs)

-- the values take their places
abbrev pub all_set : List ℕ → List Value → List Value → List Value
all_set [] xs row = row
all_set (i ∷ is) [] row = row
all_set (i ∷ is) (x ∷ xs) row = all_set is xs (slice_set row i x)

-- ---- INSERT

-- a value for each of all columns; NULL where none is given
abbrev pub laid_out : Table → Option (List (List ℕ)) → List Value → List Value
laid_out t None xs = if has_rowid t.columns then xs else v.Null ∷ xs
laid_out t (Some ns) xs = all_set (places_of t ns) xs (map (λ c. v.Null) (all_columns t.columns))

-- the table so far, how many rows came in, and the rowid of the last one
pub record Inserted : Type 0 where
  pub table : Table
  pub count : ℕ
  pub last : ℤ

abbrev pub one_inserted : Inserted → ℤ × Table → Inserted
one_inserted s p = record { table = p.1; count = s.count + 1; last = p.0 }

abbrev pub row_inserted : ℕ → Option (List (List ℕ)) → Inserted → List Value → Outcome Inserted
row_inserted others ns s xs = then_with (entered others s.table None (laid_out s.table ns xs)) (λ p. Ok (one_inserted s p))

abbrev pub values_of : List Expr → Outcome (List Value)
values_of xs = all_of (map (λ x. value scope.Empty x no_row) xs)

-- the row's expressions are evaluated at its turn
abbrev pub expressions_inserted : ℕ → Option (List (List ℕ)) → Inserted → List Expr → Outcome Inserted
expressions_inserted others ns s xs = then_with (values_of xs) (row_inserted others ns s)

abbrev pub none_inserted : Table → Inserted
none_inserted t = record { table = t; count = 0; last = pos 0 }

-- ---- DELETE

-- without the rows of these rowids
abbrev pub without_rows : List ℤ → Table → Table
without_rows [] t = t
without_rows (k ∷ ks) t = without_rows ks (without_row k t)

-- ---- UPDATE

-- the values of the assignments over a row, which take their places in it
abbrev pub assigned : Table → List (List ℕ × Expr) → ℤ → List Value → Outcome (List Value)
assigned t ss k vs =
    then_with (all_of (map (λ (s : List ℕ × Expr). value (scope_of t) s.1 (as_row (k, vs))) ss)) (λ xs.
    Ok (all_set (places_of t (map (λ (s : List ℕ × Expr). s.0) ss)) xs (all_values t.columns k vs)))

-- a row that is there is taken out, and comes in again with its new values
abbrev pub changed : ℕ → List (List ℕ × Expr) → Table → ℤ → Option (List Value) → Outcome Table
changed others ss t k None = Ok t
changed others ss t k (Some vs) = then_with (assigned t ss k vs) (λ xs. then_with (entered others (without_row k t) (Some k) xs) (λ p. Ok p.1))

abbrev pub row_updated : ℕ → List (List ℕ × Expr) → Table → ℤ → Outcome Table
row_updated others ss t k = changed others ss t k (fin.get t.rows k)

-- the rows for which the condition is true at the start, in rising rowid
abbrev pub rows_updated : ℕ → List (List ℕ × Expr) → List ℤ → Table → Outcome Table
rows_updated others ss ks t = in_turn (row_updated others ss) ks t
