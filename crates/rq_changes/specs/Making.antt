-- What a statement on one table makes of it.
use Rattle.std.specs.Prelude.{◌≡◌, ◌≤◌, ◌+◌, ℕ, List, length, Option, Some, None, Result, Ok, Err, slice_get}
use Rattle.rq_grammar.specs.declared.stmt.ColumnDef.{ColumnDef}
use Rattle.rq_eval.specs.declared.error.EvalError.{EvalError}
use Rattle.rq_eval.specs.declared.error.EvalError.TheVariants.{Says, NoMemory}
use Rattle.rq_eval.specs.Outcome.{Outcome, then_with}
use Rattle.rq_meaning.specs.declared.done.Done.{Done}
use Rattle.rq_meaning.specs.Database.{Table, table_size, size_limit}
use Rattle.rq_meaning.specs.Changes.{Inserted, in_turn, none_inserted}
use Rattle.rq_meaning.specs.Statements.{as_inserted}
use Rattle.rq_changes.specs.declared.inserting.Results.{Results}
use Rattle.rq_changes.specs.Stepping.{one_by}

-- the table that a change leaves, and what it answers, unless memory runs out
abbrev pub Makes : {X : Type 0} → Outcome (Table × X) → Table → Result X EvalError → Type 0
Makes o new (Ok x) = o ≡ Ok (new, x)
Makes o new (Err (Says e)) = o ≡ Err e
Makes o new (Err NoMemory) = Unit {0}

-- what is left to do behind a part of a statement that answers, unless memory runs out
abbrev pub Prepares : {A X : Type 0} → (A → Outcome X) → Outcome X → Result A EvalError → Type 0
Prepares rest o (Ok a) = o ≡ rest a
Prepares rest o (Err (Says e)) = o ≡ Err e
Prepares rest o (Err NoMemory) = Unit {0}

-- the rows come in, and so much was done
abbrev pub all_inserted : Outcome Inserted → Outcome (Table × Done)
all_inserted o = then_with o (λ s. Ok (as_inserted s))

-- the rows of a select come in one after the other
abbrev pub results_inserted : ℕ → Table → Results → Outcome (Table × Done)
results_inserted others t r = all_inserted (in_turn (one_by others r.places) r.rows (none_inserted t))

-- the table is within the limit together with the others, which take so much
abbrev pub IsWithin : ℕ → Table → Type 0
IsWithin others t = others + table_size t ≤ size_limit

-- a value for each column, where no places are given
abbrev pub Fits : {A : Type 0} → List ColumnDef → Option (List ℕ) → List A → Type 0
Fits cs None xs = length xs ≡ length cs
Fits cs (Some places) xs = Unit {0}

abbrev pub AllFit : {A : Type 0} → List ColumnDef → Option (List ℕ) → List (List A) → Type 0
AllFit cs places rows = (i : ℕ) (xs : List _) → slice_get rows i ≡ Some xs → Fits cs places xs

abbrev pub ResultsFit : List ColumnDef → Results → Type 0
ResultsFit cs r = AllFit cs r.places r.rows
