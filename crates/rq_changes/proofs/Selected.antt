-- The rows of a select that is inserted.
use Rattle.std.proofs.Common.{◌≡◌, ℕ, List, Option, Some, None, Ok, Err, refl, sym, ap, ◌∙◌}
use Rattle.rq_values.specs.declared.value.Value.{Value}
use Rattle.rq_grammar.specs.declared.stmt.SelectStmt.{SelectStmt}
use Rattle.rq_eval.specs.declared.error.StmtError.{StmtError}
use Rattle.rq_eval.specs.declared.error.EvalError.{EvalError}
use Rattle.rq_eval.specs.declared.error.EvalError.TheVariants.{Says, NoMemory}
use Rattle.rq_eval.specs.Outcome.{Outcome, Answers, then_with}
use Rattle.rq_results.specs.Results.{Source, source_of, no_source, table_source}
use Rattle.rq_results.specs.Checks.{Check}
use Rattle.rq_results.specs.Viewed.{Clears}
use Rattle.rq_select.specs.Select.{unless}
use Rattle.rq_select.specs.Parts.{result_count, result_rows}
use Rattle.rq_meaning.specs.declared.done.Done.{Done}
use Rattle.rq_meaning.specs.Database.{Table}
use Rattle.rq_meaning.specs.Checks.{list_check, count_check}
use Rattle.rq_meaning.specs.Changes.{row_inserted, in_turn, none_inserted}
use Rattle.rq_meaning.specs.Statements.{from_source}
use Rattle.rq_changes.specs.declared.inserting.Results.{Results}
use Rattle.rq_changes.specs.Making.{Prepares, AllFit, all_inserted, results_inserted}
use Rattle.rq_changes.specs.Stepping.{source_check, optional_listed}
use Rattle.rq_changes.proofs.Counted.{rows_counted}
use Rattle.rq_changes.proofs.Inserted.{list_clear, list_said, count_fits, rows_in_turn}

-- ---- the source

pub source_there : (n : Option (List ℕ)) (from : Option Table) → source_check n from ≡ None → (s : Source) × (source_of n from ≡ Ok s)
source_there None from h = (no_source, refl)
source_there (Some n) None h = absurd (cc)
source_there (Some n) (Some t) h = (table_source t, refl)

not_there : (n : Option (List ℕ)) (from : Option Table) (w : StmtError) → source_check n from ≡ Some w → source_of n from ≡ Err w
not_there None from w h = absurd (cc)
not_there (Some n) None w h = cc
not_there (Some n) (Some t) w h = absurd (cc)

-- ---- what comes in behind each step

abbrev Out : Type 0
Out = Outcome (Table × Done)

abbrev behind_rows : ℕ → Option (List (List ℕ)) → Table → List (List Value) → Out
behind_rows others ns t rows = all_inserted (in_turn (row_inserted others ns) rows (none_inserted t))

abbrev behind_count : ℕ → Option (List (List ℕ)) → SelectStmt → Table → Source → ℕ → Out
behind_count others ns q t s count = unless (count_check t ns count) (then_with (result_rows q s) (behind_rows others ns t))

abbrev whole : ℕ → Option (List (List ℕ)) → SelectStmt → Table → Option Table → Out
whole others ns q t from = then_with (source_of q.table from) (from_source ns q others t)

-- of the source
over : {A : Type 0} (q : SelectStmt) (from : Option Table) (s : Source) (f : Source → Outcome A) (o : Outcome A) → source_of q.table from ≡ Ok s → then_with (source_of q.table from) f ≡ o → f s ≡ o
over q from s f o is h = sym (ap (λ p. then_with p f) is) ∙ h

to_list : (others : ℕ) (ns : Option (List (List ℕ))) (q : SelectStmt) (t : Table) (from : Option Table) (s : Source) (c : Check) → source_of q.table from ≡ Ok s → list_check t ns ≡ c → whole others ns q t from ≡ unless c (then_with (result_count q s) (behind_count others ns q t s))
to_list others ns q t from s c is l = ap (λ p. then_with p (from_source ns q others t)) is ∙ ap (λ k. unless k (then_with (result_count q s) (behind_count others ns q t s))) l

to_count : (others : ℕ) (ns : Option (List (List ℕ))) (q : SelectStmt) (t : Table) (from : Option Table) (s : Source) (o : Outcome ℕ) → source_of q.table from ≡ Ok s → list_check t ns ≡ None → then_with (source_of q.table from) (result_count q) ≡ o → whole others ns q t from ≡ then_with o (behind_count others ns q t s)
to_count others ns q t from s o is l c = to_list others ns q t from s None is l ∙ ap (λ p. then_with p (behind_count others ns q t s)) (over q from s (result_count q) o is c)

to_check : (others : ℕ) (ns : Option (List (List ℕ))) (q : SelectStmt) (t : Table) (from : Option Table) (s : Source) (n : ℕ) (c : Check) → source_of q.table from ≡ Ok s → list_check t ns ≡ None → then_with (source_of q.table from) (result_count q) ≡ Ok n → count_check t ns n ≡ c → whole others ns q t from ≡ unless c (then_with (result_rows q s) (behind_rows others ns t))
to_check others ns q t from s n c is l h k = to_count others ns q t from s (Ok n) is l h ∙ ap (λ p. unless p (then_with (result_rows q s) (behind_rows others ns t))) k

to_rows : (others : ℕ) (ns : Option (List (List ℕ))) (q : SelectStmt) (t : Table) (from : Option Table) (s : Source) (n : ℕ) (o : Outcome (List (List Value))) → source_of q.table from ≡ Ok s → list_check t ns ≡ None → then_with (source_of q.table from) (result_count q) ≡ Ok n → count_check t ns n ≡ None → then_with (source_of q.table from) (result_rows q) ≡ o → whole others ns q t from ≡ then_with o (behind_rows others ns t)
to_rows others ns q t from s n o is l h k r = to_check others ns q t from s n None is l h k ∙ ap (λ p. then_with p (behind_rows others ns t)) (over q from s (result_rows q) o is r)

-- ---- errors

pub source_fails : (others : ℕ) (ns : Option (List (List ℕ))) (q : SelectStmt) (t : Table) (from : Option Table) (e : EvalError) → Clears (source_check q.table from) (Err e) → Prepares {A = Results} (results_inserted others t) (whole others ns q t from) (Err e)
source_fails others ns q t from NoMemory h = tt
source_fails others ns q t from (Says w) h = ap (λ p. then_with p (from_source ns q others t)) (not_there q.table from w h)

pub listing_fails : (others : ℕ) (ns : Option (List (List ℕ))) (q : SelectStmt) (t : Table) (from : Option Table) (e : EvalError) → source_check q.table from ≡ None → Answers (optional_listed t ns) (Err e) → Prepares {A = Results} (results_inserted others t) (whole others ns q t from) (Err e)
listing_fails others ns q t from NoMemory h l = tt
listing_fails others ns q t from (Says w) h l = let s = source_there q.table from h in to_list others ns q t from s.0 (Some w) s.1 (list_said t ns w l)

pub counting_fails : (others : ℕ) (ns : Option (List (List ℕ))) (q : SelectStmt) (t : Table) (from : Option Table) (places : Option (List ℕ)) (e : EvalError) → source_check q.table from ≡ None → optional_listed t ns ≡ Ok places → Answers (then_with (source_of q.table from) (result_count q)) (Err e) → Prepares {A = Results} (results_inserted others t) (whole others ns q t from) (Err e)
counting_fails others ns q t from places NoMemory h l c = tt
counting_fails others ns q t from places (Says w) h l c = let s = source_there q.table from h in to_count others ns q t from s.0 (Err w) s.1 (list_clear t ns places l) c

pub count_fails : (others : ℕ) (ns : Option (List (List ℕ))) (q : SelectStmt) (t : Table) (from : Option Table) (places : Option (List ℕ)) (n : ℕ) (e : EvalError) → source_check q.table from ≡ None → optional_listed t ns ≡ Ok places → then_with (source_of q.table from) (result_count q) ≡ Ok n → Clears (count_check t ns n) (Err e) → Prepares {A = Results} (results_inserted others t) (whole others ns q t from) (Err e)
count_fails others ns q t from places n NoMemory h l c k = tt
count_fails others ns q t from places n (Says w) h l c k = let s = source_there q.table from h in to_check others ns q t from s.0 n (Some w) s.1 (list_clear t ns places l) c k

pub rows_fail : (others : ℕ) (ns : Option (List (List ℕ))) (q : SelectStmt) (t : Table) (from : Option Table) (places : Option (List ℕ)) (n : ℕ) (e : EvalError) → source_check q.table from ≡ None → optional_listed t ns ≡ Ok places → then_with (source_of q.table from) (result_count q) ≡ Ok n → count_check t ns n ≡ None → Answers (then_with (source_of q.table from) (result_rows q)) (Err e) → Prepares {A = Results} (results_inserted others t) (whole others ns q t from) (Err e)
rows_fail others ns q t from places n NoMemory h l c k r = tt
rows_fail others ns q t from places n (Says w) h l c k r = let s = source_there q.table from h in to_rows others ns q t from s.0 n (Err w) s.1 (list_clear t ns places l) c k r

-- ---- the rows

pub selected_are : (others : ℕ) (ns : Option (List (List ℕ))) (q : SelectStmt) (t : Table) (from : Option Table) (places : Option (List ℕ)) (n : ℕ) (rows : List (List Value)) → source_check q.table from ≡ None → optional_listed t ns ≡ Ok places → then_with (source_of q.table from) (result_count q) ≡ Ok n → count_check t ns n ≡ None → then_with (source_of q.table from) (result_rows q) ≡ Ok rows → whole others ns q t from ≡ results_inserted others t (record { places = places; rows = rows })
selected_are others ns q t from places n rows h l c k r =
    let s = source_there q.table from h in
    to_rows others ns q t from s.0 n (Ok rows) s.1 (list_clear t ns places l) c k r
    ∙ ap all_inserted (sym (rows_in_turn others t ns places rows l))

pub selected_fit : (ns : Option (List (List ℕ))) (q : SelectStmt) (t : Table) (from : Option Table) (places : Option (List ℕ)) (n : ℕ) (rows : List (List Value)) → source_check q.table from ≡ None → optional_listed t ns ≡ Ok places → then_with (source_of q.table from) (result_count q) ≡ Ok n → count_check t ns n ≡ None → then_with (source_of q.table from) (result_rows q) ≡ Ok rows → AllFit t.columns places rows
selected_fit ns q t from places n rows h l c k r i xs e =
    let s = source_there q.table from h in
    count_fits t ns places xs n l k (rows_counted q s.0 n rows (over q from s.0 (result_count q) (Ok n) s.1 c) (over q from s.0 (result_rows q) (Ok rows) s.1 r) i xs e)
