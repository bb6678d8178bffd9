-- Rows that come in by places, and those of the statement.
use Rattle.std.proofs.Common.{◌≡◌, ℕ, ℤ, zero, suc, ◌+◌, ◌==◌, Bool, true, false, not, List, [], ◌∷◌, length, map, Option, Some, None, Ok, Err, refl, sym, ap, subst, ◌∙◌, arith}
use Rattle.std.specs.Prelude.{slice_get, slice_set, if◌then◌else◌}
use Rattle.std.specs.Option.{option_or}
use Rattle.std.proofs.lemmas.Bool.Decides.{nat_tests}
use Rattle.std.proofs.lemmas.List.{length-set, length-map}
use Rattle.rq_values.specs.declared.value.Value.{Value}
use Rattle.rq_values.specs.declared.value.Value.TheVariants as v
use Rattle.rq_grammar.specs.declared.expr.Expr.{Expr}
use Rattle.rq_grammar.specs.declared.stmt.ColumnDef.{ColumnDef}
use Rattle.rq_eval.specs.declared.error.StmtError.{StmtError}
use Rattle.rq_eval.specs.declared.error.StmtError.TheVariants as error
use Rattle.rq_eval.specs.declared.row.Scope.TheVariants as scope
use Rattle.rq_eval.specs.Value.{value, no_row}
use Rattle.rq_eval.specs.Outcome.{Outcome, then_with}
use Rattle.rq_results.specs.Checks.{Check, first, names_in}
use Rattle.rq_select.specs.Select.{unless}
use Rattle.rq_meaning.specs.Database.{Table, with_row}
use Rattle.rq_meaning.specs.Rows.{if_so, has_rowid, hidden, all_columns, judged, entered}
use Rattle.rq_meaning.specs.Checks.{places_of, name_checks, list_check, count_check, in_rows}
use Rattle.rq_meaning.specs.Statements.{values_inserted}
use Rattle.rq_meaning.specs.Changes.{Inserted, one_inserted, none_inserted, in_turn, values_of, laid_out, all_set, row_inserted, expressions_inserted}
use Rattle.rq_changes.specs.Making.{Fits, AllFit, all_inserted}
use Rattle.rq_changes.specs.Stepping.{optional_listed, rows_check, laid_out_by, row_by, one_by, expressions_by}
use Rattle.rq_changes.proofs.Steps.{check_both, none_left, then_same, then_then}
use Rattle.rq_changes.proofs.Numbered.{length_all}

-- ---- two ways to take steps, which agree where something stays

pub in_turn_same : {A X : Type 0} (P : A → Type 0) (f g : A → X → Outcome A) → ((a : A) (x : X) → P a → f a x ≡ g a x) → ((a b : A) (x : X) → P a → g a x ≡ Ok b → P b)
    → (xs : List X) (a : A) → P a → in_turn f xs a ≡ in_turn g xs a
in_turn_same P f g same keeps [] a p = refl
in_turn_same P f g same keeps (x ∷ xs) a p =
    ap (λ o. then_with o (in_turn f xs)) (same a x p)
    ∙ then_same (in_turn f xs) (in_turn g xs) (g a x) (λ b e. in_turn_same P f g same keeps xs b (keeps a b x p e))

-- ---- a table that differs in its rows alone

abbrev pub Same : Table → Table → Type 0
Same t u = u ≡ record t { rows = u.rows }

entered_same : (t u : Table) (o : Outcome (ℤ × List Value)) (s b : Inserted) → Same t u → then_with (then_with o (λ p. Ok (p.0, with_row p.0 p.1 u))) (λ p. Ok (one_inserted s p)) ≡ Ok b → Same t b.table
entered_same t u (Err e) s b same h = absurd (cc)
entered_same t u (Ok p) s b same h =
    let is : one_inserted s (p.0, with_row p.0 p.1 u) ≡ b = cc in
    subst (λ (q : Inserted). Same t q.table) is (ap (with_row p.0 p.1) same)

row_same : (others : ℕ) (t : Table) (ns : Option (List (List ℕ))) (s b : Inserted) (xs : List Value) → Same t s.table → row_inserted others ns s xs ≡ Ok b → Same t b.table
row_same others t ns s b xs same h = entered_same t s.table (judged others s.table None (laid_out s.table ns xs)) s b same h

after_values : (t : Table) (o : Outcome (List Value)) (f : List Value → Outcome Inserted) (b : Inserted) → ((xs : List Value) → f xs ≡ Ok b → Same t b.table) → then_with o f ≡ Ok b → Same t b.table
after_values t (Err e) f b same h = absurd (cc)
after_values t (Ok xs) f b same h = same xs h

-- ---- places and names

one_list : (c : Check) (ps : List ℕ) (places : Option (List ℕ)) → then_with (unless c (Ok ps)) (λ p. Ok (Some p)) ≡ Ok places → places ≡ Some ps
one_list None ps places h = cc
one_list (Some e) ps places h = absurd (cc)

laid_same : (t u : Table) (ns : Option (List (List ℕ))) (places : Option (List ℕ)) (xs : List Value) → Same t u → optional_listed t ns ≡ Ok places → laid_out_by u places xs ≡ laid_out u ns xs
laid_same t u None places xs same h =
    let none : None ≡ places = cc in
    ap (λ q. laid_out_by u q xs) (sym none)
laid_same t u (Some ns) places xs same h =
    ap (λ q. laid_out_by u q xs) (one_list (first (name_checks t [] ns)) (places_of t ns) places h)
    ∙ ap (λ ps. all_set ps xs (map (λ c. v.Null) (all_columns u.columns))) (sym (ap (λ w. places_of w ns) same))

row_by_is : (others : ℕ) (t : Table) (ns : Option (List (List ℕ))) (places : Option (List ℕ)) (s : Inserted) (xs : List Value) → optional_listed t ns ≡ Ok places → Same t s.table → one_by others places s xs ≡ row_inserted others ns s xs
row_by_is others t ns places s xs h same = ap (λ row. then_with (entered others s.table None row) (λ p. Ok (one_inserted s p))) (laid_same t s.table ns places xs same h)

-- the rows of a select
pub rows_in_turn : (others : ℕ) (t : Table) (ns : Option (List (List ℕ))) (places : Option (List ℕ)) (rows : List (List Value)) → optional_listed t ns ≡ Ok places → in_turn (one_by others places) rows (none_inserted t) ≡ in_turn (row_inserted others ns) rows (none_inserted t)
rows_in_turn others t ns places rows h =
    in_turn_same (λ s. Same t s.table) (one_by others places) (row_inserted others ns)
    (λ s xs same. row_by_is others t ns places s xs h same)
    (λ s b xs same e. row_same others t ns s b xs same e)
    rows (none_inserted t) refl

-- the rows of VALUES
pub expressions_in_turn : (others : ℕ) (t : Table) (ns : Option (List (List ℕ))) (places : Option (List ℕ)) (rows : List (List Expr)) → optional_listed t ns ≡ Ok places → in_turn (expressions_by others places) rows (none_inserted t) ≡ in_turn (expressions_inserted others ns) rows (none_inserted t)
expressions_in_turn others t ns places rows h =
    in_turn_same (λ s. Same t s.table) (expressions_by others places) (expressions_inserted others ns)
    (λ s xs same. then_then (values_of xs) (row_by others s.table places) (λ p. Ok (one_inserted s p)) ∙ then_same (one_by others places s) (row_inserted others ns s) (values_of xs) (λ ys e. row_by_is others t ns places s ys h same))
    (λ s b xs same e. after_values t (values_of xs) (row_inserted others ns s) b (λ ys g. row_same others t ns s b ys same g) e)
    rows (none_inserted t) refl

-- ---- how many values the rows have

counted : (a b : ℕ) (e : StmtError) → if_so (not (a == b)) e ≡ None → a ≡ b
counted a b e h = by (a == b) refl h
  where
    by : (q : Bool) → (a == b) ≡ q → if_so (not q) e ≡ None → a ≡ b
    by true is g = grind (arith, nat_tests)
    by false is g = absurd (cc)

pub count_fits : {A : Type 0} (t : Table) (ns : Option (List (List ℕ))) (places : Option (List ℕ)) (xs : List A) (n : ℕ) → optional_listed t ns ≡ Ok places → count_check t ns n ≡ None → length xs ≡ n → Fits t.columns places xs
count_fits t None places xs n h c is =
    let none : None ≡ places = cc in
    subst (λ q. Fits t.columns q xs) none (is ∙ counted n (length t.columns) (error.WrongValueCount t.name (length t.columns) n) c)
count_fits t (Some ns) places xs n h c is = subst (λ q. Fits t.columns q xs) (sym (one_list (first (name_checks t [] ns)) (places_of t ns) places h)) tt

none_at : {X : Type 0} (f : X → Check) (xs : List X) (i : ℕ) (x : X) → first (map f xs) ≡ None → slice_get xs i ≡ Some x → f x ≡ None
none_at f [] i x h e = absurd (cc)
none_at f (y ∷ ys) zero x h e = let same : y ≡ x = cc in ap f (sym same) ∙ left (f y) h
  where
    left : (c : Check) → option_or c (first (map f ys)) ≡ None → c ≡ None
    left None g = refl
    left (Some w) g = absurd (cc)
none_at f (y ∷ ys) (suc i) x h e = none_at f ys i x (right (f y) h) e
  where
    right : (c : Check) → option_or c (first (map f ys)) ≡ None → first (map f ys) ≡ None
    right None g = g
    right (Some w) g = absurd (cc)

pub counts_fit : {A : Type 0} (t : Table) (ns : Option (List (List ℕ))) (places : Option (List ℕ)) (rows : List (List A)) → optional_listed t ns ≡ Ok places → first (map (λ xs. count_check t ns (length xs)) rows) ≡ None → AllFit t.columns places rows
counts_fit t ns places rows h c i xs e = count_fits t ns places xs (length xs) h (none_at (λ ys. count_check t ns (length ys)) rows i xs c e) refl

-- ---- a value for each column

pub length_all_set : (is : List ℕ) (xs row : List Value) → length (all_set is xs row) ≡ length row
length_all_set [] xs row = refl
length_all_set (i ∷ is) [] row = refl
length_all_set (i ∷ is) (x ∷ xs) row = length_all_set is xs (slice_set row i x) ∙ length-set row i x

pub length_laid : (t : Table) (places : Option (List ℕ)) (xs : List Value) → Fits t.columns places xs → length (laid_out_by t places xs) ≡ length (all_columns t.columns)
length_laid t None xs h = by (has_rowid t.columns)
  where
    by : (b : Bool) → length (if b then xs else v.Null ∷ xs) ≡ length (if b then t.columns else hidden ∷ t.columns)
    by true = h
    by false = ap suc h
length_laid t (Some places) xs h = length_all_set places xs (map (λ c. v.Null) (all_columns t.columns)) ∙ length-map (all_columns t.columns) (λ (c : ColumnDef). v.Null)

pub fits_same : {A B : Type 0} (cs : List ColumnDef) (places : Option (List ℕ)) (xs : List A) (ys : List B) → length ys ≡ length xs → Fits cs places xs → Fits cs places ys
fits_same cs None xs ys e h = e ∙ h
fits_same cs (Some places) xs ys e h = tt

pub length_values : (xs : List Expr) (ys : List Value) → values_of xs ≡ Ok ys → length ys ≡ length xs
length_values xs ys h = length_all (map (λ x. value scope.Empty x no_row) xs) ys h ∙ length-map xs (λ (x : Expr). value scope.Empty x no_row)

clear_of : (c : Check) (ps : List ℕ) (places : Option (List ℕ)) → then_with (unless c (Ok ps)) (λ p. Ok (Some p)) ≡ Ok places → c ≡ None
clear_of None ps places h = refl
clear_of (Some e) ps places h = absurd (cc)

said_of : (c : Check) (ps : List ℕ) (w : StmtError) → then_with (unless c (Ok ps)) (λ p. Ok (Some p)) ≡ Err w → c ≡ Some w
said_of None ps w h = absurd (cc)
said_of (Some e) ps w h = cc

pub list_clear : (t : Table) (ns : Option (List (List ℕ))) (places : Option (List ℕ)) → optional_listed t ns ≡ Ok places → list_check t ns ≡ None
list_clear t None places h = refl
list_clear t (Some ns) places h = clear_of (first (name_checks t [] ns)) (places_of t ns) places h

pub list_said : (t : Table) (ns : Option (List (List ℕ))) (w : StmtError) → optional_listed t ns ≡ Err w → list_check t ns ≡ Some w
list_said t None w h = absurd (cc)
list_said t (Some ns) w h = said_of (first (name_checks t [] ns)) (places_of t ns) w h

-- ---- one row after the other

one_in : (o : Outcome (ℤ × Table)) (s : Inserted) (k : ℤ) (new : Table) → o ≡ Ok (k, new) → then_with o (λ p. Ok (one_inserted s p)) ≡ Ok (one_inserted s (k, new))
one_in o s k new h = ap (λ q. then_with q (λ p. Ok (one_inserted s p))) h

pub row_more : (others : ℕ) (places : Option (List ℕ)) (xs : List Value) (rows : List (List Value)) (s : Inserted) (new : Table) (k : ℤ) → row_by others s.table places xs ≡ Ok (k, new) → in_turn (one_by others places) rows (one_inserted s (k, new)) ≡ in_turn (one_by others places) (xs ∷ rows) s
row_more others places xs rows s new k g = sym (ap (λ o. then_with o (in_turn (one_by others places) rows)) (one_in (row_by others s.table places xs) s k new g))

-- what is left of some rows, on what stands, is the whole
abbrev pub Left : ℕ → Option (List ℕ) → List (List Value) → Table → ℕ → List (List Value) → Table → ℤ → Type 0
Left others places rows start count rest t last = (n : ℕ) × (n + length rest ≡ count) × (in_turn (one_by others places) rest (record { table = t; count = n; last = last }) ≡ in_turn (one_by others places) rows (none_inserted start))

pub left_more : (others : ℕ) (places : Option (List ℕ)) (rows : List (List Value)) (start : Table) (count : ℕ) (all rest : List (List Value)) (xs : List Value) (t new : Table) (last k : ℤ) → all ≡ xs ∷ rest → row_by others t places xs ≡ Ok (k, new) → Left others places rows start count all t last → Left others places rows start count rest new k
left_more others places rows start count all rest xs t new last k is g l =
    let more : length all ≡ suc (length rest) = ap length is in
    (l.0 + 1, omega (arith, more, l.1), row_more others places xs rest (record { table = t; count = l.0; last = last }) new k g ∙ ap (λ ys. in_turn (one_by others places) ys (record { table = t; count = l.0; last = last })) (sym is) ∙ l.2)

-- ---- the whole

pub values_are : (others : ℕ) (t : Table) (ns : Option (List (List ℕ))) (places : Option (List ℕ)) (rows : List (List Expr)) → optional_listed t ns ≡ Ok places → rows_check t ns rows ≡ None → values_inserted ns rows others t ≡ all_inserted (in_turn (expressions_by others places) rows (none_inserted t))
values_are others t ns places rows h c =
    ap (λ q. unless q (all_inserted (in_turn (expressions_inserted others ns) rows (none_inserted t)))) (check_both (list_check t ns) (rows_check t ns rows) (list_clear t ns places h) c)
    ∙ ap all_inserted (sym (expressions_in_turn others t ns places rows h))

pub counts_clear : (t : Table) (ns : Option (List (List ℕ))) (rows : List (List Expr)) → rows_check t ns rows ≡ None → first (map (λ xs. count_check t ns (length xs)) rows) ≡ None
counts_clear t ns rows h = (none_left _ _ (none_left (in_rows (names_in scope.Empty) rows) _ h).1).0
