-- What statements make of a valid table is valid.
use Rattle.std.proofs.Common.{◌≡◌, ℕ, suc, ◌+◌, ◌≤◌, ℤ, Bool, true, false, cond, List, [], ◌∷◌, map, length, Option, Some, None, Ok, refl, sym, ap, subst, ◌∙◌, arith}
use Rattle.std.specs.Prelude.{slice_set, not, if◌then◌else◌}
use Rattle.std.specs.declared.cmp.Ordering.TheVariants.{Less, Equal, Greater}
use Rattle.std.specs.Ordering.{int_cmp, is_eq, eq_by_cmp}
use Rattle.std.specs.Cmp.{int_cmp_total, eq_by_cmp_equiv}
use Rattle.std.specs.List.{sum_by}
use Rattle.std.specs.FinMap as fin
use Rattle.std.specs.FinMap.{get-insert, get-remove, entries-insert, same_map, int_cmp-IsAntisymmetric}
use Rattle.std.specs.FinMap.Entries.{find, put, by_order}
use Rattle.std.proofs.lemmas.List.Sums.{sum_by-cons}
use Rattle.std.proofs.lemmas.List.{length-set, length-map}
use Rattle.std.proofs.lemmas.Bool.{eqb-true}
use Rattle.rq_values.specs.declared.value.Value.{Value}
use Rattle.rq_values.specs.declared.value.Value.TheVariants as v
use Rattle.rq_grammar.specs.declared.expr.Expr.{Expr}
use Rattle.rq_grammar.specs.declared.stmt.ColumnDef.{ColumnDef}
use Rattle.rq_eval.specs.declared.error.StmtError.{StmtError}
use Rattle.rq_eval.specs.declared.row.Scope.TheVariants as scope
use Rattle.rq_eval.specs.Outcome.{Outcome, then_with, all_of}
use Rattle.rq_eval.specs.Value.{value, no_row}
use Rattle.rq_results.specs.Table.{as_row, scope_of}
use Rattle.rq_meaning.specs.Database.{Table, without_row, row_size, table_size, size_limit}
use Rattle.rq_meaning.specs.Rows.{if_so, hidden, has_rowid, all_columns, all_values, entered}
use Rattle.rq_meaning.specs.Checks.{count_check, places_of}
use Rattle.rq_meaning.specs.Changes.{Inserted, in_turn, all_set, laid_out, one_inserted, row_inserted, values_of, expressions_inserted, none_inserted, without_rows, assigned, changed, row_updated, rows_updated}
use Rattle.rq_meaning.specs.Valid.{ValidTable, Entered}
use Rattle.rq_meaning.proofs.Entering.{ok_then, all_ok, AllOk, same_key, entered_is}

-- ---- one after the other

abbrev pub Each : {X : Type 0} → (X → Type 0) → List X → Type 0
Each Q [] = Unit {0}
Each Q (x ∷ xs) = Q x × Each Q xs

same_ok : {A : Type 0} (a b : A) → ◌≡◌ {A = Outcome A} (Ok a) (Ok b) → a ≡ b
same_ok a b e = cc

turn_keeps : {A X : Type 0} (step : A → X → Outcome A) (P : A → Type 0) (Q : X → Type 0) → ((a : A) (x : X) (b : A) → P a → Q x → step a x ≡ Ok b → P b)
    → (xs : List X) → Each Q xs → (a b : A) → P a → in_turn step xs a ≡ Ok b → P b
turn_keeps step P Q one [] q a b p e = subst P (same_ok a b e) p
turn_keeps step P Q one (x ∷ xs) q a b p e =
    let s = ok_then (step a x) (in_turn step xs) b e in
    turn_keeps step P Q one xs q.1 s.0 b (one a x s.0 p q.0 s.1) s.2

-- ---- tables that are kept valid

pub none_entered : (others : ℕ) (t : Table) → ValidTable t → others + table_size t ≤ size_limit → Entered others t t
none_entered others t valid within = record { valid = valid; name = refl; columns = refl; within = within }

after : (others : ℕ) (t u w : Table) → Entered others t u → Entered others u w → Entered others t w
after others t u w a b = record { valid = b.valid; name = b.name ∙ a.name; columns = b.columns ∙ a.columns; within = b.within }

-- ---- a row goes

get_left : (t : Table) (k l : ℤ) (vs : List Value) → fin.get (without_row k t).rows l ≡ Some vs → fin.get t.rows l ≡ Some vs
get_left t k l vs g = by (eq_by_cmp int_cmp l k) (sym (get-remove int_cmp_total t.rows k l) ∙ g)
  where
    by : (b : Bool) → cond b None (fin.get t.rows l) ≡ Some vs → fin.get t.rows l ≡ Some vs
    by true f = absurd (cc)
    by false f = f

valid_without : (t : Table) (k : ℤ) → ValidTable t → ValidTable (without_row k t)
valid_without t k valid = record {
  declared = valid.declared;
  some = valid.some;
  rows = λ l vs g. valid.rows l vs (get_left t k l vs g);
  unique = λ i c a u j l us ws x g h. valid.unique i c a u j l us ws x (get_left t k j us g) (get_left t k l ws h);
}

-- ---- UPDATE

length-all_set : (is : List ℕ) (xs row : List Value) → length (all_set is xs row) ≡ length row
length-all_set [] xs row = refl
length-all_set (i ∷ is) [] row = refl
length-all_set (i ∷ is) (x ∷ xs) row = length-all_set is xs (slice_set row i x) ∙ length-set row i x

length-all_values : (cs : List ColumnDef) (k : ℤ) (vs : List Value) → length vs ≡ length cs → length (all_values cs k vs) ≡ length (all_columns cs)
length-all_values cs k vs e = by (has_rowid cs)
  where
    by : (b : Bool) → length (if b then vs else v.Int k ∷ vs) ≡ length (if b then cs else hidden ∷ cs)
    by true = e
    by false = ap suc e

length-assigned : (t : Table) (ss : List (List ℕ × Expr)) (k : ℤ) (vs ws : List Value) → length vs ≡ length t.columns → assigned t ss k vs ≡ Ok ws → length ws ≡ length (all_columns t.columns)
length-assigned t ss k vs ws count e =
    let names = map (λ (s : List ℕ × Expr). s.0) ss in
    let a = ok_then (all_of (map (λ (s : List ℕ × Expr). value (scope_of t) s.1 (as_row (k, vs))) ss)) (λ xs. Ok (all_set (places_of t names) xs (all_values t.columns k vs))) ws e in
    ap length (sym (same_ok (all_set (places_of t names) a.0 (all_values t.columns k vs)) ws a.2)) ∙ length-all_set (places_of t names) a.0 (all_values t.columns k vs) ∙ length-all_values t.columns k vs count

changed_keeps : (others : ℕ) (ss : List (List ℕ × Expr)) (t new : Table) (k : ℤ) (o : Option (List Value)) → fin.get t.rows k ≡ o → ValidTable t → others + table_size t ≤ size_limit → changed others ss t k o ≡ Ok new → Entered others t new
changed_keeps others ss t new k None g valid within e = subst (Entered others t) (same_ok t new e) (none_entered others t valid within)
changed_keeps others ss t new k (Some vs) g valid within e =
    let row = valid.rows k vs g in
    let a = ok_then (assigned t ss k vs) (λ xs. then_with (entered others (without_row k t) (Some k) xs) (λ p. Ok p.1)) new e in
    let b = ok_then (entered others (without_row k t) (Some k) a.0) (λ p. Ok p.1) new a.2 in
    let r = entered_is others (without_row k t) (Some k) a.0 b.0 (valid_without t k valid) row.last (length-assigned t ss k vs a.0 row.count a.1) b.1 in
    let same = same_ok b.0.1 new b.2 in
    subst (Entered others t) same (record { valid = r.valid; name = r.name; columns = r.columns; within = r.within })

pub updated_keeps : (others : ℕ) (ss : List (List ℕ × Expr)) (ks : List ℤ) (t new : Table) → ValidTable t → others + table_size t ≤ size_limit → rows_updated others ss ks t ≡ Ok new → Entered others t new
updated_keeps others ss ks t new valid within e =
    turn_keeps (row_updated others ss) (Entered others t) (λ _. Unit {0}) (λ u k w a q s. after others t u w a (changed_keeps others ss u w k (fin.get u.rows k) refl a.valid a.within s)) ks (all ks) t new (none_entered others t valid within) e
  where
    all : (xs : List ℤ) → Each (λ _. Unit {0}) xs
    all [] = tt
    all (x ∷ xs) = (tt, all xs)

-- ---- INSERT

-- so many values are given
abbrev pub Counts : Table → Option (List (List ℕ)) → ℕ → Type 0
Counts t ns m = count_check t ns m ≡ None

counted : (b : Bool) (w : StmtError) → if_so (not b) w ≡ None → b ≡ true
counted true w e = refl
counted false w e = absurd (cc)

length-laid_out : (t : Table) (ns : Option (List (List ℕ))) (xs : List Value) → Counts t ns (length xs) → length (laid_out t ns xs) ≡ length (all_columns t.columns)
length-laid_out t None xs e = by (has_rowid t.columns) (eqb-true (length xs) (length t.columns) (counted _ _ e))
  where
    by : (b : Bool) → length xs ≡ length t.columns → length (if b then xs else v.Null ∷ xs) ≡ length (if b then t.columns else hidden ∷ t.columns)
    by true f = f
    by false f = ap suc f
length-laid_out t (Some ns) xs e = length-all_set (places_of t ns) xs (map (λ c. v.Null) (all_columns t.columns)) ∙ length-map (all_columns t.columns) (λ c. v.Null)

-- the count is looked at over the table as it was
counts_still : (t u : Table) (ns : Option (List (List ℕ))) (m : ℕ) → u.name ≡ t.name → u.columns ≡ t.columns → Counts t ns m → Counts u ns m
counts_still t u None m a b e = ap (λ (p : List ℕ × List ColumnDef). count_check (record t { name = p.0; columns = p.1 }) None m) (λ i. (a i, b i)) ∙ e
counts_still t u (Some ns) m a b e = e

pub row_keeps : (others : ℕ) (ns : Option (List (List ℕ))) (t : Table) (s new : Inserted) (xs : List Value) → Entered others t s.table → Counts t ns (length xs) → row_inserted others ns s xs ≡ Ok new → Entered others t new.table
row_keeps others ns t s new xs so_far count e =
    let a = ok_then (entered others s.table None (laid_out s.table ns xs)) (λ p. Ok (one_inserted s p)) new e in
    let r = entered_is others s.table None (laid_out s.table ns xs) a.0 so_far.valid tt (length-laid_out s.table ns xs (counts_still t s.table ns (length xs) so_far.name so_far.columns count)) a.1 in
    subst (λ (i : Inserted). Entered others t i.table) (same_ok (one_inserted s a.0) new a.2) (after others t s.table a.0.1 so_far r)

pub length-all_ok : {A : Type 0} (os : List (Outcome A)) (ys : List A) → AllOk os ys → length ys ≡ length os
length-all_ok [] [] a = refl
length-all_ok [] (y ∷ ys) a = absurd a
length-all_ok (o ∷ os) [] a = absurd a
length-all_ok (o ∷ os) (y ∷ ys) a = ap suc (length-all_ok os ys a.1)

expressions_keep : (others : ℕ) (ns : Option (List (List ℕ))) (t : Table) (s new : Inserted) (xs : List Expr) → Entered others t s.table → Counts t ns (length xs) → expressions_inserted others ns s xs ≡ Ok new → Entered others t new.table
expressions_keep others ns t s new xs so_far count e =
    let f = λ (x : Expr). value scope.Empty x no_row in
    let a = ok_then (values_of xs) (row_inserted others ns s) new e in
    let same = length-all_ok (map f xs) a.0 (all_ok (map f xs) a.0 a.1) ∙ length-map xs f in
    row_keeps others ns t s new a.0 so_far (subst (Counts t ns) (sym same) count) a.2

pub values_keep : (others : ℕ) (ns : Option (List (List ℕ))) (rs : List (List Expr)) (t : Table) (new : Inserted) → ValidTable t → others + table_size t ≤ size_limit → Each (λ xs. Counts t ns (length xs)) rs
    → in_turn (expressions_inserted others ns) rs (none_inserted t) ≡ Ok new → Entered others t new.table
values_keep others ns rs t new valid within counts e =
    turn_keeps (expressions_inserted others ns) (λ (i : Inserted). Entered others t i.table) (λ xs. Counts t ns (length xs)) (λ s xs w a q g. expressions_keep others ns t s w xs a q g) rs counts (none_inserted t) new (none_entered others t valid within) e

pub results_keep : (others : ℕ) (ns : Option (List (List ℕ))) (rs : List (List Value)) (t : Table) (new : Inserted) → ValidTable t → others + table_size t ≤ size_limit → Each (λ xs. Counts t ns (length xs)) rs
    → in_turn (row_inserted others ns) rs (none_inserted t) ≡ Ok new → Entered others t new.table
results_keep others ns rs t new valid within counts e =
    turn_keeps (row_inserted others ns) (λ (i : Inserted). Entered others t i.table) (λ xs. Counts t ns (length xs)) (λ s xs w a q g. row_keeps others ns t s w xs a q g) rs counts (none_inserted t) new (none_entered others t valid within) e

-- ---- DELETE

put_sum : (f : List Value → ℕ) (k : ℤ) (w : List Value) (es : List (ℤ × List Value)) → find int_cmp k es ≡ None → sum_by f (map (λ e. e.1) (put int_cmp k w es)) ≡ f w + sum_by f (map (λ e. e.1) es)
put_sum f k w [] h = omega arith
put_sum f k w (e ∷ es) h = elim (int_cmp k e.0) as (λ o. cond (is_eq o) (Some e.1) (find int_cmp k es) ≡ None → sum_by f (map (λ e. e.1) (by_order o ((k, w) ∷ e ∷ es) ((e.0, w) ∷ es) (e ∷ put int_cmp k w es))) ≡ f w + sum_by f (map (λ e. e.1) (e ∷ es))) [
  | Less ↦ λ g. sum_by-cons f w (map (λ e. e.1) (e ∷ es))
  | Equal ↦ λ g. absurd (cc)
  | Greater ↦ λ g.
      let a = sum_by-cons f e.1 (map (λ e. e.1) (put int_cmp k w es)) in
      let b = sum_by-cons f e.1 (map (λ e. e.1) es) in
      let i = put_sum f k w es g in
      omega (arith, a, b, i)
] h

-- a table without a row takes no more
smaller : (t : Table) (k : ℤ) → table_size (without_row k t) ≤ table_size t
smaller t k = by (fin.get t.rows k) refl
  where
    gone : fin.get (fin.remove t.rows k) k ≡ None
    gone = get-remove int_cmp_total t.rows k k ∙ ap (λ b. cond b None (fin.get t.rows k)) ((eq_by_cmp_equiv int_cmp_total).refl k)

    back : (vs : List Value) → fin.get t.rows k ≡ Some vs → (q : ℤ) (b : Bool) → eq_by_cmp int_cmp q k ≡ b → cond b (Some vs) (cond b None (fin.get t.rows q)) ≡ fin.get t.rows q
    back vs g q true s = sym (ap (fin.get t.rows) (same_key q k s) ∙ g)
    back vs g q false s = refl

    same : (q : ℤ) (b : Bool) → eq_by_cmp int_cmp q k ≡ b → fin.get t.rows k ≡ None → cond b None (fin.get t.rows q) ≡ fin.get t.rows q
    same q true s g = sym (ap (fin.get t.rows) (same_key q k s) ∙ g)
    same q false s g = refl

    by : (o : Option (List Value)) → fin.get t.rows k ≡ o → table_size (without_row k t) ≤ table_size t
    by None g =
        let e = same_map int_cmp_total int_cmp-IsAntisymmetric (fin.remove t.rows k) t.rows (λ q. get-remove int_cmp_total t.rows k q ∙ same q (eq_by_cmp int_cmp q k) refl g) in
        let a = ap (λ rs. table_size (record t { rows = rs })) e in
        omega (arith, a)
    by (Some vs) g =
        let e = same_map int_cmp_total int_cmp-IsAntisymmetric (fin.insert (fin.remove t.rows k) k vs) t.rows
        (λ q. get-insert int_cmp_total (fin.remove t.rows k) k vs q ∙ ap (cond (eq_by_cmp int_cmp q k) (Some vs)) (get-remove int_cmp_total t.rows k q) ∙ back vs g q (eq_by_cmp int_cmp q k) refl) in
        let a = ap (λ rs. table_size (record t { rows = rs })) e in
        let b = ap (λ es. sum_by (row_size t.columns) (map (λ (x : ℤ × List Value). x.1) es)) (entries-insert int_cmp_total (fin.remove t.rows k) k vs) in
        let c = put_sum (row_size t.columns) k vs (fin.entries (fin.remove t.rows k)) (sym (fin.get-entries (fin.remove t.rows k) k) ∙ gone) in
        omega (arith, a, b, c)

pub deleted_keeps : (others : ℕ) (ks : List ℤ) (t : Table) → ValidTable t → others + table_size t ≤ size_limit → Entered others t (without_rows ks t)
deleted_keeps others [] t valid within = none_entered others t valid within
deleted_keeps others (k ∷ ks) t valid within =
    let s = smaller t k in
    let r = deleted_keeps others ks (without_row k t) (valid_without t k valid) (omega (arith, s, within)) in
    record { valid = r.valid; name = r.name; columns = r.columns; within = r.within }
