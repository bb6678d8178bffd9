-- A row that has its rowid.
use Rattle.std.proofs.Common.{◌≡◌, ◌<◌, ◌≤◌, ℕ, ℤ, zero, suc, ◌+◌, Bool, true, false, not, ◌&&◌, ◌||◌, List, [], ◌∷◌, ◌++◌, length, drop, Option, Some, None, Ok, Err, ◌⊎◌, inl, inr, nat_lt, refl, sym, ap, subst, ◌∙◌, arith}
use Rattle.std.specs.Prelude.{slice_get, if◌then◌else◌, is_some}
use Rattle.std.specs.FinMap as fin
use Rattle.std.proofs.lemmas.Bool.{cases_lt}
use Rattle.std.proofs.lemmas.Bool.Decides.{nat_tests}
use Rattle.std.proofs.lemmas.List.{length_push}
use Rattle.rq_values.specs.declared.value.Value.{Value}
use Rattle.rq_values.specs.declared.value.Value.TheVariants.{Int}
use Rattle.rq_grammar.specs.declared.stmt.ColumnDef.{ColumnDef}
use Rattle.rq_eval.specs.declared.error.StmtError.{StmtError}
use Rattle.rq_eval.specs.declared.error.StmtError.TheVariants as error
use Rattle.rq_eval.specs.declared.error.EvalError.{EvalError}
use Rattle.rq_eval.specs.declared.error.EvalError.TheVariants.{Says, NoMemory}
use Rattle.rq_eval.specs.Outcome.{Outcome, then_with, all_behind, all_of}
use Rattle.rq_results.specs.Checks.{Check, first}
use Rattle.rq_rows.specs.Rows.{is_rowid, is_unique, is_taken, key_of}
use Rattle.rq_rows.specs.Covering.{Free, HasKey}
use Rattle.rq_select.specs.Select.{unless}
use Rattle.rq_meaning.specs.Database.{Table, with_row, row_size, table_size, size_limit}
use Rattle.rq_meaning.specs.Rows.{if_so, has_rowid, all_columns, own_values, all_stored, rowid_for, rowid_value, with_rowid, nulls, repeat, repeats, hidden, hidden_repeat, limit_check, numbered, judged}
use Rattle.rq_meaning.specs.Running.{Gives}
use Rattle.rq_changes.specs.Stepping.{Judges, numbered_row}
use Rattle.rq_changes.proofs.Steps.{none_left, unless_ok}
use Rattle.rq_changes.proofs.Sums.{size_with}

-- ---- the limit comes last

unless_then : {A B : Type 0} (c : Check) (o : Outcome A) (f : A → Outcome B) → then_with (unless c o) f ≡ unless c (then_with o f)
unless_then None o f = refl
unless_then (Some e) o f = refl

limit_last : (o : Outcome ℤ) (n : Check) (r : ℤ → Check) (vs : ℤ → List Value) (limit : ℤ × List Value → Check)
    → then_with o (λ k. unless n (unless (r k) (unless (limit (k, vs k)) (Ok (k, vs k))))) ≡ then_with (then_with o (λ k. unless n (unless (r k) (Ok (k, vs k))))) (λ p. unless (limit p) (Ok p))
limit_last (Err e) n r vs limit = refl
limit_last (Ok k) n r vs limit = sym (unless_then n (unless (r k) (Ok (k, vs k))) (λ p. unless (limit p) (Ok p)) ∙ ap (unless n) (unless_then (r k) (Ok (k, vs k)) (λ p. unless (limit p) (Ok p))))

pub numbered_is : (others : ℕ) (t : Table) (had : Option ℤ) (xs : List Value) → numbered others t had xs ≡ then_with (numbered_row t had xs) (λ p. unless (limit_check others (with_row p.0 p.1 t)) (Ok p))
numbered_is others t had xs =
    limit_last (rowid_for t had (rowid_value (all_columns t.columns) xs)) (first (nulls t.name had (all_columns t.columns) xs)) (λ k. first (hidden_repeat t k ∷ repeats t k (with_rowid k t.columns (own_values t.columns xs)) 0 t.columns))
    (λ k. with_rowid k t.columns (own_values t.columns xs)) (λ p. limit_check others (with_row p.0 p.1 t))

-- ---- what a row is that has its rowid

pub record IsPlaced (t : Table) (xs : List Value) (k : ℤ) (vs : List Value) : Type 0 where
  pub clear : first (hidden_repeat t k ∷ repeats t k vs 0 t.columns) ≡ None
  pub values : vs ≡ with_rowid k t.columns (own_values t.columns xs)

placed_from : (t : Table) (xs : List Value) (n r : ℤ → Check) (vs : ℤ → List Value) (o : Outcome ℤ) (k : ℤ) (ws : List Value) → then_with {B = ℤ × List Value} o (λ j. unless (n j) (unless (r j) (Ok (j, vs j)))) ≡ Ok (k, ws) → (r k ≡ None) × (ws ≡ vs k)
placed_from t xs n r vs (Err e) k ws h = absurd (cc)
placed_from t xs n r vs (Ok j) k ws h =
    let p = unless_ok (n j) (unless (r j) (Ok (j, vs j))) (k, ws) h in
    let q = unless_ok (r j) (Ok (j, vs j)) (k, ws) p.1 in
    let both = same q.1 in
    let key : j ≡ k = ap (λ (p : ℤ × List Value). p.0) both in
    let row : vs j ≡ ws = ap (λ (p : ℤ × List Value). p.1) both in
    (subst (λ i. r i ≡ None) key q.0, sym row ∙ ap vs key)
  where
    same : ◌≡◌ {A = Outcome (ℤ × List Value)} (Ok (j, vs j)) (Ok (k, ws)) → ◌≡◌ {A = ℤ × List Value} (j, vs j) (k, ws)
    same e = cc

pub is_placed : (t : Table) (had : Option ℤ) (xs : List Value) (k : ℤ) (vs : List Value) → numbered_row t had xs ≡ Ok (k, vs) → IsPlaced t xs k vs
is_placed t had xs k vs h =
    let p = placed_from t xs (λ j. first (nulls t.name had (all_columns t.columns) xs)) (λ j. first (hidden_repeat t j ∷ repeats t j (with_rowid j t.columns (own_values t.columns xs)) 0 t.columns)) (λ j. with_rowid j t.columns (own_values t.columns xs)) (rowid_for t had (rowid_value (all_columns t.columns) xs)) k vs h in
    record {
      clear = subst (λ ws. first (hidden_repeat t k ∷ repeats t k ws 0 t.columns) ≡ None) (sym p.1) p.0;
      values = p.1;
    }

-- ---- no other row has what is its own

not_so : (b : Bool) (e : StmtError) → if_so b e ≡ None → b ≡ false
not_so false e h = refl
not_so true e h = absurd (cc)

repeat_at : (t : Table) (k : ℤ) (vs : List Value) (i : ℕ) (cs : List ColumnDef) (n m : ℕ) (c : ColumnDef) → first (repeats t k vs i cs) ≡ None → slice_get cs n ≡ Some c → m ≡ i + n → repeat t k vs m c ≡ None
repeat_at t k vs i [] n m c h e is = absurd (cc)
repeat_at t k vs i (d ∷ ds) zero m c h e is =
    let p = none_left (repeat t k vs i d) (first (repeats t k vs (i + 1) ds)) h in
    let same : d ≡ c = cc in
    let at : m ≡ i = omega arith in
    subst (λ j. repeat t k vs j c ≡ None) (sym at) (subst (λ b. repeat t k vs i b ≡ None) same p.0)
repeat_at t k vs i (d ∷ ds) (suc n) m c h e is =
    let p = none_left (repeat t k vs i d) (first (repeats t k vs (i + 1) ds)) h in
    repeat_at t k vs (i + 1) ds n m c p.1 e (omega (arith, is))

free_of : (t : Table) (k : ℤ) (vs : List Value) (n : ℕ) (c : ColumnDef) → repeat t k vs n c ≡ None → is_unique c ≡ true → is_taken n t.rows (key_of n vs) ≡ false
free_of t k vs n c h u = by (is_rowid c) (c.unique || c.primary) u (not_so (if is_rowid c then fin.contains_key t.rows k else (is_unique c && is_taken n t.rows (key_of n vs))) (error.UniqueFailed t.name c.name) h)
  where
    by : (r w : Bool) → (not r && w) ≡ true → (if r then fin.contains_key t.rows k else ((not r && w) && is_taken n t.rows (key_of n vs))) ≡ false → is_taken n t.rows (key_of n vs) ≡ false
    by true w u f = absurd (cc)
    by false true u f = f
    by false false u f = absurd (cc)

pub is_free : (t : Table) (xs : List Value) (k : ℤ) (vs : List Value) → IsPlaced t xs k vs → Free t.columns t.rows vs
is_free t xs k vs p n c e u =
    let clear = none_left (hidden_repeat t k) (first (repeats t k vs 0 t.columns)) p.clear in
    free_of t k vs n c (repeat_at t k vs 0 t.columns n n c clear.1 e (omega arith)) u

-- ---- no row has its rowid

absent_rowid : (t : Table) (k : ℤ) (vs : List Value) (n : ℕ) (c : ColumnDef) → is_rowid c ≡ true → repeat t k vs n c ≡ None → fin.contains_key t.rows k ≡ false
absent_rowid t k vs n c r h = by (is_rowid c) r (not_so (if is_rowid c then fin.contains_key t.rows k else (is_unique c && is_taken n t.rows (key_of n vs))) (error.UniqueFailed t.name c.name) h)
  where
    by : (b : Bool) → b ≡ true → (if b then fin.contains_key t.rows k else (is_unique c && is_taken n t.rows (key_of n vs))) ≡ false → fin.contains_key t.rows k ≡ false
    by true r f = f
    by false r f = absurd (cc)

absent_among : (t : Table) (k : ℤ) (vs : List Value) (i : ℕ) (cs : List ColumnDef) → has_rowid cs ≡ true → first (repeats t k vs i cs) ≡ None → fin.contains_key t.rows k ≡ false
absent_among t k vs i [] r h = absurd (cc)
absent_among t k vs i (c ∷ cs) r h =
    let p = none_left (repeat t k vs i c) (first (repeats t k vs (i + 1) cs)) h in
    by (is_rowid c) refl r (λ q. absent_rowid t k vs i c q p.0) (λ q. absent_among t k vs (i + 1) cs q p.1)
  where
    by : (b : Bool) → is_rowid c ≡ b → (b || has_rowid cs) ≡ true → (is_rowid c ≡ true → fin.contains_key t.rows k ≡ false) → (has_rowid cs ≡ true → fin.contains_key t.rows k ≡ false) → fin.contains_key t.rows k ≡ false
    by true e q f g = f e
    by false e q f g = g q

not_there : (o : Option (List Value)) → is_some o ≡ false → o ≡ None
not_there None h = refl
not_there (Some vs) h = absurd (cc)

pub is_absent : (t : Table) (xs : List Value) (k : ℤ) (vs : List Value) → IsPlaced t xs k vs → fin.get t.rows k ≡ None
is_absent t xs k vs p = not_there (fin.get t.rows k) (by (has_rowid t.columns) refl)
  where
    hidden_clear : (b : Bool) → (if b then None else repeat t k [] 0 hidden) ≡ None → b ≡ false → fin.contains_key t.rows k ≡ false
    hidden_clear true h e = absurd (cc)
    hidden_clear false h e = absent_rowid t k [] 0 hidden refl h

    by : (b : Bool) → has_rowid t.columns ≡ b → fin.contains_key t.rows k ≡ false
    by true e = absent_among t k vs 0 t.columns e (none_left (hidden_repeat t k) (first (repeats t k vs 0 t.columns)) p.clear).1
    by false e = hidden_clear (has_rowid t.columns) (none_left (hidden_repeat t k) (first (repeats t k vs 0 t.columns)) p.clear).0 e

-- ---- it has a value for each column, and its rowid

length_stored : (t : List ℕ) (cs : List ColumnDef) (xs : List Value) → length xs ≡ length cs → length (all_stored t cs xs) ≡ length xs
length_stored t [] [] h = refl
length_stored t [] (x ∷ xs) h = absurd (omega (arith, h))
length_stored t (c ∷ cs) [] h = absurd (omega (arith, h))
length_stored t (c ∷ cs) (x ∷ xs) h = let i = length_stored t cs xs (omega (arith, h)) in omega (arith, i)

length_behind : {A : Type 0} (vs : List A) (os : List (Outcome A)) (ys : List A) → all_behind vs os ≡ Ok ys → length ys ≡ length vs + length os
length_behind vs [] ys h = let same : vs ≡ ys = cc in let e = ap length same in omega (arith, e)
length_behind vs (Err e ∷ os) ys h = absurd (cc)
length_behind vs (Ok x ∷ os) ys h = let i = length_behind (vs ++ x ∷ []) os ys h in let e = length_push vs x in omega (arith, i, e)

pub length_all : {A : Type 0} (os : List (Outcome A)) (ys : List A) → all_of os ≡ Ok ys → length ys ≡ length os
length_all os ys h = let i = length_behind [] os ys h in omega (arith, i)

pub length_all_stored : (t : List ℕ) (cs : List ColumnDef) (xs ys : List Value) → length xs ≡ length cs → all_of (all_stored t cs xs) ≡ Ok ys → length ys ≡ length cs
length_all_stored t cs xs ys h e = length_all (all_stored t cs xs) ys e ∙ length_stored t cs xs h ∙ h

length_own : (cs : List ColumnDef) (xs : List Value) → length xs ≡ length (all_columns cs) → length (own_values cs xs) ≡ length cs
length_own cs xs h = by (has_rowid cs) xs h
  where
    by : (b : Bool) (ws : List Value) → length ws ≡ length (if b then cs else hidden ∷ cs) → length (if b then ws else drop 1 ws) ≡ length cs
    by true ws e = e
    by false (w ∷ ws) e = omega (arith, e)
    by false [] e = absurd (omega (arith, e))

length_with : (k : ℤ) (cs : List ColumnDef) (xs : List Value) → length xs ≡ length cs → length (with_rowid k cs xs) ≡ length cs
length_with k [] xs h = h
length_with k (c ∷ cs) [] h = absurd (omega (arith, h))
length_with k (c ∷ cs) (x ∷ xs) h = let i = length_with k cs xs (omega (arith, h)) in omega (arith, i)

shows_with : (k : ℤ) (cs : List ColumnDef) (xs : List Value) (n : ℕ) (c : ColumnDef) → length xs ≡ length cs → slice_get cs n ≡ Some c → is_rowid c ≡ true → slice_get (with_rowid k cs xs) n ≡ Some (Int k)
shows_with k [] xs n c h e r = absurd (cc)
shows_with k (d ∷ ds) [] n c h e r = absurd (omega (arith, h))
shows_with k (d ∷ ds) (x ∷ xs) zero c h e r = let same : d ≡ c = cc in ap (λ b. Some (if b then Int k else x)) (ap is_rowid same ∙ r)
shows_with k (d ∷ ds) (x ∷ xs) (suc n) c h e r = shows_with k ds xs n c (omega (arith, h)) e r

pub has_key : (t : Table) (xs : List Value) (k : ℤ) (vs : List Value) → length xs ≡ length (all_columns t.columns) → IsPlaced t xs k vs → HasKey t.columns k vs
has_key t xs k vs h p =
    let own = length_own t.columns xs h in
    subst (HasKey t.columns k) (sym p.values) (record {
      count = length_with k t.columns (own_values t.columns xs) own;
      key = λ n c e r. shows_with k t.columns (own_values t.columns xs) n c own e r;
    })

-- ---- a judged row

stored_then : (others : ℕ) (t : Table) (had : Option ℤ) (row xs : List Value) → all_of (all_stored t.name (all_columns t.columns) row) ≡ Ok xs → judged others t had row ≡ then_with (numbered_row t had xs) (λ p. unless (limit_check others (with_row p.0 p.1 t)) (Ok p))
stored_then others t had row xs h = ap (λ o. then_with o (numbered others t had)) h ∙ numbered_is others t had xs

limit_is : (others : ℕ) (t : Table) (k : ℤ) (vs : List Value) (b : Bool) → nat_lt size_limit (others + table_size (with_row k vs t)) ≡ b → unless {A = ℤ × List Value} (limit_check others (with_row k vs t)) (Ok (k, vs)) ≡ unless {A = ℤ × List Value} (if_so b error.Full) (Ok (k, vs))
limit_is others t k vs b h = ap (λ q. unless {A = ℤ × List Value} (if_so q error.Full) (Ok (k, vs))) h

pub judged_ok : (others : ℕ) (t : Table) (had : Option ℤ) (row xs : List Value) (k : ℤ) (vs : List Value) → all_of (all_stored t.name (all_columns t.columns) row) ≡ Ok xs → numbered_row t had xs ≡ Ok (k, vs) → others + (table_size t + row_size t.columns vs) ≤ size_limit → judged others t had row ≡ Ok (k, vs)
judged_ok others t had row xs k vs s h fits =
    let more = size_with t k vs (is_absent t xs k vs (is_placed t had xs k vs h)) in
    stored_then others t had row xs s
    ∙ ap (λ o. then_with o (λ p. unless (limit_check others (with_row p.0 p.1 t)) (Ok p))) h
    ∙ limit_is others t k vs false (not_below size_limit (others + table_size (with_row k vs t)) (omega (arith, more)))
  where
    not_below : (a b : ℕ) → b ≤ a → nat_lt a b ≡ false
    not_below a b l = grind (arith, nat_tests)

pub judged_full : (others : ℕ) (t : Table) (had : Option ℤ) (row xs : List Value) (k : ℤ) (vs : List Value) → all_of (all_stored t.name (all_columns t.columns) row) ≡ Ok xs → numbered_row t had xs ≡ Ok (k, vs) → (others + (table_size t + row_size t.columns vs) ≤ size_limit → ⊥) → judged others t had row ≡ Err error.Full
judged_full others t had row xs k vs s h full =
    let more = size_with t k vs (is_absent t xs k vs (is_placed t had xs k vs h)) in
    stored_then others t had row xs s
    ∙ ap (λ o. then_with o (λ p. unless (limit_check others (with_row p.0 p.1 t)) (Ok p))) h
    ∙ limit_is others t k vs true (below size_limit (others + table_size (with_row k vs t)) (omega (arith, more, over (others + (table_size t + row_size t.columns vs)) full)))
  where
    below : (a b : ℕ) → a < b → nat_lt a b ≡ true
    below a b l = grind (arith, nat_tests)

    over : (n : ℕ) → (n ≤ size_limit → ⊥) → size_limit < n
    over n f = by (cases_lt size_limit n)
      where
        by : (size_limit < n) ⊎ (n ≤ size_limit) → size_limit < n
        by (inl l) = l
        by (inr l) = absurd (f l)

pub number_fails : (others : ℕ) (t : Table) (had : Option ℤ) (row xs ws vs : List Value) (e : EvalError) → all_of (all_stored t.name (all_columns t.columns) row) ≡ Ok xs → Gives (numbered_row t had xs) ws (Err e) → Judges (judged others t had row) t vs (Err e)
number_fails others t had row xs ws vs (Says w) s h = stored_then others t had row xs s ∙ ap (λ o. then_with o (λ p. unless (limit_check others (with_row p.0 p.1 t)) (Ok p))) h
number_fails others t had row xs ws vs NoMemory s h = tt
