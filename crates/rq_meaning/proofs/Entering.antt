-- A row that comes into a valid table leaves it valid.
use Rattle.std.proofs.Common.{◌≡◌, ◌≢◌, ℕ, zero, suc, ◌+◌, ◌≤◌, ℤ, Bool, true, false, cond, List, [], ◌∷◌, ◌++◌, length, Option, Some, None, Ok, Err, refl, sym, ap, subst, ◌∙◌, arith}
use Rattle.std.specs.Prelude.{slice_get, unwrap_or, is_some, not, ◌&&◌, ◌||◌, if◌then◌else◌, int_lt, drop}
use Rattle.std.specs.declared.cmp.Ordering.{Ordering}
use Rattle.std.specs.declared.cmp.Ordering.TheVariants.{Less, Equal, Greater}
use Rattle.std.specs.Ordering.{int_cmp, is_eq, eq_by_cmp}
use Rattle.std.specs.Cmp.{int_cmp_total, eq_by_cmp_equiv}
use Rattle.std.specs.Cmp.Lexicographic.{nat_list_cmp_total}
use Rattle.std.specs.List.{list_any}
use Rattle.std.proofs.lemmas.Bool.{ltb-false}
use Rattle.std.specs.FinMap as fin
use Rattle.std.specs.FinMap.{get-insert, int_cmp-IsAntisymmetric}
use Rattle.std.specs.FinMap.Entries.{find}
use Rattle.rq_values.specs.declared.value.Value.{Value}
use Rattle.rq_values.specs.declared.value.Value.TheVariants as v
use Rattle.rq_grammar.specs.declared.stmt.ColumnKind.{ColumnKind}
use Rattle.rq_grammar.specs.declared.stmt.ColumnKind.TheVariants as kind
use Rattle.rq_grammar.specs.declared.stmt.ColumnDef.{ColumnDef}
use Rattle.rq_eval.specs.declared.error.StmtError.{StmtError}
use Rattle.rq_eval.specs.Outcome.{Outcome, then_with, all_behind, all_of}
use Rattle.rq_operators.specs.Operators.{is_null}
use Rattle.rq_results.specs.Checks.{Check, first}
use Rattle.rq_rows.specs.Rows.{Filled, is_rowid, is_integer, is_unique, is_taken, is_same, has, known_or, key_of}
use Rattle.rq_select.specs.Select.{unless}
use Rattle.rq_meaning.specs.Database.{Table, with_row, table_size, size_limit}
use Rattle.rq_meaning.specs.Rows.{if_so, hidden, has_rowid, all_columns, own_values, stored, is_plain_integer, needed, all_stored, last_rowid, next_rowid, missing_rowid, rowid_for, rowid_value, with_rowid, is_needed, nulls, repeats, hidden_repeat, limit_check, placed, numbered, judged, entered}
use Rattle.rq_meaning.specs.Valid.{FitsColumn, ValidRow, Differs, ValidTable, HadFits, Entered}

-- ---- outcomes that are no error

pub ok_then : {A B : Type 0} (o : Outcome A) (f : A → Outcome B) (b : B) → then_with o f ≡ Ok b → (a : A) × (o ≡ Ok a) × (f a ≡ Ok b)
ok_then (Ok a) f b e = (a, refl, e)
ok_then (Err w) f b e = absurd (cc)

pub ok_unless : {A : Type 0} (c : Check) (o : Outcome A) (a : A) → unless c o ≡ Ok a → (c ≡ None) × (o ≡ Ok a)
ok_unless None o a e = (refl, e)
ok_unless (Some w) o a e = absurd (cc)

none_first : (c : Check) (cs : List Check) → first (c ∷ cs) ≡ None → (c ≡ None) × (first cs ≡ None)
none_first None cs e = (refl, e)
none_first (Some w) cs e = absurd (cc)

not_so : (b : Bool) (w : StmtError) → if_so b w ≡ None → b ≡ false
not_so true w e = absurd (cc)
not_so false w e = refl

ok_needed : {A : Type 0} (w : StmtError) (o : Option A) (a : A) → needed w o ≡ Ok a → o ≡ Some a
ok_needed w None a e = absurd (cc)
ok_needed w (Some x) a e = cc

same_some : {A : Type 0} (x y : A) → Some x ≡ Some y → x ≡ y
same_some x y e = ap (λ o. unwrap_or o x) e

-- each of the outcomes is its value
abbrev pub AllOk : {A : Type 0} → List (Outcome A) → List A → Type 0
AllOk [] [] = Unit {0}
AllOk [] (y ∷ ys) = ⊥
AllOk (o ∷ os) [] = ⊥
AllOk (o ∷ os) (y ∷ ys) = (o ≡ Ok y) × AllOk os ys

behind_ok : {A : Type 0} (vs : List A) (os : List (Outcome A)) (zs : List A) → all_behind vs os ≡ Ok zs → (ys : List A) × (zs ≡ vs ++ ys) × AllOk os ys
behind_ok {A} vs [] zs e = ([], same zs vs e ∙ sym (nothing vs), tt)
  where
    same : (xs ys : List A) → ◌≡◌ {A = Outcome (List A)} (Ok ys) (Ok xs) → xs ≡ ys
    same xs ys e = cc

    nothing : (xs : List A) → xs ++ [] ≡ xs
    nothing [] = refl
    nothing (x ∷ xs) = ap (λ ys. x ∷ ys) (nothing xs)
behind_ok {A} vs (o ∷ os) zs e =
    let s = ok_then o (λ a. all_behind (vs ++ a ∷ []) os) zs e in
    let r = behind_ok (vs ++ s.0 ∷ []) os zs s.2 in
    (s.0 ∷ r.0, r.1 ∙ joined vs s.0 r.0, (s.1, r.2))
  where
    joined : (xs : List A) (y : A) (ys : List A) → (xs ++ y ∷ []) ++ ys ≡ xs ++ y ∷ ys
    joined [] y ys = refl
    joined (x ∷ xs) y ys = ap (λ zs. x ∷ zs) (joined xs y ys)

pub all_ok : {A : Type 0} (os : List (Outcome A)) (ys : List A) → all_of os ≡ Ok ys → AllOk os ys
all_ok os ys e = let r = behind_ok [] os ys e in subst (AllOk os) (sym r.1) r.2

-- ---- kinds

pub stored_again : (k : ColumnKind) (x y : Value) → stored k x ≡ Some y → stored k y ≡ Some y
stored_again k v.Null y e = subst (λ z. stored k z ≡ Some z) (same_some v.Null y e) refl
stored_again kind.Integer (v.Int n) y e = subst (λ z. stored kind.Integer z ≡ Some z) (same_some _ y e) refl
stored_again kind.Text (v.Int n) y e = subst (λ z. stored kind.Text z ≡ Some z) (same_some _ y e) refl
stored_again kind.Blob (v.Int n) y e = absurd (cc)
stored_again kind.Integer (v.Text t) y e = by (is_plain_integer t) _ e
  where
    by : (b : Bool) (m : ℤ) → (if b then Some (v.Int m) else None) ≡ Some y → stored kind.Integer y ≡ Some y
    by true m f = subst (λ z. stored kind.Integer z ≡ Some z) (same_some (v.Int m) y f) refl
    by false m f = absurd (cc)
stored_again kind.Text (v.Text t) y e = subst (λ z. stored kind.Text z ≡ Some z) (same_some _ y e) refl
stored_again kind.Blob (v.Text t) y e = absurd (cc)
stored_again kind.Integer (v.Blob b) y e = absurd (cc)
stored_again kind.Text (v.Blob b) y e = absurd (cc)
stored_again kind.Blob (v.Blob b) y e = subst (λ z. stored kind.Blob z ≡ Some z) (same_some _ y e) refl

-- each value is as its column takes it
abbrev pub StoredRow : List ColumnDef → List Value → Type 0
StoredRow [] [] = Unit {0}
StoredRow [] (y ∷ ys) = ⊥
StoredRow (c ∷ cs) [] = ⊥
StoredRow (c ∷ cs) (y ∷ ys) = (stored c.kind y ≡ Some y) × StoredRow cs ys

stored_row : (t : List ℕ) (cs : List ColumnDef) (xs ys : List Value) → length xs ≡ length cs → AllOk (all_stored t cs xs) ys → StoredRow cs ys
stored_row t [] xs [] e a = tt
stored_row t [] xs (y ∷ ys) e a = a
stored_row t (c ∷ cs) [] ys e a = absurd (omega (arith, e))
stored_row t (c ∷ cs) (x ∷ xs) [] e a = a
stored_row t (c ∷ cs) (x ∷ xs) (y ∷ ys) e a = (stored_again c.kind x y (ok_needed _ (stored c.kind x) y a.0), stored_row t cs xs ys (omega (arith, e)) a.1)

-- ---- the row with its rowid

abbrev pub FitRow : ℤ → List ColumnDef → List Value → Type 0
FitRow k [] [] = Unit {0}
FitRow k [] (x ∷ xs) = ⊥
FitRow k (c ∷ cs) [] = ⊥
FitRow k (c ∷ cs) (x ∷ xs) = FitsColumn c k x × FitRow k cs xs

integer_kind : (c : ColumnDef) → is_rowid c ≡ true → c.kind ≡ kind.Integer
integer_kind c e = by c.kind e
  where
    by : (k : ColumnKind) → (is_integer k && c.primary) ≡ true → k ≡ kind.Integer
    by kind.Integer f = refl
    by kind.Text f = absurd (cc)
    by kind.Blob f = absurd (cc)

int_not_null : (k : ℤ) → v.Int k ≢ v.Null
int_not_null k e = absurd (cc)

fits_rowid : (c : ColumnDef) (k : ℤ) → is_rowid c ≡ true → FitsColumn c k (v.Int k)
fits_rowid c k e = record {
  kind = ap (λ (h : ColumnKind). stored h (v.Int k)) (integer_kind c e);
  rowid = λ _. refl;
  not_null = λ _. int_not_null k;
}

null_is : (x : Value) → x ≡ v.Null → is_null x ≡ true
null_is x e = ap is_null e

fits_value : (c : ColumnDef) (k : ℤ) (had : Option ℤ) (x : Value) → is_rowid c ≡ false → stored c.kind x ≡ Some x → (is_needed had c && is_null x) ≡ false → FitsColumn c k x
fits_value c k had x not_rowid is_stored check = record {
  kind = is_stored;
  rowid = λ e. absurd (other e);
  not_null = λ e n. absurd (missing e n);
}
  where
    other : is_rowid c ≡ true → ⊥
    other e = let f = sym e ∙ not_rowid in absurd (cc)

    missing : c.not_null ≡ true → x ≡ v.Null → ⊥
    missing e n =
        let a = ap (λ b. (if b then is_some had else c.not_null) && is_null x) not_rowid in
        let f = sym check ∙ a ∙ ap (λ b. b && is_null x) e ∙ null_is x n in
        absurd (cc)

pub fit_row : (n : List ℕ) (had : Option ℤ) (k : ℤ) (cs : List ColumnDef) (ys : List Value) → StoredRow cs ys → first (nulls n had cs ys) ≡ None → FitRow k cs (with_rowid k cs ys)
fit_row n had k [] [] s h = tt
fit_row n had k [] (y ∷ ys) s h = s
fit_row n had k (c ∷ cs) [] s h = s
fit_row n had k (c ∷ cs) (y ∷ ys) s h =
    let f = none_first _ (nulls n had cs ys) h in
    (one (is_rowid c) refl (not_so _ _ f.0), fit_row n had k cs ys s.1 f.1)
  where
    one : (b : Bool) → is_rowid c ≡ b → (is_needed had c && is_null y) ≡ false → FitsColumn c k (if b then v.Int k else y)
    one true e check = fits_rowid c k e
    one false e check = fits_value c k had y e s.0 check

fit_length : (k : ℤ) (cs : List ColumnDef) (xs : List Value) → FitRow k cs xs → length xs ≡ length cs
fit_length k [] [] f = refl
fit_length k [] (x ∷ xs) f = absurd f
fit_length k (c ∷ cs) [] f = absurd f
fit_length k (c ∷ cs) (x ∷ xs) f = ap suc (fit_length k cs xs f.1)

fit_at : (k : ℤ) (cs : List ColumnDef) (xs : List Value) → FitRow k cs xs → (i : ℕ) (c : ColumnDef) (x : Value) → slice_get cs i ≡ Some c → slice_get xs i ≡ Some x → FitsColumn c k x
fit_at k [] xs f i c x a b = absurd (cc)
fit_at k (d ∷ cs) [] f i c x a b = absurd f
fit_at k (d ∷ cs) (y ∷ ys) f zero c x a b = subst (λ (e : ColumnDef). FitsColumn e k x) (same_some d c a) (subst (FitsColumn d k) (same_some y x b) f.0)
fit_at k (d ∷ cs) (y ∷ ys) f (suc i) c x a b = fit_at k cs ys f.1 i c x a b

-- the table's own values, of those of all columns
own_fit : (n : List ℕ) (had : Option ℤ) (k : ℤ) (cs : List ColumnDef) (ys : List Value) → StoredRow (all_columns cs) ys → first (nulls n had (all_columns cs) ys) ≡ None → FitRow k cs (with_rowid k cs (own_values cs ys))
own_fit n had k cs ys s h = by (has_rowid cs) ys s h
  where
    by : (b : Bool) (ys : List Value) → StoredRow (if b then cs else hidden ∷ cs) ys → first (nulls n had (if b then cs else hidden ∷ cs) ys) ≡ None → FitRow k cs (with_rowid k cs (if b then ys else drop 1 ys))
    by true ys s h = fit_row n had k cs ys s h
    by false [] s h = absurd s
    by false (y ∷ ys) s h = fit_row n had k cs ys s.1 (none_first _ (nulls n had cs ys) h).1

-- ---- the rowid

checked : (k m : ℤ) (w : StmtError) → (if int_lt last_rowid k then Err w else Ok k) ≡ Ok m → int_lt last_rowid m ≡ false
checked k m w e = by (int_lt last_rowid k) refl e
  where
    by : (b : Bool) → int_lt last_rowid k ≡ b → (if b then Err w else Ok k) ≡ Ok m → int_lt last_rowid m ≡ false
    by true f g = absurd (cc)
    by false f g = subst (λ n. int_lt last_rowid n ≡ false) (same g) f
      where
        same : ◌≡◌ {A = Outcome ℤ} (Ok k) (Ok m) → k ≡ m
        same h = cc

missing_last : (t : Table) (had : Option ℤ) (k : ℤ) → HadFits had → missing_rowid t had ≡ Ok k → int_lt last_rowid k ≡ false
missing_last t None k h e = checked (next_rowid t) k _ e
missing_last t (Some m) k h e = subst (λ n. int_lt last_rowid n ≡ false) (same e) h
  where
    same : ◌≡◌ {A = Outcome ℤ} (Ok m) (Ok k) → m ≡ k
    same g = cc

rowid_last : (t : Table) (had : Option ℤ) (x : Value) (k : ℤ) → HadFits had → rowid_for t had x ≡ Ok k → int_lt last_rowid k ≡ false
rowid_last t had v.Null k h e = missing_last t had k h e
rowid_last t had (v.Int n) k h e = checked n k _ e
rowid_last t had (v.Text s) k h e = missing_last t had k h e
rowid_last t had (v.Blob b) k h e = missing_last t had k h e

-- ---- UNIQUE

is_other : (c : ColumnDef) → is_unique c ≡ true → is_rowid c ≡ false
is_other c e = by (is_rowid c) e
  where
    by : (b : Bool) → (not b && (c.unique || c.primary)) ≡ true → b ≡ false
    by true f = absurd (cc)
    by false f = refl

free_at : (t : Table) (k : ℤ) (vs : List Value) (n : ℕ) (cs : List ColumnDef) → first (repeats t k vs n cs) ≡ None → (i : ℕ) (c : ColumnDef) → slice_get cs i ≡ Some c → is_unique c ≡ true → is_taken (n + i) t.rows (key_of (n + i) vs) ≡ false
free_at t k vs n [] h i c a u = absurd (cc)
free_at t k vs n (d ∷ cs) h zero c a u =
    let f = not_so _ _ (none_first _ (repeats t k vs (n + 1) cs) h).0 in
    let e = same_some d c a in
    subst (λ m. is_taken m t.rows (key_of m vs) ≡ false) (plain n) (both (is_unique c) (is_taken n t.rows (key_of n vs)) u
    (sym (ap (λ b. if b then fin.contains_key t.rows k else is_unique c && is_taken n t.rows (key_of n vs)) (is_other c u))
    ∙ subst (λ (x : ColumnDef). (if is_rowid x then fin.contains_key t.rows k else is_unique x && is_taken n t.rows (key_of n vs)) ≡ false) e f))
  where
    plain : (n : ℕ) → n ≡ n + 0
    plain n = omega arith

    both : (a b : Bool) → a ≡ true → (a && b) ≡ false → b ≡ false
    both true b p q = q
    both false b p q = absurd (cc)
free_at t k vs n (d ∷ cs) h (suc i) c a u =
    subst (λ m. is_taken m t.rows (key_of m vs) ≡ false) (next n i) (free_at t k vs (n + 1) cs (none_first _ (repeats t k vs (n + 1) cs) h).1 i c a u)
  where
    next : (n i : ℕ) → (n + 1) + i ≡ n + suc i
    next n i = omega arith

equal : (o : Ordering) → is_eq o ≡ true → o ≡ Equal
equal Less e = absurd (cc)
equal Equal e = refl
equal Greater e = absurd (cc)

same_value : (x : Value) → x ≢ v.Null → (n : ℕ) (vs : List Value) → slice_get vs n ≡ Some x → is_same x (key_of n vs) ≡ true
same_value v.Null h n vs e = absurd (h refl)
same_value (v.Int m) h n vs e = ap (λ o. is_same (v.Int m) (known_or o)) e ∙ (eq_by_cmp_equiv int_cmp_total).refl m
same_value (v.Text t) h n vs e = ap (λ o. is_same (v.Text t) (known_or o)) e ∙ (eq_by_cmp_equiv nat_list_cmp_total).refl t
same_value (v.Blob b) h n vs e = ap (λ o. is_same (v.Blob b) (known_or o)) e ∙ (eq_by_cmp_equiv nat_list_cmp_total).refl b

-- a row that is there passes no test that none passes
none_passes : (p : ℤ × List Value → Bool) (es : List (ℤ × List Value)) (k : ℤ) (vs : List Value) → find int_cmp k es ≡ Some vs → list_any p es ≡ false → p (k, vs) ≡ false
none_passes p [] k vs f h = absurd (cc)
none_passes p (e ∷ es) k vs f h = by (eq_by_cmp int_cmp k e.0) refl f (p e) refl h (none_passes p es k vs)
  where
    by : (b : Bool) → eq_by_cmp int_cmp k e.0 ≡ b → cond b (Some e.1) (find int_cmp k es) ≡ Some vs → (d : Bool) → p e ≡ d → (d || list_any p es) ≡ false
        → (find int_cmp k es ≡ Some vs → list_any p es ≡ false → p (k, vs) ≡ false) → p (k, vs) ≡ false
    by b t g true q h ih = absurd (cc)
    by true t g false q h ih = ap p (λ i. (int_cmp-IsAntisymmetric k e.0 (equal _ t) i, sym (same_some e.1 vs g) i)) ∙ q
    by false t g false q h ih = ih g h

not_taken : (n : ℕ) (rows : Filled) (key : Option Value) (x : Value) → is_taken n rows key ≡ false → key ≡ Some x → (k : ℤ) (vs : List Value) → fin.get rows k ≡ Some vs → has n x (k, vs) ≡ false
not_taken n rows None x free e k vs g = absurd (cc)
not_taken n rows (Some y) x free e k vs g = none_passes (has n x) (fin.entries rows) k vs (sym (fin.get-entries rows k) ∙ g) (subst (λ z. list_any (has n z) (fin.entries rows) ≡ false) (same_some y x e) free)

key_is : (x : Value) → x ≢ v.Null → (n : ℕ) (vs : List Value) → slice_get vs n ≡ Some x → key_of n vs ≡ Some x
key_is v.Null h n vs e = absurd (h refl)
key_is (v.Int m) h n vs e = ap known_or e
key_is (v.Text t) h n vs e = ap known_or e
key_is (v.Blob b) h n vs e = ap known_or e

-- no row that is there has a value that the row has, where it may not be taken
apart : (t : Table) (i : ℕ) (vs ws : List Value) (l : ℤ) (x : Value) → is_taken i t.rows (key_of i vs) ≡ false → fin.get t.rows l ≡ Some ws → slice_get vs i ≡ Some x → slice_get ws i ≡ Some x → x ≢ v.Null → ⊥
apart t i vs ws l x free g a b h =
    let no = not_taken i t.rows (key_of i vs) x free (key_is x h i vs a) l ws g in
    let yes = same_value x h i ws b in
    let f = sym no ∙ yes in
    absurd (cc)

pub same_key : (q k : ℤ) → eq_by_cmp int_cmp q k ≡ true → q ≡ k
same_key q k t = int_cmp-IsAntisymmetric q k (equal _ t)

differs : (t : Table) (k : ℤ) (vs : List Value) (i : ℕ) → Differs t i → is_taken i t.rows (key_of i vs) ≡ false → Differs (with_row k vs t) i
differs t k vs i old free j l us ws x a b c d h =
    by (eq_by_cmp int_cmp j k) refl (eq_by_cmp int_cmp l k) refl (sym (get-insert int_cmp_total t.rows k vs j) ∙ a) (sym (get-insert int_cmp_total t.rows k vs l) ∙ b)
  where
    by : (p : Bool) → eq_by_cmp int_cmp j k ≡ p → (q : Bool) → eq_by_cmp int_cmp l k ≡ q → cond p (Some vs) (fin.get t.rows j) ≡ Some us → cond q (Some vs) (fin.get t.rows l) ≡ Some ws → j ≡ l
    by true s true r g f = same_key j k s ∙ sym (same_key l k r)
    by true s false r g f = absurd (apart t i vs ws l x free f (subst (λ zs. slice_get zs i ≡ Some x) (sym (same_some vs us g)) c) d h)
    by false s true r g f = absurd (apart t i vs us j x free g (subst (λ zs. slice_get zs i ≡ Some x) (sym (same_some vs ws f)) d) c h)
    by false s false r g f = old j l us ws x g f c d h

-- ---- the whole

-- what is known of a row that is judged
pub record Judged (others : ℕ) (t : Table) (k : ℤ) (vs : List Value) : Type 0 where
  pub row : ValidRow t.columns k vs
  pub free : (i : ℕ) (c : ColumnDef) → slice_get t.columns i ≡ Some c → is_unique c ≡ true → is_taken i t.rows (key_of i vs) ≡ false
  pub within : others + table_size (with_row k vs t) ≤ size_limit

within_is : (others : ℕ) (t : Table) → limit_check others t ≡ None → others + table_size t ≤ size_limit
within_is others t e = ltb-false size_limit (others + table_size t) (not_so _ _ e)

same_pair : (k m : ℤ) (vs ws : List Value) → ◌≡◌ {A = Outcome (ℤ × List Value)} (Ok (k, vs)) (Ok (m, ws)) → (k ≡ m) × (vs ≡ ws)
same_pair k m vs ws e = (ap (λ o. (known o).0) e, ap (λ o. (known o).1) e)
  where
    known : Outcome (ℤ × List Value) → ℤ × List Value
    known (Ok p) = p
    known (Err w) = (k, vs)

free_from_start : (t : Table) (k : ℤ) (vs : List Value) → first (repeats t k vs 0 t.columns) ≡ None → (i : ℕ) (c : ColumnDef) → slice_get t.columns i ≡ Some c → is_unique c ≡ true → is_taken i t.rows (key_of i vs) ≡ false
free_from_start t k vs r i c a u = subst (λ n. is_taken n t.rows (key_of n vs) ≡ false) (omega arith) (free_at t k vs 0 t.columns r i c a u)

placed_is : (others : ℕ) (t : Table) (k m : ℤ) (vs ws : List Value) → int_lt last_rowid k ≡ false → FitRow k t.columns vs → placed others t k vs ≡ Ok (m, ws) → Judged others t m ws
placed_is others t k m vs ws last fits e =
    let a = ok_unless (first (hidden_repeat t k ∷ repeats t k vs 0 t.columns)) (unless (limit_check others (with_row k vs t)) (Ok (k, vs))) (m, ws) e in
    let b = ok_unless (limit_check others (with_row k vs t)) (Ok (k, vs)) (m, ws) a.1 in
    let p = same_pair k m vs ws b.1 in
    let r = (none_first (hidden_repeat t k) (repeats t k vs 0 t.columns) a.0).1 in
    subst (λ n. Judged others t n ws) p.0 (subst (Judged others t k) p.1 (record {
      row = record { last = last; count = fit_length k t.columns vs fits; values = fit_at k t.columns vs fits };
      free = free_from_start t k vs r;
      within = within_is others (with_row k vs t) b.0;
    }))

pub judged_is : (others : ℕ) (t : Table) (had : Option ℤ) (xs : List Value) (m : ℤ) (ws : List Value) → HadFits had → length xs ≡ length (all_columns t.columns) → judged others t had xs ≡ Ok (m, ws) → Judged others t m ws
judged_is others t had xs m ws last count e =
    let cs = all_columns t.columns in
    let a = ok_then (all_of (all_stored t.name cs xs)) (numbered others t had) (m, ws) e in
    let s = stored_row t.name cs xs a.0 count (all_ok (all_stored t.name cs xs) a.0 a.1) in
    let b = ok_then (rowid_for t had (rowid_value cs a.0)) (λ k. unless (first (nulls t.name had cs a.0)) (placed others t k (with_rowid k t.columns (own_values t.columns a.0)))) (m, ws) a.2 in
    let d = ok_unless (first (nulls t.name had cs a.0)) (placed others t b.0 (with_rowid b.0 t.columns (own_values t.columns a.0))) (m, ws) b.2 in
    placed_is others t b.0 m (with_rowid b.0 t.columns (own_values t.columns a.0)) ws (rowid_last t had (rowid_value cs a.0) b.0 last b.1) (own_fit t.name had b.0 t.columns a.0 s d.0) d.1

valid_with : (others : ℕ) (t : Table) (k : ℤ) (vs : List Value) → ValidTable t → Judged others t k vs → ValidTable (with_row k vs t)
valid_with others t k vs valid j = record {
  declared = valid.declared;
  some = valid.some;
  rows = λ l ws g. row l (eq_by_cmp int_cmp l k) refl ws (sym (get-insert int_cmp_total t.rows k vs l) ∙ g);
  unique = λ i c a u. differs t k vs i (valid.unique i c a u) (j.free i c a u);
}
  where
    row : (l : ℤ) (b : Bool) → eq_by_cmp int_cmp l k ≡ b → (ws : List Value) → cond b (Some vs) (fin.get t.rows l) ≡ Some ws → ValidRow t.columns l ws
    row l true e ws g = subst (λ m. ValidRow t.columns m ws) (sym (same_key l k e)) (subst (ValidRow t.columns k) (same_some vs ws g) j.row)
    row l false e ws g = valid.rows l ws g

pub entered_is : (others : ℕ) (t : Table) (had : Option ℤ) (xs : List Value) (p : ℤ × Table) → ValidTable t → HadFits had → length xs ≡ length (all_columns t.columns) → entered others t had xs ≡ Ok p → Entered others t p.1
entered_is others t had xs p valid last count e =
    let a = ok_then (judged others t had xs) (λ q. Ok (q.0, with_row q.0 q.1 t)) p e in
    let j = judged_is others t had xs a.0.0 a.0.1 last count a.1 in
    subst (Entered others t) (table_is (with_row a.0.0 a.0.1 t) a.0.0 p a.2) (record { valid = valid_with others t a.0.0 a.0.1 valid j; name = refl; columns = refl; within = j.within })
  where
    table_is : (new : Table) (k : ℤ) (p : ℤ × Table) → ◌≡◌ {A = Outcome (ℤ × Table)} (Ok (k, new)) (Ok p) → new ≡ p.1
    table_is new k p e = cc
