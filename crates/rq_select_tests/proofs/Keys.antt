-- The row of a key.
use Rattle.std.proofs.Common.{◌≡◌, ℕ, ℤ, Bool, true, false, cond, List, [], ◌∷◌, ◌⊎◌, inl, inr, Option, Some, None, pos, refl, sym, ap, subst, ◌∙◌}
use Rattle.std.specs.Prelude.{unwrap_or}
use Rattle.std.specs.Option.{option_map}
use Rattle.std.specs.declared.cmp.Ordering.{Ordering}
use Rattle.std.specs.declared.cmp.Ordering.TheVariants.{Less, Equal, Greater}
use Rattle.std.specs.Ordering.{int_cmp, eq_by_cmp, is_eq}
use Rattle.std.specs.Cmp.{int_cmp_total, eq_by_cmp_equiv}
use Rattle.std.specs.BTreeMap.{BTreeMap, keys, get, is_at, Updates}
use Rattle.std.specs.Map.{lookup}
use Rattle.std.specs.FinMap as fin
use Rattle.std.specs.FinMap.{from_sorted, get-from_sorted, int_cmp-IsAntisymmetric}
use Rattle.std.specs.FinMap.Entries.{find}
use Rattle.std.specs.List.Sorted.{IsStrictlySortedBy}
use Rattle.rq_values.specs.declared.value.Value.{Value}
use Rattle.rq_values.specs.declared.value.Value.TheVariants as v
use Rattle.rq_grammar.specs.declared.stmt.ColumnDef.{ColumnDef}
use Rattle.rq_eval.specs.declared.row.RowView.{RowView}
use Rattle.rq_eval.specs.Names.{Row, row_of, value_at}
use Rattle.rq_results.specs.Table.{Table, as_row, row_at}
use Rattle.rq_select.specs.declared.table.Lookup.{Lookup}
use Rattle.rq_select.specs.declared.table.Lookup.TheVariants as lookup
use Rattle.rq_select.specs.Finding.{OnlyHas, Finds}
use Rattle.rq_select_tests.specs.Keyed.{IsKeyed, IsHeld, IsAdded, Rows}
use Rattle.rq_select_tests.proofs.Entries.{sorted}

find_is : (q : ℤ) (es : List (ℤ × List Value)) → find int_cmp q es ≡ lookup (is_at (int_cmp q)) es
find_is q [] = refl
find_is q (e ∷ es) = ap (λ o. cond (eq_by_cmp int_cmp q e.0) (Some e.1) o) (find_is q es)

got : (rows : Rows) (q : ℤ) → IsStrictlySortedBy int_cmp (keys rows) → fin.get (from_sorted {R = int_cmp} rows.entries) q ≡ get int_cmp rows q
got rows q s = get-from_sorted int_cmp rows.entries q (sorted rows.entries s) ∙ find_is q rows.entries

abbrev table_of : List ℕ → List ColumnDef → Rows → Table
table_of n cs rows = record { name = n; columns = cs; rows = from_sorted {R = int_cmp} rows.entries }

abbrev number : Value → ℤ
number v.Null = pos 0
number (v.Int n) = n
number (v.Text t) = pos 0
number (v.Blob b) = pos 0

module _ (n : List ℕ) (cs : List ColumnDef) (rows : Rows) (key : ℕ) (s : IsStrictlySortedBy int_cmp (keys rows)) (keyed : IsKeyed key rows) where
  has : (j : ℤ) (vs : List Value) → fin.get (from_sorted {R = int_cmp} rows.entries) j ≡ Some vs → value_at (as_row (j, vs)) key ≡ v.Int j
  has j vs g = keyed j vs (sym (got rows j s) ∙ g)

  only : (k : ℤ) → OnlyHas (table_of n cs rows) key (v.Int k) k
  only k j vs g m = ap number (sym (has j vs g) ∙ m)

  pub finds_row : (k : ℤ) (vs : List Value) (r : RowView) → get int_cmp rows k ≡ Some vs → row_of r ≡ as_row (k, vs) → Finds (table_of n cs rows) key (v.Int k) (lookup.Row r)
  finds_row k vs r there is =
      let same : r.rowid ≡ k = ap (λ (w : Row). w.rowid) is in
      (subst (λ z. row_at (table_of n cs rows) z ≡ Some (row_of r)) (sym same) (ap (option_map (λ ws. as_row (k, ws))) (got rows k s ∙ there) ∙ ap (λ w. Some w) (sym is)), subst (OnlyHas (table_of n cs rows) key (v.Int k)) (sym same) (only k))

  pub finds_none : (k : ℤ) → get int_cmp rows k ≡ None → Finds (table_of n cs rows) key (v.Int k) lookup.NoRow
  finds_none k none j vs g m = lost (sym none ∙ subst (λ z. get int_cmp rows z ≡ Some vs) (only k j vs g m) (sym (got rows j s) ∙ g))
    where
      lost : ◌≡◌ {A = Option (List Value)} None (Some vs) → ⊥
      lost q = absurd (cc)

  pub no_null : Finds (table_of n cs rows) key v.Null lookup.NoRow
  no_null j vs g m = lost (sym (has j vs g) ∙ m)
    where
      lost : v.Int j ≡ v.Null → ⊥
      lost q = absurd (cc)

  pub no_text : (t : List ℕ) → Finds (table_of n cs rows) key (v.Text t) lookup.NoRow
  no_text t j vs g m = lost (sym (has j vs g) ∙ m)
    where
      lost : v.Int j ≡ v.Text t → ⊥
      lost q = absurd (cc)

  pub no_blob : (b : List ℕ) → Finds (table_of n cs rows) key (v.Blob b) lookup.NoRow
  no_blob b j vs g m = lost (sym (has j vs g) ∙ m)
    where
      lost : v.Int j ≡ v.Blob b → ⊥
      lost q = absurd (cc)

is_equal : (o : Ordering) → is_eq o ≡ true → o ≡ Equal
is_equal Less t = absurd (cc)
is_equal Equal t = refl
is_equal Greater t = absurd (cc)

inside : {A : Type 0} (x y : A) → Some x ≡ Some y → x ≡ y
inside x y e = ap (λ o. unwrap_or o x) e

-- rows that are found by the integer at a place
module _ (n : List ℕ) (cs : List ColumnDef) (rows : Rows) (key : ℕ) (s : IsStrictlySortedBy int_cmp (keys rows)) (keyed : IsKeyed key rows) (place : ℕ) (holders : BTreeMap ℤ ℤ) (held : IsHeld place holders rows) where
  holds : (m j : ℤ) (vs : List Value) → fin.get (from_sorted {R = int_cmp} rows.entries) j ≡ Some vs → value_at (as_row (j, vs)) place ≡ v.Int m → get int_cmp holders m ≡ Some j
  holds m j vs g at = held j vs m (sym (got rows j s) ∙ g) at

  pub not_held : (m : ℤ) → get int_cmp holders m ≡ None → Finds (table_of n cs rows) place (v.Int m) lookup.NoRow
  not_held m none j vs g at = lost (sym none ∙ holds m j vs g at)
    where
      lost : ◌≡◌ {A = Option ℤ} None (Some j) → ⊥
      lost q = absurd (cc)

  at_key : (m k j : ℤ) (vs : List Value) → get int_cmp holders m ≡ Some k → fin.get (from_sorted {R = int_cmp} rows.entries) j ≡ Some vs → value_at (as_row (j, vs)) place ≡ v.Int m → value_at (as_row (j, vs)) key ≡ v.Int k
  at_key m k j vs e g at = has n cs rows key s keyed j vs g ∙ ap v.Int (inside j k (sym (holds m j vs g at) ∙ e))

  pub held_by : (m k : ℤ) (l : Lookup) → get int_cmp holders m ≡ Some k → Finds (table_of n cs rows) key (v.Int k) l → Finds (table_of n cs rows) place (v.Int m) l
  held_by m k lookup.Unknown e f = tt
  held_by m k lookup.NoRow e f = λ j vs g at. f j vs g (at_key m k j vs e g at)
  held_by m k (lookup.Row r) e f = (f.0, λ j vs g at. f.1 j vs g (at_key m k j vs e g at))

-- one more row
pub kept : (key : ℕ) (k : ℤ) (vs : List Value) (old new : Rows) → IsKeyed key old → value_at (as_row (k, vs)) key ≡ v.Int k → Updates int_cmp old new k (Some vs) → IsKeyed key new
kept key k vs old new h at u j ws g = by (is_eq (int_cmp k j)) refl (sym (u.0 j) ∙ g)
  where
    by : (b : Bool) → is_eq (int_cmp k j) ≡ b → cond b (Some vs) (get int_cmp old j) ≡ Some ws → value_at (as_row (j, ws)) key ≡ v.Int j
    by true e q = subst (λ z. value_at (as_row (z, ws)) key ≡ v.Int z) (int_cmp-IsAntisymmetric k j (is_equal _ e)) (subst (λ zs. value_at (as_row (k, zs)) key ≡ v.Int k) (inside vs ws q) at)
    by false e q = h j ws q

-- and one more that holds its integer
pub more_held : (place : ℕ) (m k : ℤ) (vs : List Value) (old new : BTreeMap ℤ ℤ) (rows more : Rows) → IsHeld place old rows → get int_cmp old m ≡ None → value_at (as_row (k, vs)) place ≡ v.Int m
    → ((q : ℤ) → get int_cmp new q ≡ cond (is_eq (int_cmp m q)) (Some k) (get int_cmp old q)) → IsAdded rows more k vs → IsHeld place new more
more_held place m k vs old new rows more held free at changed added j ws n g here = by (added j ws g)
  where
    lost : ◌≡◌ {A = Option ℤ} None (Some j) → ⊥
    lost q = absurd (cc)

    other : get int_cmp old n ≡ Some j → (b : Bool) → is_eq (int_cmp m n) ≡ b → cond b (Some k) (get int_cmp old n) ≡ Some j
    other e true t = absurd (lost (sym free ∙ ap (get int_cmp old) (int_cmp-IsAntisymmetric m n (is_equal _ t)) ∙ e))
    other e false t = e

    this : k ≡ j → m ≡ n → cond (is_eq (int_cmp m n)) (Some k) (get int_cmp old n) ≡ Some j
    this p q = ap (λ b. cond b (Some k) (get int_cmp old n)) (ap (λ z. is_eq (int_cmp z n)) q ∙ (eq_by_cmp_equiv int_cmp_total).refl n) ∙ ap (λ z. Some z) p

    by : (get int_cmp rows j ≡ Some ws) ⊎ ((k ≡ j) × (vs ≡ ws)) → get int_cmp new n ≡ Some j
    by (inl h) = changed n ∙ other (held j ws n h here) _ refl
    by (inr h) = changed n ∙ this h.0 (ap number (sym at ∙ ap (λ z. value_at (as_row (z, vs)) place) h.0 ∙ ap (λ zs. value_at (as_row (j, zs)) place) h.1 ∙ here))
