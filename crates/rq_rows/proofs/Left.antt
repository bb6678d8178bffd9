-- Entries that no row needs go.
use Rattle.std.proofs.Common.{◌≡◌, ℕ, ℤ, Bool, true, false, cond, List, Some, None, refl, sym, ap, subst, ◌∙◌, ◌<◌, ◌≤◌, arith, ◌⊎◌, inl, inr}
use Rattle.std.specs.Prelude.{slice_get, slice_set, is_some}
use Rattle.std.specs.FinMap as fin
use Rattle.rq_values.specs.declared.value.Value.{Value}
use Rattle.rq_grammar.specs.declared.stmt.ColumnDef.{ColumnDef}
use Rattle.rq_rows.specs.Rows.{Filled, is_same, is_unique}
use Rattle.rq_rows.specs.Holding.{held, same}
use Rattle.rq_rows.specs.Covering.{Held, Cover, Covers, probe_row}
use Rattle.rq_rows.proofs.Keys.{compared_itself}
use Rattle.rq_rows.proofs.Covered.{inside, clash, same_is, get_set, get_other, order}

-- the row that the entry gives hasn't the value
pub cover_less : (n : ℕ) (g h : Held) (rows : Filled) (v : Value) (k : ℤ) → Cover n g rows → held g v ≡ Some k → is_some (probe_row n v k (fin.get rows k)) ≡ false
    → ((q : Value) → held h q ≡ cond (same v q) None (held g q)) → Cover n h rows
cover_less n g h rows v k cover here unused less j row w at_j key = less w ∙ by (same v w) refl
  where
    used : v ≡ w → is_some (probe_row n v k (fin.get rows k)) ≡ true
    used e =
        let is_j : j ≡ k = inside j k (sym (cover j row w at_j key) ∙ ap (held g) (sym e) ∙ here) in
        ap (λ o. is_some (probe_row n v k o)) (ap (fin.get rows) (sym is_j) ∙ at_j)
        ∙ ap (λ b. is_some (cond b (Some k) None)) (ap (is_same v) (key ∙ ap Some (sym e)) ∙ compared_itself v)

    by : (b : Bool) → same v w ≡ b → cond b None (held g w) ≡ Some j
    by true t = clash _ (used (same_is v w t)) unused
    by false t = cover j row w at_j key

-- one map for another
pub covers_set : (cs : List ColumnDef) (hs : List Held) (rows : Filled) (i : ℕ) (c : ColumnDef) (h w : Held) → Covers cs hs rows → slice_get cs i ≡ Some c → slice_get hs i ≡ Some h
    → (is_unique c ≡ true → Cover i w rows) → Covers cs (slice_set hs i w) rows
covers_set cs hs rows i c h w old at_c at_h new n d x at_d at_x must = by (order n i) (order i n)
  where
    here : n ≡ i → Cover n x rows
    here e =
        let same_c : d ≡ c = inside d c (sym at_d ∙ subst (λ m. slice_get cs m ≡ Some c) (sym e) at_c) in
        let same_x : x ≡ w = get_set hs i h w x at_h (subst (λ m. slice_get (slice_set hs i w) m ≡ Some x) e at_x) in
        subst (λ m. Cover m x rows) (sym e) (subst (λ y. Cover i y rows) (sym same_x) (new (ap is_unique (sym same_c) ∙ must)))

    other : (n ≡ i → ⊥) → Cover n x rows
    other ne = old n d x at_d (sym (get_other hs i n w ne) ∙ at_x) must

    by : (n < i) ⊎ (i ≤ n) → (i < n) ⊎ (n ≤ i) → Cover n x rows
    by (inl a) z = other (λ e. omega arith)
    by (inr a) (inl b) = other (λ e. omega arith)
    by (inr a) (inr b) = here (omega arith)
