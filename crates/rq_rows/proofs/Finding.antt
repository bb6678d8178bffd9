-- What a look-up by value finds.
use Rattle.std.proofs.Common.{◌≡◌, ℕ, ℤ, Bool, true, false, List, [], ◌∷◌, Option, Some, None, refl, sym, ap, subst, ◌∙◌, zero, suc, ◌<◌, length, arith, get_or}
use Rattle.std.specs.Prelude.{if◌then◌else◌, slice_get, is_some}
use Rattle.std.specs.List.{list_any}
use Rattle.std.specs.FinMap as fin
use Rattle.rq_values.specs.declared.value.Value.{Value}
use Rattle.rq_grammar.specs.declared.stmt.ColumnDef.{ColumnDef}
use Rattle.rq_rows.specs.Holding.{held}
use Rattle.rq_rows.specs.Rows.{Filled, walk, has, is_same, key_of, is_unique}
use Rattle.rq_rows.specs.Covering.{Held, Cover, Covers, probe_row, probe, Finds}
use Rattle.rq_rows.proofs.Walks.{any_found, found_any}
use Rattle.rq_rows.proofs.Covered.{inside, clash, at_get}
use Rattle.rq_rows.proofs.Keys.{exact}

-- a row that has the value
key_is : (n : ℕ) (v : Value) (row : List Value) → is_same v (key_of n row) ≡ true → key_of n row ≡ Some v
key_is n v row t = by (key_of n row) t
  where
    by : (o : Option Value) → is_same v o ≡ true → o ≡ Some v
    by None e = absurd (cc)
    by (Some w) e = ap Some (sym (exact v w e))

only : (n : ℕ) (f : Held) (rows : Filled) (v : Value) (k : ℤ) → Cover n f rows → held f v ≡ Some k → (j : ℤ) (r : List Value) → fin.get rows j ≡ Some r → has n v (j, r) ≡ true → j ≡ k
only n f rows v k cover e j r g t = inside j k (sym (cover j r v g (key_is n v r t)) ∙ e)

none : (b : Bool) → (b ≡ true → ⊥) → b ≡ false
none true h = absurd (h refl)
none false h = refl

none_some : {P : Type 0} (k : ℤ) → ◌≡◌ {A = Option ℤ} None (Some k) → P
none_some k e = absurd (cc)

pub finds : (n : ℕ) (f : Held) (rows : Filled) (v : Value) → Cover n f rows → Finds n v rows (probe n v rows (held f v))
finds n f rows v cover = at_key (held f v) refl
  where
    at_row : (k : ℤ) → held f v ≡ Some k → (row : List Value) → fin.get rows k ≡ Some row → (b : Bool) → is_same v (key_of n row) ≡ b → Finds n v rows (if b then Some k else None)
    at_row k e row g true t = (row, g, t, only n f rows v k cover e)
    at_row k e row g false t = none _ (λ h. let p = any_found (has n v) rows h in
        let same : p.0 ≡ k = only n f rows v k cover e p.0 p.1 p.2 p.3 in
        let same_row : p.1 ≡ row = inside p.1 row (sym p.2 ∙ ap (fin.get rows) same ∙ g) in
        clash _ (ap (λ r. is_same v (key_of n r)) (sym same_row) ∙ p.3) t)

    at_slot : (k : ℤ) → held f v ≡ Some k → (o : Option (List Value)) → fin.get rows k ≡ o → Finds n v rows (probe_row n v k o)
    at_slot k e None g = none _ (λ h. let p = any_found (has n v) rows h in lost (sym g ∙ ap (fin.get rows) (sym (only n f rows v k cover e p.0 p.1 p.2 p.3)) ∙ p.2))
      where
        lost : {r : List Value} → ◌≡◌ {A = Option (List Value)} None (Some r) → ⊥
        lost q = absurd (cc)
    at_slot k e (Some row) g = at_row k e row g _ refl

    at_key : (o : Option ℤ) → held f v ≡ o → Finds n v rows (probe n v rows o)
    at_key None e = none _ (λ h. let p = any_found (has n v) rows h in none_some p.0 (sym e ∙ cover p.0 p.1 v p.2 (key_is n v p.1 p.3)))
    at_key (Some k) e = at_slot k e (fin.get rows k) refl

pub none_has : (n : ℕ) (v : Value) (rows : Filled) → Finds n v rows None → (j : ℤ) (r : List Value) → fin.get rows j ≡ Some r → has n v (j, r) ≡ false
none_has n v rows f j r g = none _ (λ t. clash _ (found_any (has n v) rows j r g t) f)

pub there_is : {A : Type 0} (xs : List A) (n : ℕ) → n < length xs → (x : A) × (slice_get xs n ≡ Some x)
there_is [] n lt = absurd (omega arith)
there_is (x ∷ xs) zero lt = (x, refl)
there_is (x ∷ xs) (suc n) lt = there_is xs n (omega arith)

pub taken_by : (n : ℕ) (v : Value) (rows : Filled) (o : Option ℤ) → Finds n v rows o → is_some o ≡ list_any (has n v) (walk rows)
taken_by n v rows None f = sym f
taken_by n v rows (Some k) f = sym (found_any (has n v) rows k f.0 f.1 f.2)

abbrev pub Holds : ℕ → Filled → Value → Option ℤ → Type 0
Holds n rows v o = (h : Held) × (Cover n h rows) × (o ≡ held h v)

pub by_map : (cs : List ColumnDef) (hs : List Held) (rows : Filled) (n : ℕ) (h : Held) (v : Value) (o : Option ℤ) → Covers cs hs rows → length hs ≡ length cs → n < length cs
    → h ≡ get_or hs n h → o ≡ held h v → (c : ColumnDef) → slice_get cs n ≡ Some c → is_unique c ≡ true → Holds n rows v o
by_map cs hs rows n h v o covers len lt at_h e c at_c must = (h, covers n c h at_c (at_get hs n h (subst (λ m. n < m) (sym len) lt) at_h) must, e)
