-- Look-ups, and walks over all rows.
use Rattle.std.proofs.Common.{◌≡◌, ℤ, Bool, true, false, cond, T, List, [], ◌∷◌, Option, Some, None, refl, sym, ap, subst, ◌∙◌}
use Rattle.std.specs.Prelude.{◌||◌, ◌&&◌}
use Rattle.std.specs.List.{list_any}
use Rattle.std.specs.declared.cmp.Ordering.{Ordering}
use Rattle.std.specs.declared.cmp.Ordering.TheVariants.{Less, Equal, Greater}
use Rattle.std.specs.Ordering.{int_cmp, eq_by_cmp, is_eq, is_lt}
use Rattle.std.specs.Cmp.{int_cmp_total, eq_by_cmp_equiv}
use Rattle.std.specs.FinMap as fin
use Rattle.std.specs.FinMap.Entries.{find, is_sorted, below_all}
use Rattle.rq_values.specs.declared.value.Value.{Value}
use Rattle.rq_rows.specs.Rows.{Filled, Row, walk}
use Rattle.rq_rows.proofs.Live.{same_key}

absent : (b : Bool) (x : List Value) (o : Option (List Value)) → b ≡ false → cond b (Some x) o ≡ o
absent true x o e = absurd (cc)
absent false x o e = refl

pub left : (a b : Bool) → T (a && b) → T a
left true b p = tt
left false b p = p

pub right : (a b : Bool) → T (a && b) → T b
right true b p = p
right false b p = absurd p

not_equal : (o : Ordering) → T (is_lt o) → is_eq o ≡ false
not_equal Less p = refl
not_equal Equal p = absurd p
not_equal Greater p = absurd p

-- below all keys there is none
pub find_below : (x : ℤ) (es : List Row) → T (below_all int_cmp x es) → find int_cmp x es ≡ None
find_below x [] h = refl
find_below x (e ∷ es) h = absent _ e.1 _ (not_equal _ (left _ _ h)) ∙ find_below x es (right _ _ h)

found_in : (p : Row → Bool) (es : List Row) (j : ℤ) (r : List Value) → find int_cmp j es ≡ Some r → p (j, r) ≡ true → list_any p es ≡ true
found_in p [] j r e t = absurd (cc)
found_in p (x ∷ es) j r e t = by (found_in p es j r) (eq_by_cmp int_cmp j x.0) refl e
  where
    here : j ≡ x.0 → x.1 ≡ r → (p x || list_any p es) ≡ true
    here a b = ap (λ y. y || list_any p es) (ap p (ap (λ z. (z, x.1)) (sym a) ∙ ap (λ z. (j, z)) b) ∙ t)

    later : (b : Bool) → list_any p es ≡ true → (b || list_any p es) ≡ true
    later true h = refl
    later false h = h

    by : (find int_cmp j es ≡ Some r → p (j, r) ≡ true → list_any p es ≡ true) → (b : Bool) → eq_by_cmp int_cmp j x.0 ≡ b → cond b (Some x.1) (find int_cmp j es) ≡ Some r → (p x || list_any p es) ≡ true
    by ih true a f = here (same_key j x.0 a) (cc)
    by ih false a f = later (p x) (ih f t)

pub itself : (x : Row) (es : List Row) → find int_cmp x.0 (x ∷ es) ≡ Some x.1
itself x es = ap (λ y. cond y (Some x.1) (find int_cmp x.0 es)) ((eq_by_cmp_equiv int_cmp_total).refl x.0)

-- what is found behind the first is found in all
pub past : (x : Row) (es : List Row) → T (is_sorted int_cmp (x ∷ es)) → (j : ℤ) (r : List Value) → find int_cmp j es ≡ Some r → find int_cmp j (x ∷ es) ≡ Some r
past x es s j r f = by (eq_by_cmp int_cmp j x.0) refl
  where
    none_some : ◌≡◌ {A = Option (List Value)} None (Some r) → ⊥
    none_some q = absurd (cc)

    by : (b : Bool) → eq_by_cmp int_cmp j x.0 ≡ b → cond b (Some x.1) (find int_cmp j es) ≡ Some r
    by true e = absurd (none_some (sym (find_below x.0 es (left _ _ s)) ∙ subst (λ z. find int_cmp z es ≡ Some r) (same_key j x.0 e) f))
    by false e = f

any_in : (p : Row → Bool) (es : List Row) → T (is_sorted int_cmp es) → list_any p es ≡ true → (j : ℤ) × (r : List Value) × (find int_cmp j es ≡ Some r) × (p (j, r) ≡ true)
any_in p [] s h = absurd (cc)
any_in p (x ∷ es) s h = by (any_in p es (right _ _ s)) (p x) refl h
  where
    by : (list_any p es ≡ true → (j : ℤ) × (r : List Value) × (find int_cmp j es ≡ Some r) × (p (j, r) ≡ true)) → (b : Bool) → p x ≡ b → (b || list_any p es) ≡ true → (j : ℤ) × (r : List Value) × (find int_cmp j (x ∷ es) ≡ Some r) × (p (j, r) ≡ true)
    by ih true e t = (x.0, x.1, itself x es, e)
    by ih false e t = let f = ih t in (f.0, f.1, past x es s f.0 f.1 f.2, f.3)

pub found_any : (p : Row → Bool) (m : Filled) (j : ℤ) (r : List Value) → fin.get m j ≡ Some r → p (j, r) ≡ true → list_any p (walk m) ≡ true
found_any p m j r e t = found_in p (walk m) j r (sym (fin.get-entries m j) ∙ e) t

pub any_found : (p : Row → Bool) (m : Filled) → list_any p (walk m) ≡ true → (j : ℤ) × (r : List Value) × (fin.get m j ≡ Some r) × (p (j, r) ≡ true)
any_found p m h = let f = any_in p (walk m) (fin.entries_sorted m) h in (f.0, f.1, fin.get-entries m f.0 ∙ f.2, f.3)
