-- A walk over all rows leaves what a look-up leaves.
use Rattle.std.proofs.Common.{◌≡◌, ℕ, ℤ, Bool, true, false, cond, T, List, [], ◌∷◌, ◌++◌, map, Option, Some, None, Ok, refl, sym, ap, subst, ◌∙◌}
use Rattle.std.specs.Prelude.{if◌then◌else◌, ◌&&◌, unwrap_or}
use Rattle.std.specs.Option.{option_map}
use Rattle.std.specs.declared.cmp.Ordering.{Ordering}
use Rattle.std.specs.declared.cmp.Ordering.TheVariants.{Less, Equal, Greater}
use Rattle.std.specs.Ordering.{int_cmp, eq_by_cmp, is_eq, is_lt}
use Rattle.std.specs.Cmp.{int_cmp_total, eq_by_cmp_equiv}
use Rattle.std.specs.FinMap as fin
use Rattle.std.specs.FinMap.{int_cmp-IsAntisymmetric}
use Rattle.std.specs.FinMap.Entries.{find, is_sorted, below_all}
use Rattle.rq_values.specs.declared.value.Value.{Value}
use Rattle.rq_eval.specs.Outcome.{Outcome, then_with}
use Rattle.rq_eval.specs.Names.{Row}
use Rattle.rq_results.specs.Table.{Table, as_row, rows_of, row_at}
use Rattle.rq_select.specs.Select.{filtered}
use Rattle.rq_select.specs.Keys.{Fine, OnlyAt, or_none}

abbrev Entries : Type 0
Entries = List (ℤ × List Value)

is_equal : (o : Ordering) → is_eq o ≡ true → o ≡ Equal
is_equal Less t = absurd (cc)
is_equal Equal t = refl
is_equal Greater t = absurd (cc)

same_key : (q k : ℤ) → eq_by_cmp int_cmp q k ≡ true → q ≡ k
same_key q k t = int_cmp-IsAntisymmetric q k (is_equal _ t)

inside : {A : Type 0} (x y : A) → Some x ≡ Some y → x ≡ y
inside x y e = ap (λ o. unwrap_or o x) e

clash : {P : Type 0} (b : Bool) → b ≡ true → b ≡ false → P
clash true a e = absurd (cc)
clash false a e = absurd (cc)

absent : (b : Bool) (x : List Value) (o : Option (List Value)) → b ≡ false → cond b (Some x) o ≡ o
absent true x o e = absurd (cc)
absent false x o e = refl

pub left : (a b : Bool) → T (a && b) → T a
left true b p = tt
left false b p = p

pub right : (a b : Bool) → T (a && b) → T b
right true b p = p
right false b p = absurd p

not_equal : (o : Ordering) → T (is_lt o) → is_eq o ≡ false
not_equal Less p = refl
not_equal Equal p = absurd p
not_equal Greater p = absurd p

find_below : (x : ℤ) (es : Entries) → T (below_all int_cmp x es) → find int_cmp x es ≡ None
find_below x [] h = refl
find_below x (e ∷ es) h = absent _ e.1 _ (not_equal _ (left _ _ h)) ∙ find_below x es (right _ _ h)

itself : (x : ℤ × List Value) (es : Entries) → find int_cmp x.0 (x ∷ es) ≡ Some x.1
itself x es = ap (λ y. cond y (Some x.1) (find int_cmp x.0 es)) ((eq_by_cmp_equiv int_cmp_total).refl x.0)

past : (x : ℤ × List Value) (es : Entries) → T (is_sorted int_cmp (x ∷ es)) → (j : ℤ) (r : List Value) → find int_cmp j es ≡ Some r → find int_cmp j (x ∷ es) ≡ Some r
past x es s j r f = by (eq_by_cmp int_cmp j x.0) refl
  where
    none_some : ◌≡◌ {A = Option (List Value)} None (Some r) → ⊥
    none_some q = absurd (cc)

    by : (b : Bool) → eq_by_cmp int_cmp j x.0 ≡ b → cond b (Some x.1) (find int_cmp j es) ≡ Some r
    by true e = absurd (none_some (sym (find_below x.0 es (left _ _ s)) ∙ subst (λ z. find int_cmp z es ≡ Some r) (same_key j x.0 e) f))
    by false e = f

module _ (p : Row → Outcome Bool) where
  abbrev Every : (ℤ → List Value → Type 0) → Entries → Type 0
  Every Q [] = Unit {0}
  Every Q (x ∷ es) = Q x.0 x.1 × Every Q es

  every : (Q : ℤ → List Value → Type 0) (es : Entries) → T (is_sorted int_cmp es) → ((j : ℤ) (r : List Value) → find int_cmp j es ≡ Some r → Q j r) → Every Q es
  every Q [] s h = tt
  every Q (x ∷ es) s h = (h x.0 x.1 (itself x es), every Q es (right _ _ s) (λ j r e. h j r (past x es s j r e)))

  of_every : (Q : ℤ → List Value → Type 0) (es : Entries) → Every Q es → (j : ℤ) (r : List Value) → find int_cmp j es ≡ Some r → Q j r
  of_every Q [] h j r f = absurd (cc)
  of_every Q (y ∷ xs) h j r f = at (of_every Q xs h.1 j r) (eq_by_cmp int_cmp j y.0) refl f
    where
      at : (find int_cmp j xs ≡ Some r → Q j r) → (b : Bool) → eq_by_cmp int_cmp j y.0 ≡ b → cond b (Some y.1) (find int_cmp j xs) ≡ Some r → Q j r
      at ih true g q = subst (λ z. Q z r) (sym (same_key j y.0 g)) (subst (Q y.0) (inside y.1 r q) h.0)
      at ih false g q = ih q

  -- none passes
  none_left : (es : Entries) (ks : List Row) → Every (λ j r. p (as_row (j, r)) ≡ Ok false) es → filtered p ks (map as_row es) ≡ Ok ks
  none_left [] ks h = refl
  none_left (x ∷ es) ks h = ap (λ o. then_with o (λ b. filtered p (if b then ks ++ as_row x ∷ [] else ks) (map as_row es))) h.0 ∙ none_left es ks h.1

  fails : (r : Row) → Fine p → (p r ≡ Ok true → ⊥) → p r ≡ Ok false
  fails r fine no_way = by (fine r).0 (fine r).1
    where
      by : (b : Bool) → p r ≡ Ok b → p r ≡ Ok false
      by true e = absurd (no_way e)
      by false e = e

  abbrev shown_at : ℤ → Option (List Value) → List Row
  shown_at k o = or_none (option_map (λ vs. as_row (k, vs)) o)

  -- all that pass have one rowid
  one_left : (es : Entries) (k : ℤ) → T (is_sorted int_cmp es) → Fine p → Every (λ j r. p (as_row (j, r)) ≡ Ok true → j ≡ k) es → filtered p [] (map as_row es) ≡ filtered p [] (shown_at k (find int_cmp k es))
  one_left [] k s fine h = refl
  one_left (x ∷ es) k s fine h = by (eq_by_cmp int_cmp k x.0) refl (one_left es k (right _ _ s) fine h.1)
    where
      rest_fails : k ≡ x.0 → Every (λ j r. p (as_row (j, r)) ≡ Ok false) es
      rest_fails e = every (λ (j : ℤ) (r : List Value). p (as_row (j, r)) ≡ Ok false) es (right (below_all int_cmp x.0 es) (is_sorted int_cmp es) s) (λ (j : ℤ) (r : List Value) f. fails (as_row (j, r)) fine (λ t. lost (sym (find_below x.0 es (left (below_all int_cmp x.0 es) (is_sorted int_cmp es) s)) ∙ subst (λ z. find int_cmp z es ≡ Some r) (of_every (λ j r. p (as_row (j, r)) ≡ Ok true → j ≡ k) es h.1 j r f t ∙ e) f)))
        where
          lost : {r : List Value} → ◌≡◌ {A = Option (List Value)} None (Some r) → ⊥
          lost q = absurd (cc)

      step : (b : Bool) → p (as_row x) ≡ Ok b → Every (λ j r. p (as_row (j, r)) ≡ Ok false) es → filtered p (if b then as_row x ∷ [] else []) (map as_row es) ≡ Ok (if b then as_row x ∷ [] else [])
      step true e f = none_left es (as_row x ∷ []) f
      step false e f = none_left es [] f

      by : (b : Bool) → eq_by_cmp int_cmp k x.0 ≡ b → filtered p [] (map as_row es) ≡ filtered p [] (shown_at k (find int_cmp k es)) → filtered p [] (map as_row (x ∷ es)) ≡ filtered p [] (shown_at k (cond b (Some x.1) (find int_cmp k es)))
      by true e ih =
          let g = same_key k x.0 e in
          let b = fine (as_row x) in
          ap (λ o. then_with o (λ b. filtered p (if b then as_row x ∷ [] else []) (map as_row es))) b.1 ∙ step b.0 b.1 (rest_fails g)
          ∙ sym (ap (λ z. filtered p [] (as_row (z, x.1) ∷ [])) g ∙ ap (λ o. then_with o (λ b. Ok (if b then as_row x ∷ [] else []))) b.1)
      by false e ih =
          let no_way = fails (as_row x) fine (λ t. clash _ (ap (λ z. eq_by_cmp int_cmp k z) (h.0 t) ∙ self k) e) in
          ap (λ o. then_with o (λ b. filtered p (if b then as_row x ∷ [] else []) (map as_row es))) no_way ∙ ih
        where
          self : (k : ℤ) → eq_by_cmp int_cmp k k ≡ true
          self k = (eq_by_cmp_equiv int_cmp_total).refl k

  pub looked_up : (t : Table) (k : ℤ) → Fine p → OnlyAt p t k → filtered p [] (rows_of t) ≡ filtered p [] (or_none (row_at t k))
  looked_up t k fine only =
      one_left (fin.entries t.rows) k (fin.entries_sorted t.rows) fine (every (λ j r. p (as_row (j, r)) ≡ Ok true → j ≡ k) (fin.entries t.rows) (fin.entries_sorted t.rows) (λ j r f e. only j r (fin.get-entries t.rows j ∙ f) e))
      ∙ ap (λ o. filtered p [] (shown_at k o)) (sym (fin.get-entries t.rows k))

  pub none_found : (t : Table) → Fine p → ((j : ℤ) (vs : List Value) → fin.get t.rows j ≡ Some vs → p (as_row (j, vs)) ≡ Ok true → ⊥) → filtered p [] (rows_of t) ≡ Ok []
  none_found t fine none = none_left (fin.entries t.rows) [] (every (λ j r. p (as_row (j, r)) ≡ Ok false) (fin.entries t.rows) (fin.entries_sorted t.rows) (λ j r f. fails (as_row (j, r)) fine (none j r (fin.get-entries t.rows j ∙ f))))
