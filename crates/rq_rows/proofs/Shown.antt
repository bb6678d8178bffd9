-- A walk over the slots is the walk over the rows.
use Rattle.std.proofs.Common.{◌≡◌, ℤ, Bool, true, false, cond, T, List, [], ◌∷◌, Some, None, refl, sym, ap, subst, ◌∙◌}
use Rattle.std.specs.Prelude.{◌&&◌, map}
use Rattle.std.specs.declared.cmp.Ordering.TheVariants.{Less}
use Rattle.std.specs.Ordering.{int_cmp, eq_by_cmp, is_lt}
use Rattle.std.specs.Cmp.{int_cmp_total}
use Rattle.std.specs.Map.{lookup}
use Rattle.std.specs.BTreeMap.{is_at}
use Rattle.std.specs.FinMap.{same_map, int_cmp-IsAntisymmetric, get-from_sorted, entries-from_sorted, from_sorted}
use Rattle.std.specs.FinMap.Entries.{find, is_sorted, below_all}
use Rattle.std.specs.List.Sorted.{IsStrictlySortedBy}
use Rattle.std.specs.List.{AllByRecursion}
use Rattle.rq_rows.specs.Rows.{walk}
use Rattle.rq_rows.specs.Slots.{Slot, slots_of, joined, live, shown}
use Rattle.rq_rows.proofs.Live.{get_live, get_slots, same_key}
use Rattle.rq_rows.proofs.Walks.{find_below}

both : (a b : Bool) → T a → T b → T (a && b)
both true b p q = q
both false b p q = p

below : (k : ℤ) (es : List (ℤ × Slot)) → AllByRecursion (λ y. int_cmp k y ≡ Less) (map (λ e. e.0) es) → T (below_all int_cmp k (shown es))
below k [] a = tt
below k ((j, None) ∷ es) a = below k es a.1
below k ((j, Some row) ∷ es) a = both _ _ (subst (λ o. T (is_lt o)) (sym a.0) tt) (below k es a.1)

sorted_shown : (es : List (ℤ × Slot)) → IsStrictlySortedBy int_cmp (map (λ e. e.0) es) → T (is_sorted int_cmp (shown es))
unfolding IsStrictlySortedBy
sorted_shown [] s = tt
sorted_shown ((k, None) ∷ es) s = sorted_shown es s.1
sorted_shown ((k, Some row) ∷ es) s = both _ _ (below k es s.0) (sorted_shown es s.1)

find_shown : (es : List (ℤ × Slot)) (q : ℤ) → IsStrictlySortedBy int_cmp (map (λ e. e.0) es) → find int_cmp q (shown es) ≡ joined (lookup (is_at (int_cmp q)) es)
unfolding IsStrictlySortedBy
find_shown [] q s = refl
find_shown ((k, Some row) ∷ es) q s = by (eq_by_cmp int_cmp q k) (find_shown es q s.1)
  where
    by : (b : Bool) → find int_cmp q (shown es) ≡ joined (lookup (is_at (int_cmp q)) es) → cond b (Some row) (find int_cmp q (shown es)) ≡ joined (cond b (Some (Some row)) (lookup (is_at (int_cmp q)) es))
    by true h = refl
    by false h = h
find_shown ((k, None) ∷ es) q s = by (eq_by_cmp int_cmp q k) refl (find_shown es q s.1)
  where
    by : (b : Bool) → eq_by_cmp int_cmp q k ≡ b → find int_cmp q (shown es) ≡ joined (lookup (is_at (int_cmp q)) es) → find int_cmp q (shown es) ≡ joined (cond b (Some None) (lookup (is_at (int_cmp q)) es))
    by true t h = subst (λ x. find int_cmp x (shown es) ≡ None) (sym (same_key q k t)) (find_below k (shown es) (below k es s.0))
    by false t h = h

pub walk_live : (es : List (ℤ × Slot)) → IsStrictlySortedBy int_cmp (map (λ e. e.0) es) → walk (live (slots_of es)) ≡ shown es
walk_live es s =
    let ordered = sorted_shown es s in
    let same : live (slots_of es) ≡ from_sorted {R = int_cmp} (shown es) = same_map int_cmp_total int_cmp-IsAntisymmetric _ _ (λ q. get_live (slots_of es) q ∙ ap joined (get_slots es q) ∙ sym (find_shown es q s) ∙ sym (get-from_sorted int_cmp (shown es) q ordered)) in
    ap walk same ∙ entries-from_sorted int_cmp (shown es) ordered
