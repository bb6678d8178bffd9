-- A map's entries are those of the finite map that it stands for.
use Rattle.std.proofs.Common.{◌≡◌, ℤ, Bool, true, false, T, List, [], ◌∷◌, map, sym, subst}
use Rattle.std.specs.Prelude.{◌&&◌}
use Rattle.std.specs.declared.cmp.Ordering.TheVariants.{Less}
use Rattle.std.specs.Ordering.{int_cmp, is_lt}
use Rattle.std.specs.FinMap as fin
use Rattle.std.specs.FinMap.{entries-from_sorted, from_sorted}
use Rattle.std.specs.FinMap.Entries.{is_sorted, below_all}
use Rattle.std.specs.List.Sorted.{IsStrictlySortedBy}
use Rattle.std.specs.List.{AllByRecursion}
use Rattle.rq_values.specs.declared.value.Value.{Value}

both : (a b : Bool) → T a → T b → T (a && b)
both true b p q = q
both false b p q = p

below : (k : ℤ) (es : List (ℤ × List Value)) → AllByRecursion (λ y. int_cmp k y ≡ Less) (map (λ e. e.0) es) → T (below_all int_cmp k es)
below k [] a = tt
below k (e ∷ es) a = both _ _ (subst (λ o. T (is_lt o)) (sym a.0) tt) (below k es a.1)

pub sorted : (es : List (ℤ × List Value)) → IsStrictlySortedBy int_cmp (map (λ e. e.0) es) → T (is_sorted int_cmp es)
unfolding IsStrictlySortedBy
sorted [] s = tt
sorted (e ∷ es) s = both _ _ (below e.0 es s.0) (sorted es s.1)

pub entries_are : (es : List (ℤ × List Value)) → IsStrictlySortedBy int_cmp (map (λ e. e.0) es) → fin.entries (from_sorted {R = int_cmp} es) ≡ es
entries_are es s = entries-from_sorted int_cmp es (sorted es s)
