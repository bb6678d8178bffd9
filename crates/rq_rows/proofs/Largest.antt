-- The largest rowid, from the back.
use Rattle.std.proofs.Common.{◌≡◌, ℤ, true, false, List, [], ◌∷◌, ◌++◌, Some, None, refl, sym, ap, ◌∙◌}
use Rattle.std.specs.Prelude.{unwrap_or, is_some}
use Rattle.rq_values.specs.declared.value.Value.{Value}
use Rattle.rq_rows.specs.Rows.{Row, largest}
use Rattle.rq_rows.specs.Slots.{Slot, shown}

shown_last : (xs : List (ℤ × Slot)) (k : ℤ) (r : List Value) → shown (xs ++ (k, Some r) ∷ []) ≡ shown xs ++ (k, r) ∷ []
shown_last [] k r = refl
shown_last ((j, None) ∷ xs) k r = shown_last xs k r
shown_last ((j, Some s) ∷ xs) k r = ap (λ ys. (j, s) ∷ ys) (shown_last xs k r)

shown_none : (xs : List (ℤ × Slot)) (k : ℤ) → shown (xs ++ (k, None) ∷ []) ≡ shown xs
shown_none [] k = refl
shown_none ((j, None) ∷ xs) k = shown_none xs k
shown_none ((j, Some s) ∷ xs) k = ap (λ ys. (j, s) ∷ ys) (shown_none xs k)

largest_last : (xs : List Row) (k : ℤ) (r : List Value) → largest (xs ++ (k, r) ∷ []) ≡ Some k
largest_last [] k r = refl
largest_last (x ∷ xs) k r = ap (λ o. Some (unwrap_or o x.0)) (largest_last xs k r)

pub here_largest : (es xs : List (ℤ × Slot)) (k : ℤ) (o : Slot) → es ≡ xs ++ (k, o) ∷ [] → is_some o ≡ true → Some k ≡ largest (shown es)
here_largest es xs k None e t = absurd (cc)
here_largest es xs k (Some r) e t = sym (ap (λ ys. largest (shown ys)) e ∙ ap largest (shown_last xs k r) ∙ largest_last (shown xs) k r)

pub not_here : (es xs : List (ℤ × Slot)) (k : ℤ) (o : Slot) → es ≡ xs ++ (k, o) ∷ [] → is_some o ≡ false → shown xs ≡ shown es
not_here es xs k None e t = sym (ap shown e ∙ shown_none xs k)
not_here es xs k (Some r) e t = absurd (cc)
