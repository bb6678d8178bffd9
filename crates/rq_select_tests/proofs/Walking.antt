-- A walk over the first rows of a map.
use Rattle.std.proofs.Common.{◌≡◌, ℕ, ℤ, zero, suc, ◌-◌, List, [], ◌∷◌, ◌++◌, map, take, length, Result, Ok, Err, refl, sym, ap, ◌∙◌}
use Rattle.std.specs.Prelude.{IfOk, Vec}
use Rattle.std.proofs.lemmas.List.{append-nil, append_assoc, map-append, take-map}
use native.Mathlib.Omega.{arith}
use Rattle.rq_values.specs.declared.value.Value.{Value}
use Rattle.rq_eval.specs.declared.row.RowView.{RowView}
use Rattle.rq_eval.specs.Names.{Row, row_of}
use Rattle.rq_results.specs.Table.{as_row}

abbrev Entries : Type 0
Entries = List (ℤ × List Value)

pub next_row : (items : List RowView) (r : RowView) (left : ℕ) (x : ℤ × List Value) (t u : Entries) (all : List Row) → (left ≡ 0 → ⊥) → t ≡ x ∷ u → row_of r ≡ as_row x
    → map row_of items ++ take left (map as_row t) ≡ all → (new : List RowView) → new ≡ items ++ r ∷ [] → map row_of new ++ take (left - 1) (map as_row u) ≡ all
next_row items r zero x t u all h is same inv new pushed = absurd (h refl)
next_row items r (suc n) x t u all h is same inv new pushed =
    let e : suc n - 1 ≡ n = omega arith in
    ap (λ (zs : List RowView). map row_of zs ++ take (suc n - 1) (map as_row u)) pushed
    ∙ ap (λ (k : ℕ). map row_of (items ++ r ∷ []) ++ take k (map as_row u)) e
    ∙ ap (λ (zs : List Row). zs ++ take n (map as_row u)) (map-append row_of items (r ∷ []))
    ∙ append_assoc (map row_of items) (row_of r ∷ []) (take n (map as_row u))
    ∙ ap (λ (w : Row). map row_of items ++ w ∷ take n (map as_row u)) same
    ∙ sym (ap (λ (zs : Entries). map row_of items ++ take (suc n) (map as_row zs)) is)
    ∙ inv

pub stop_row : (left : ℕ) → left ≡ 0 → (xs ys all : List Row) → xs ++ take left ys ≡ all → xs ≡ all
stop_row left h xs ys all inv = sym (append-nil xs) ∙ sym (ap (λ (k : ℕ). xs ++ take k ys) h) ∙ inv

take_none : (n : ℕ) → take n (map as_row []) ≡ []
take_none zero = refl
take_none (suc n) = refl

pub end_row : (left : ℕ) (xs : List Row) (t : Entries) (all : List Row) → t ≡ [] → xs ++ take left (map as_row t) ≡ all → xs ≡ all
end_row left xs t all is inv =
    sym (append-nil xs) ∙ sym (ap (λ (zs : List Row). xs ++ zs) (ap (λ (ts : Entries). take left (map as_row ts)) is ∙ take_none left)) ∙ inv

take_whole : (es : Entries) → take (length es) es ≡ es
take_whole [] = refl
take_whole (x ∷ es) = ap (λ (zs : Entries). x ∷ zs) (take_whole es)

pub all_rows : (n : ℕ) (es : Entries) → n ≡ length es → take n (map as_row es) ≡ map as_row es
all_rows n es e = ap (λ (k : ℕ). take k (map as_row es)) e ∙ take-map as_row (length es) es ∙ ap (map as_row) (take_whole es)

pub if_rows : {E Z : Type 0} (r : Result (Vec RowView Z) E) (xs ys : List Row) → xs ≡ ys → IfOk r (λ rows. map row_of rows.items ≡ xs) → IfOk r (λ rows. map row_of rows.items ≡ ys)
if_rows (Ok rows) xs ys e h = h ∙ e
if_rows (Err x) xs ys e h = h
