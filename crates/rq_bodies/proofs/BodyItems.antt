-- How many items a list has, and that only one item can be the one object.
use Rattle.std.proofs.Common.{◌≡◌, suc, List, [], ◌∷◌, length, refl, ap, None}
use Rattle.serde_json.specs.View.{items_view}
use Rattle.serde_json.specs.declared.value.Value.{Value}
use Rattle.rq_bodies.specs.Body.{count, only_object}

pub count_items_view : (values : List Value) → count (items_view values) ≡ length values
count_items_view [] = refl
count_items_view (value ∷ values) = ap suc (count_items_view values)

pub not_one : (values : List Value) → (length values ≡ 1 → ⊥) → only_object (items_view values) ≡ None
not_one [] h = refl
not_one (value ∷ []) h = absurd (h refl)
not_one (value ∷ next ∷ values) h = refl
