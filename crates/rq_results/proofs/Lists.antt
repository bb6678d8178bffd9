-- Lists as loops make them.
use Rattle.std.proofs.Common.{◌≡◌, ℕ, suc, ◌+◌, ◌<◌, List, [], ◌∷◌, ◌++◌, map, length, drop, get_or, ap, sym, add-one, drop-cons, append_assoc, ◌∙◌}
use Rattle.rq_results.specs.Results.{columns_before, column}

pub columns_next : (i : ℕ) → columns_before (i + 1) ≡ columns_before i ++ column i ∷ []
columns_next i = ap columns_before (add-one i)

-- what is left begins with the item at that place
pub rest : {A : Type 0} (xs : List A) (i : ℕ) (x : A) → i < length xs → x ≡ get_or xs i x → drop i xs ≡ x ∷ drop (i + 1) xs
rest xs i x lt is = drop-cons xs i x lt ∙ ap (λ y. y ∷ drop (suc i) xs) (sym is) ∙ ap (λ n. x ∷ drop n xs) (sym (add-one i))

pub map_next : {A B C : Type 0} (g : A → B) (f : B → C) (there : List C) (xs : List A) (i : ℕ) (x : A) (c : C) → i < length xs → x ≡ get_or xs i x → c ≡ f (g x)
    → (there ++ c ∷ []) ++ map f (map g (drop (i + 1) xs)) ≡ there ++ map f (map g (drop i xs))
map_next g f there xs i x c lt is h =
    append_assoc there (c ∷ []) (map f (map g (drop (i + 1) xs)))
    ∙ ap (λ y. there ++ y ∷ map f (map g (drop (i + 1) xs))) h
    ∙ ap (λ ys. there ++ map f (map g ys)) (sym (rest xs i x lt is))
