-- One step of a loop over a list.
use Rattle.std.proofs.Common.{◌≡◌, ℕ, suc, ◌+◌, ◌<◌, Bool, if◌then◌else◌, List, [], ◌∷◌, ◌++◌, map, length, drop, get_or, add-one, drop-cons, append_assoc, Ok, sym, ap, ◌∙◌}
use Rattle.rq_eval.specs.Names.{Row}
use Rattle.rq_eval.specs.Outcome.{Outcome, then_with, all_behind}
use Rattle.rq_select.specs.Select.{Test, filtered}

-- what is left begins with the item at that place
rest : {A : Type 0} (xs : List A) (i : ℕ) (x : A) → i < length xs → x ≡ get_or xs i x → drop i xs ≡ x ∷ drop (i + 1) xs
rest xs i x lt is = drop-cons xs i x lt ∙ ap (λ y. y ∷ drop (suc i) xs) (sym is) ∙ ap (λ n. x ∷ drop n xs) (sym (add-one i))

pub all_next : {A B C : Type 0} (g : A → B) (f : B → Outcome C) (there : List C) (xs : List A) (i : ℕ) (x : A) (c : C) → i < length xs → x ≡ get_or xs i x → f (g x) ≡ Ok c
    → all_behind (there ++ c ∷ []) (map f (map g (drop (i + 1) xs))) ≡ all_behind there (map f (map g (drop i xs)))
all_next g f there xs i x c lt is h =
    sym
    (ap (λ ys. all_behind there (map f (map g ys))) (rest xs i x lt is)
    ∙ ap (λ o. then_with o (λ v. all_behind (there ++ v ∷ []) (map f (map g (drop (i + 1) xs))))) h)

pub map_next : {A B C : Type 0} (g : A → B) (f : B → C) (there : List C) (xs : List A) (i : ℕ) (x : A) (c : C) → i < length xs → x ≡ get_or xs i x → c ≡ f (g x)
    → (there ++ c ∷ []) ++ map f (map g (drop (i + 1) xs)) ≡ there ++ map f (map g (drop i xs))
map_next g f there xs i x c lt is h =
    append_assoc there (c ∷ []) (map f (map g (drop (i + 1) xs)))
    ∙ ap (λ y. there ++ y ∷ map f (map g (drop (i + 1) xs))) h
    ∙ ap (λ ys. there ++ map f (map g ys)) (sym (rest xs i x lt is))

pub filtered_next : {A : Type 0} (g : A → Row) (p : Test) (there : List Row) (xs : List A) (i : ℕ) (x : A) (b : Bool) → i < length xs → x ≡ get_or xs i x → p (g x) ≡ Ok b
    → filtered p (if b then there ++ g x ∷ [] else there) (map g (drop (i + 1) xs)) ≡ filtered p there (map g (drop i xs))
filtered_next g p there xs i x b lt is h =
    sym
    (ap (λ ys. filtered p there (map g ys)) (rest xs i x lt is)
    ∙ ap (λ o. then_with o (λ b. filtered p (if b then there ++ g x ∷ [] else there) (map g (drop (i + 1) xs)))) h)

pub each_next : {A C : Type 0} (f : A → Outcome C) (there : List C) (xs : List A) (i : ℕ) (x : A) (c : C) → i < length xs → x ≡ get_or xs i x → f x ≡ Ok c
    → all_behind (there ++ c ∷ []) (map f (drop (i + 1) xs)) ≡ all_behind there (map f (drop i xs))
each_next f there xs i x c lt is h =
    sym
    (ap (λ ys. all_behind there (map f ys)) (rest xs i x lt is)
    ∙ ap (λ o. then_with o (λ v. all_behind (there ++ v ∷ []) (map f (drop (i + 1) xs)))) h)
