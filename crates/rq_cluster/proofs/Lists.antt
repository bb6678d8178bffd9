-- Prefixes of lists.
use Rattle.std.proofs.Common.{◌≡◌, ◌≢◌, ◌+◌, ℕ, zero, suc, List, [], ◌∷◌, ◌++◌, take, drop, get_or, length, nat_eq, true, false, refl, sym, ap, ◌∙◌, arith}
use Rattle.rq_script.specs.Lines.{drop_cr}

pub take_none : (n : ℕ) → take {A = ℕ} n [] ≡ []
take_none zero = refl
take_none (suc n) = refl

pub take_on : (g n : ℕ) (xs : List ℕ) → take g xs ++ take n (drop g xs) ≡ take (g + n) xs
take_on zero n xs = let e : n ≡ 0 + n = omega arith in ap (λ (m : ℕ). take m xs) e
take_on (suc g) n [] = take_none n ∙ sym (take_none (suc g + n))
take_on (suc g) n (x ∷ xs) = let e : suc (g + n) ≡ suc g + n = omega arith in ap (λ (l : List ℕ). x ∷ l) (take_on g n xs) ∙ ap (λ (m : ℕ). take m (x ∷ xs)) e

-- a CR at the end is dropped
pub cr_gone : (line : List ℕ) (n : ℕ) → length line ≡ suc n → get_or line n 0 ≡ 13 → take n line ≡ drop_cr line
cr_gone [] n len is = absurd (omega (arith, len))
cr_gone (x ∷ []) zero len is = let e : nat_eq x 13 ≡ true = grind arith in rw e refl
cr_gone (x ∷ []) (suc n) len is = absurd (omega (arith, len))
cr_gone (x ∷ y ∷ xs) zero len is = absurd (omega (arith, len))
cr_gone (x ∷ y ∷ xs) (suc n) len is = ap (λ (l : List ℕ). x ∷ l) (cr_gone (y ∷ xs) n (omega (arith, len)) is)

pub cr_kept : (line : List ℕ) (n : ℕ) → length line ≡ suc n → get_or line n 0 ≢ 13 → line ≡ drop_cr line
cr_kept [] n len is = refl
cr_kept (x ∷ []) zero len is = let e : nat_eq x 13 ≡ false = grind arith in rw e refl
cr_kept (x ∷ []) (suc n) len is = absurd (omega (arith, len))
cr_kept (x ∷ y ∷ xs) zero len is = absurd (omega (arith, len))
cr_kept (x ∷ y ∷ xs) (suc n) len is = ap (λ (l : List ℕ). x ∷ l) (cr_kept (y ∷ xs) n (omega (arith, len)) is)
