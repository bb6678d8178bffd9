-- Pieces added one after the other are their whole, added.
use Rattle.std.proofs.Common.{◌≡◌, ℕ, List, ◌++◌, ap, ◌∙◌, append_assoc}

pub added_three : (a b c w x y : List ℕ) → b ≡ a ++ w → c ≡ b ++ x → c ++ y ≡ a ++ (w ++ x ++ y)
added_three a b c w x y e f = ap (λ (t : List ℕ). t ++ y) (f ∙ ap (λ (t : List ℕ). t ++ x) e) ∙ simp append_assoc

pub added_four : (a b c d w x y z : List ℕ) → b ≡ a ++ w → c ≡ b ++ x → d ≡ c ++ y → d ++ z ≡ a ++ (w ++ x ++ y ++ z)
added_four a b c d w x y z e f g =
    ap (λ (t : List ℕ). t ++ z) (g ∙ ap (λ (t : List ℕ). t ++ y) (f ∙ ap (λ (t : List ℕ). t ++ x) e)) ∙ simp append_assoc

-- where the first two come together
pub added_to_pair : (a b w x y : List ℕ) → b ≡ a ++ (w ++ x) → b ++ y ≡ a ++ (w ++ x ++ y)
added_to_pair a b w x y e = ap (λ (t : List ℕ). t ++ y) e ∙ simp append_assoc

pub added_two_to_pair : (a b c w x y z : List ℕ) → b ≡ a ++ (w ++ x) → c ≡ b ++ y → c ++ z ≡ a ++ (w ++ x ++ y ++ z)
added_two_to_pair a b c w x y z e f = ap (λ (t : List ℕ). t ++ z) (f ∙ ap (λ (t : List ℕ). t ++ y) e) ∙ simp append_assoc
