-- Texts that are put together from pieces.
use Rattle.std.proofs.Common.{◌≡◌, ℕ, List, ◌++◌, Result, Ok, Err, ap, ◌∙◌, append_assoc}
use Rattle.std.specs.Prelude.{OnOk}

same_put : {A E : Type 0} (r : Result A E) (x y z : List ℕ) → y ≡ z → OnOk r (x ≡ y) → OnOk r (x ≡ z)
same_put (Ok v) x y z e h = h ∙ e
same_put (Err b) x y z e h = h

-- a piece behind a piece
pub both_put : {A E : Type 0} (r : Result A E) (x old one a b : List ℕ) → one ≡ old ++ a → OnOk r (x ≡ one ++ b) → OnOk r (x ≡ old ++ (a ++ b))
both_put r x old one a b h k = same_put r x (one ++ b) (old ++ (a ++ b)) (ap (λ (z : List ℕ). z ++ b) h ∙ append_assoc old a b) k
