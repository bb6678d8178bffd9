-- Choices.
use Rattle.std.proofs.Common.{◌≡◌, Bool, true, false, cond, refl}

pub if_case : {A : Type 0} (P : A → Type 0) (b : Bool) (x y : A) → (b ≡ true → P x) → (b ≡ false → P y) → P (cond b x y)
if_case P true x y f g = f refl
if_case P false x y f g = g refl
