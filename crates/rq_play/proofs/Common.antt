-- Choices, ids and parts of records.
use Rattle.std.specs.Prelude.{bytes_eq}
use Rattle.std.specs.Cmp.Lexicographic.{bytes_decides}
use Rattle.std.proofs.Common.{◌≡◌, ◌≢◌, ℕ, Bool, true, false, cond, ◌&&◌, List, refl}

pub if_case : {A : Type 0} (P : A → Type 0) (b : Bool) (x y : A) → (b ≡ true → P x) → (b ≡ false → P y) → P (cond b x y)
if_case P true x y f g = f refl
if_case P false x y f g = g refl

pub id_true : (a b : List ℕ) → bytes_eq a b ≡ true → a ≡ b
id_true a b e = (bytes_decides a b).0 e

pub id_self : (a : List ℕ) → bytes_eq a a ≡ true
id_self a = (bytes_decides a a).1 refl

pub id_false : (a b : List ℕ) → a ≢ b → bytes_eq a b ≡ false
id_false a b apart = by (bytes_eq a b) refl
  where
    by : (t : Bool) → bytes_eq a b ≡ t → t ≡ false
    by false e = refl
    by true e = absurd (apart (id_true a b e))

pub and_true : (a b : Bool) → (a && b) ≡ true → (a ≡ true) × (b ≡ true)
and_true true b e = (refl, e)
and_true false b e = absurd (cc)
