-- In a pair of empty disks no log stands.
use Rattle.std.proofs.Common.{◌≡◌, ℕ, zero, suc, Bool, List, [], ◌∷◌, ◌++◌, length, None, Some, refl, ap, ◌∙◌, subst}
use Rattle.std.specs.Prelude.{All, slice_get}
use Rattle.rq_outside.specs.declared.pair.DiskPair.{DiskPair}
use Rattle.rq_outside.specs.declared.pair.FileNo.{FileNo}
use Rattle.rq_outside.specs.declared.pair.FileNo.TheVariants.{One, Two}
use Rattle.rq_outside.specs.declared.pair.Arm.TheVariants.{Off}
use Rattle.rq_outside.specs.Disk.{DiskMeaning, Only}
use Rattle.rq_outside.specs.Pair.{arm_of, disk_at}
use Rattle.rq_wal.specs.Replace.{in_header, generation_of}
use Rattle.std.proofs.lemmas.List.Elements.{All-push}
use Rattle.rq_cluster.specs.EmptyPairs.{IsMade, AreMade}
use Rattle.rq_cluster.specs.Recovery.{IsNew}

empty_is_closed : generation_of [] ≡ None
unfolding in_header
empty_is_closed = refl

module _ {D F : Type 0} (told : Bool) (means : D → DiskMeaning) where
  pub new_by : (pair : DiskPair D F) → arm_of pair ≡ Off → Only [] (means (disk_at pair One)).images → Only [] (means (disk_at pair Two)).images → IsNew told means pair
  new_by pair off one two = record {
    unarmed = off;
    closed = λ _ a b image_a image_b. (ap generation_of (one a image_a) ∙ empty_is_closed, ap generation_of (two b image_b) ∙ empty_is_closed);
  }

pub one_more_new : {D F : Type 0} (told : Bool) (means : D → DiskMeaning) (pairs : List (DiskPair D F)) (pair : DiskPair D F) → All (IsNew told means) pairs → IsNew told means pair → All (IsNew told means) (pairs ++ pair ∷ [])
one_more_new told means pairs pair all one = All-push (IsNew told means) pairs pair all one

one_more : {A : Type 0} (P : ℕ → A → Type 0) (xs : List A) (x : A) → ((k : ℕ) (y : A) → slice_get xs k ≡ Some y → P k y) → P (length xs) x → (k : ℕ) (y : A) → slice_get (xs ++ x ∷ []) k ≡ Some y → P k y
one_more P [] x each last zero y found = let e : Some x ≡ Some y = found in subst (P zero) (cc) last
one_more P [] x each last (suc k) y found = let e : None ≡ Some y = found in absurd (cc)
one_more P (z ∷ zs) x each last zero y found = each zero y found
one_more P (z ∷ zs) x each last (suc k) y found = one_more (λ j. P (suc j)) zs x (λ j. each (suc j)) last k y found

pub one_more_made : {D F : Type 0} (made : ℕ → FileNo → D → Type 0) (pairs : List (DiskPair D F)) (pair : DiskPair D F) → AreMade made pairs → IsMade made (length pairs) pair → AreMade made (pairs ++ pair ∷ [])
one_more_made made pairs pair all one = one_more (IsMade made) pairs pair all one
