-- Images now, and images since an earlier moment.
use Rattle.std.proofs.Common.{◌≡◌, ◌≤◌, ℕ, List, Result, refl, subst, sym, arith}
use Rattle.rq_outside.specs.declared.pair.DiskPair.{DiskPair}
use Rattle.rq_outside.specs.declared.pair.FileNo.{FileNo}
use Rattle.rq_outside.specs.declared.pair.FileNo.TheVariants.{One, Two}
use Rattle.rq_outside.specs.Disk.{DiskMeaning}
use Rattle.rq_outside.specs.Pair.{other, disk_at}
use Rattle.rq_wal.specs.declared.base.Base.{Base}
use Rattle.rq_wal.specs.declared.base.Stored.{Stored}
use Rattle.rq_wal.specs.declared.error.OpenError.{OpenError}
use Rattle.rq_wal.specs.Current.{EachImage, EachSince, SomeImageGives}

module _ {D F : Type 0} (means : D → DiskMeaning) (first : Base) where
  pub each_given : (pair : DiskPair D F) → EachImage means first pair (SomeImageGives means first pair)
  each_given pair one two i1 i2 = (one, two, i1, i2, refl)

  module _ (counts : (disk : D) (t : ℕ) (c : List ℕ) → t ≤ (means disk).moment → (means disk).images c → (means disk).since t c) (P : Result Stored OpenError → Type 0) (old new : DiskPair D F) where
    -- images now are images since then
    pub since_now : (means old.one).moment ≤ (means new.one).moment → (means old.two).moment ≤ (means new.two).moment → EachSince means first old new P → EachImage means first new P
    since_now le le' since one two i1 i2 = since one two (counts new.one (means old.one).moment one le i1) (counts new.two (means old.two).moment two le' i2)

    -- where calls went to one of the two files
    pub since_now_at : (no : FileNo) → disk_at new (other no) ≡ disk_at old (other no) → (means (disk_at old no)).moment ≤ (means (disk_at new no)).moment → EachSince means first old new P → EachImage means first new P
    since_now_at One same le since = since_now le (subst (λ (d : D). (means old.two).moment ≤ (means d).moment) (sym same) (omega arith)) since
    since_now_at Two same le since = since_now (subst (λ (d : D). (means old.one).moment ≤ (means d).moment) (sym same) (omega arith)) le since

  -- no image was added
  pub no_more : (old new : DiskPair D F) (no : FileNo) → disk_at new (other no) ≡ disk_at old (other no) → ((c : List ℕ) → (means (disk_at new no)).images c → (means (disk_at old no)).images c) → EachImage means first new (SomeImageGives means first old)
  no_more old new One same fewer one two i1 i2 = (one, two, fewer one i1, subst (λ (d : D). (means d).images two) same i2, refl)
  no_more old new Two same fewer one two i1 i2 = (one, two, subst (λ (d : D). (means d).images one) same i1, fewer two i2, refl)
