-- Where each image that a crash might have left before a call has a property, so has what some of them gives.
use Rattle.std.proofs.Common.{◌≡◌, Result, Ok, Err, IfOk, IfErr, ◌⊎◌, inl, inr, subst, sym}
use Rattle.rq_outside.specs.declared.pair.DiskPair.{DiskPair}
use Rattle.rq_outside.specs.Disk.{DiskMeaning}
use Rattle.rq_wal.specs.declared.base.Base.{Base}
use Rattle.rq_wal.specs.declared.base.Stored.{Stored}
use Rattle.rq_wal.specs.declared.error.OpenError.{OpenError}
use Rattle.rq_wal.specs.declared.error.OpenError.TheVariants as errors
use Rattle.rq_wal.specs.declared.file.WalFile.{WalFile}
use Rattle.rq_wal.specs.Current.{EachImage, EachSince, SomeImageGives}

module _ {D F : Type 0} (means : D → DiskMeaning) (first : Base) (old : DiskPair D F) (P : Result Stored OpenError → Type 0) (all : EachImage means first old P) where
  pub given_has : (reading : Result Stored OpenError) → SomeImageGives means first old reading → P reading
  given_has reading given = subst P (sym given.4) (all given.0 given.1 given.2 given.3)

  pub images_have : (new : DiskPair D F) → EachImage means first new (SomeImageGives means first old) → EachImage means first new P
  images_have new given one two i1 i2 = given_has _ (given one two i1 i2)

  pub moments_have : (new : DiskPair D F) → EachSince means first old new (SomeImageGives means first old) → EachSince means first old new P
  moments_have new given one two i1 i2 = given_has _ (given one two i1 i2)

  pub opened_has : (r : Result (WalFile × Stored) OpenError) → IfOk r (λ opened. SomeImageGives means first old (Ok opened.1)) → IfOk r (λ opened. P (Ok opened.1))
  opened_has (Ok opened) given = given_has _ given
  opened_has (Err e) given = tt

  pub refused_has : (r : Result (WalFile × Stored) OpenError) → IfErr r (λ e. (e ≡ errors.Disk) ⊎ (e ≡ errors.NoMemory) ⊎ SomeImageGives means first old (Err e)) → IfErr r (λ e. (e ≡ errors.Disk) ⊎ (e ≡ errors.NoMemory) ⊎ P (Err e))
  refused_has (Ok opened) given = tt
  refused_has (Err e) (inl disk) = inl disk
  refused_has (Err e) (inr (inl none)) = inr (inl none)
  refused_has (Err e) (inr (inr given)) = inr (inr (given_has _ given))
