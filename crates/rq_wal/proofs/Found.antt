-- What was found of two files, said of the same bytes.
use Rattle.std.proofs.Common.{◌≡◌, ◌⊎◌, inl, inr, List, ℕ, Option, Result, Ok, Err, IfOk, IfErr, subst}
use Rattle.rq_wal.specs.declared.base.Base.{Base}
use Rattle.rq_wal.specs.declared.base.Stored.{Stored}
use Rattle.rq_wal.specs.declared.error.OpenError.{OpenError}
use Rattle.rq_wal.specs.declared.error.OpenError.TheVariants as errors
use Rattle.rq_wal.specs.declared.file.WalFile.{WalFile}
use Rattle.rq_wal.specs.Current.{IsFound}
use Rattle.rq_wal.specs.Reading.{pair_gives}

module _ (first : Base) (r : Result (Option (WalFile × Stored)) OpenError) (one two one' two' : List ℕ) (same : one ≡ one') (same' : two ≡ two') where
  pub found_in : IfOk r (λ found. IsFound first one two found) → IfOk r (λ found. IsFound first one' two' found)
  found_in h = subst (λ (l : List ℕ). IfOk r (λ found. IsFound first one' l found)) same' (subst (λ (l : List ℕ). IfOk r (λ found. IsFound first l two found)) same h)

  pub refused_in : IfErr r (λ e. (e ≡ errors.NoMemory) ⊎ (pair_gives first one two ≡ Err e)) → IfErr r (λ e. (e ≡ errors.Disk) ⊎ (e ≡ errors.NoMemory) ⊎ (pair_gives first one' two' ≡ Err e))
  refused_in h = weaken r (subst (λ (l : List ℕ). IfErr r (λ e. (e ≡ errors.NoMemory) ⊎ (pair_gives first one' l ≡ Err e))) same' (subst (λ (l : List ℕ). IfErr r (λ e. (e ≡ errors.NoMemory) ⊎ (pair_gives first l two ≡ Err e))) same h))
    where
      weaken : (r : Result (Option (WalFile × Stored)) OpenError) → IfErr r (λ e. (e ≡ errors.NoMemory) ⊎ (pair_gives first one' two' ≡ Err e)) → IfErr r (λ e. (e ≡ errors.Disk) ⊎ (e ≡ errors.NoMemory) ⊎ (pair_gives first one' two' ≡ Err e))
      weaken (Ok x) h = h
      weaken (Err e) (inl none) = inr (inl none)
      weaken (Err e) (inr gives) = inr (inr gives)
