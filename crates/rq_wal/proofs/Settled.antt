-- A pair that was opened: by the file that was found, or by a new one.
use Rattle.std.proofs.Common.{Bool, false, IsTrue, IfErr, IsErrOf, ◌≡◌, ◌⊎◌, inl, inr, ℕ, ◌<◌, ◌≤◌, ◌^◌, List, [], ◌∷◌, length, take, Option, Some, None, Result, Ok, Err, IfOk, IfSome, OnSome, OnOk, refl, sym, ap, subst, ◌∙◌, arith}
use Rattle.std.proofs.lemmas.List.{take_at}
use Rattle.rq_outside.specs.declared.pair.DiskPair.{DiskPair}
use Rattle.rq_outside.specs.declared.pair.FileNo.{FileNo}
use Rattle.rq_outside.specs.declared.pair.FileNo.TheVariants.{One, Two}
use Rattle.rq_outside.specs.Disk.{DiskMeaning, LeavesOnly, Only}
use Rattle.rq_outside.specs.Pair.{other, disk_at}
use Rattle.rq_wal.specs.declared.base.Base.{Base}
use Rattle.rq_wal.specs.declared.base.Stored.{Stored}
use Rattle.rq_wal.specs.declared.error.OpenError.{OpenError}
use Rattle.rq_wal.specs.declared.error.OpenError.TheVariants as errors
use Rattle.rq_wal.specs.declared.file.WalFile.{WalFile}
use Rattle.rq_wal.specs.Current.{file_at, IsBehind, IsFound, IsBegun, IsCurrent, EachImageGives, EachSince, SomeImageGives}
use Rattle.rq_wal.specs.Gate.{IsAtRest}
use Rattle.rq_wal.specs.Log.{IsLog}
use Rattle.rq_wal.specs.Reading.{pair_gives}
use Rattle.rq_wal.specs.Replace.{generation_of, is_open}
use Rattle.rq_wal.specs.Spelling.{base_bytes, prefix_bytes, file_bytes}
use Rattle.rq_wal.specs.Stored.{stored_after}
use Rattle.rq_wal.specs.WalFile.{wal_file, wal_end, wal_generation}
use Rattle.rq_wal.proofs.ImagesNow.{each_given}
use Rattle.rq_wal.proofs.Moments.{then}
use Rattle.rq_wal.proofs.Recovery.{current_of, closed_gives, images_give, always_kept, always_begun, new_log, ends_generation}
use Rattle.rq_wal.proofs.Opened.{closed_file}

abbrev Opened : Type 0
Opened = Result (WalFile × Stored) OpenError

pub gives_in : (first : Base) (one two : List ℕ) (found : Option (WalFile × Stored)) (r : Opened) → IsFound first one two found → IfSome found (λ o. r ≡ Ok o) → (found ≡ None → IfOk r (λ o. o.1 ≡ stored_after first [])) → IfOk r (λ o. pair_gives first one two ≡ Ok o.1)
gives_in first one two (Some opened) r is same new = subst (λ (x : Opened). IfOk x (λ o. pair_gives first one two ≡ Ok o.1)) (sym same) is.gives
gives_in first one two None (Ok o) is same new = closed_gives first one two is.0 is.1 ∙ ap Ok (sym (new refl))
gives_in first one two None (Err e) is same new = tt

module _ {D F : Type 0} (means : D → DiskMeaning) (first : Base) where
  module _ (pair : DiskPair D F) (wal : WalFile) (stored : Stored) (file : wal_file wal ≡ One) (generation : wal_generation wal ≡ 1) (end : wal_end wal ≡ length (prefix_bytes 1 first [])) (fits : length (base_bytes first) < 2 ^ 64)
      (is : stored ≡ stored_after first []) (written : (means pair.one).content ≡ file_bytes 1 first []) (rest : IsAtRest (means pair.one) (wal_end wal)) (none : generation_of (means pair.two).content ≡ None) (only : Only (means pair.two).content (means pair.two).images) where
    prefix : take (wal_end wal) (means pair.one).content ≡ prefix_bytes 1 first []
    prefix = ap (λ (l : List ℕ). take (wal_end wal) l) written ∙ take_at (prefix_bytes 1 first []) (0 ∷ []) (wal_end wal) (sym end)

    log : IsLog first (wal_generation wal) stored (take (wal_end wal) (means pair.one).content)
    log = subst (λ (g : ℕ). IsLog first g stored (take (wal_end wal) (means pair.one).content)) (sym generation)
        (subst (λ (l : List ℕ). IsLog first 1 stored l) (sym prefix) (subst (λ (s : Stored). IsLog first 1 s (prefix_bytes 1 first [])) (sym is) (new_log first fits)))

    pub new_current : IsCurrent means first pair wal stored
    new_current = record {
      log = subst (λ (f : FileNo). IsLog first (wal_generation wal) stored (take (wal_end wal) (means (disk_at pair f)).content)) (sym file) log;
      at_rest = subst (λ (f : FileNo). IsAtRest (means (disk_at pair f)) (wal_end wal)) (sym file) rest;
      behind = subst (λ (f : FileNo). (c : List ℕ) → (means (disk_at pair (other f))).images c → IsBehind f (wal_generation wal) c) (sym file) (λ c now. inl (ap generation_of (only c now) ∙ none));
    }

  -- a new file, as it was written
  pub record IsNew (pair : DiskPair D F) (wal : WalFile) (stored : Stored) : Type 0 where
    pub file : wal_file wal ≡ One
    pub generation : wal_generation wal ≡ 1
    pub end : wal_end wal ≡ length (prefix_bytes 1 first [])
    pub fits : length (base_bytes first) < 2 ^ 64
    pub is : stored ≡ stored_after first []
    pub written : (means pair.one).content ≡ file_bytes 1 first []
    pub rest : IsAtRest (means pair.one) (wal_end wal)

  pub new_of : (pair : DiskPair D F) (r : Opened) → IfOk r (λ o. wal_file o.0 ≡ One) → IfOk r (λ o. wal_generation o.0 ≡ 1) → IfOk r (λ o. wal_end o.0 ≡ length (prefix_bytes 1 first [])) → OnOk r (length (base_bytes first) < 2 ^ 64)
      → IfOk r (λ o. o.1 ≡ stored_after first []) → OnOk r ((means pair.one).content ≡ file_bytes 1 first []) → IfOk r (λ o. IsAtRest (means pair.one) (wal_end o.0)) → IfOk r (λ o. IsNew pair o.0 o.1)
  new_of pair (Ok o) file generation end fits is written rest = record { file = file; generation = generation; end = end; fits = fits; is = is; written = written; rest = rest }
  new_of pair (Err e) file generation end fits is written rest = tt

  pub current_in : (old mid new : DiskPair D F) (found : Option (WalFile × Stored)) (r : Opened) → IsFound first (means old.one).content (means old.two).content found
      → (means mid.one).content ≡ (means old.one).content → (means mid.two).content ≡ (means old.two).content → Only (means mid.one).content (means mid.one).images → Only (means mid.two).content (means mid.two).images
      → OnSome found (new ≡ mid) → IfSome found (λ o. r ≡ Ok o) → new.two ≡ mid.two → (found ≡ None → IfOk r (λ o. IsNew new o.0 o.1)) → IfOk r (λ o. IsCurrent means first new o.0 o.1)
  current_in old mid new (Some opened) r is c1 c2 o1 o2 kept same two made =
      subst (λ (x : Opened). IfOk x (λ o. IsCurrent means first new o.0 o.1)) (sym same)
      (subst (λ (pair : DiskPair D F). IsCurrent means first pair opened.0 opened.1) (sym kept) (current_of means first mid opened.0 opened.1 (means old.one).content (means old.two).content is c1 c2 o1 o2))
  current_in old mid new None (Err e) is c1 c2 o1 o2 kept same two made = tt
  current_in old mid new None (Ok o) is c1 c2 o1 o2 kept same two made =
      let n = made refl in
      new_current new o.0 o.1 n.file n.generation n.end n.fits n.is n.written n.rest (ap (λ (d : D). generation_of (means d).content) two ∙ ap generation_of c2 ∙ is.1) (subst (λ (d : D). Only (means d).content (means d).images) (sym two) o2)

  pub images_in : (new : DiskPair D F) (r : Opened) → IfOk r (λ o. IsCurrent means first new o.0 o.1) → IfOk r (λ o. EachImageGives means first new o.1)
  images_in new (Ok o) current = images_give means first new o.0 o.1 current
  images_in new (Err e) current = tt

  pub moments_in : (old mid new : DiskPair D F) (found : Option (WalFile × Stored)) → IsFound first (means old.one).content (means old.two).content found
      → LeavesOnly (means old.one) (means mid.one) (means old.one).images → LeavesOnly (means old.two) (means mid.two) (means old.two).images → OnSome found (new ≡ mid) → new.two ≡ mid.two
      → (found ≡ None → LeavesOnly (means mid.one) (means new.one) (IsBegun first)) → (means old.one).images (means old.one).content → (means old.two).images (means old.two).content
      → EachSince means first old new (SomeImageGives means first old)
  moments_in old mid new (Some opened) is m1 m2 kept two begun now1 now2 =
      subst (λ (pair : DiskPair D F). EachSince means first old pair (SomeImageGives means first old)) (sym kept) (always_kept means first (SomeImageGives means first old) old (each_given means first old) mid m1 m2)
  moments_in old mid new None is m1 m2 kept two begun now1 now2 =
      always_begun means first (SomeImageGives means first old) old (each_given means first old) new now1 now2 is.0 is.1
      (then (means old.one) (means mid.one) (means new.one) (means old.one).images (IsBegun first) (λ c. (means old.one).images c ⊎ IsBegun first c) m1 (begun refl) (λ c p. inl p) (λ c p. inr p))
      (subst (λ (d : D). LeavesOnly (means old.two) (means d) (means old.two).images) (sym two) m2)

  -- time went on
  pub later_in : (old mid new : DiskPair D F) (found : Option (WalFile × Stored)) → (means old.one).moment ≤ (means mid.one).moment → OnSome found (new ≡ mid) → (found ≡ None → LeavesOnly (means mid.one) (means new.one) (IsBegun first)) → (means old.one).moment ≤ (means new.one).moment
  later_in old mid new (Some opened) le kept begun = subst (λ (pair : DiskPair D F). (means old.one).moment ≤ (means pair.one).moment) (sym kept) le
  later_in old mid new None le kept begun = let left = begun refl in omega (arith, le, left.later)

-- ---- the answers of opening

clash : (g : ℕ) (o : Option ℕ) → o ≡ Some g → o ≡ None → ⊥
clash g o some none = let same : Some g ≡ None = sym some ∙ none in absurd (cc)

pub none_found : (first : Base) (one two : List ℕ) (found : Option (WalFile × Stored)) → IsFound first one two found → is_open one ≡ false → is_open two ≡ false → found ≡ None
none_found first one two None is shut shut' = refl
none_found first one two (Some o) is shut shut' =
    absurd (clash (wal_generation o.0) (generation_of (file_at (wal_file o.0) one two)) (ends_generation first (wal_generation o.0) o.1 (take (wal_end o.0) (file_at (wal_file o.0) one two)) (file_at (wal_file o.0) one two) is.read.log is.read.ends) (closed_at (wal_file o.0)))
  where
    closed_at : (no : FileNo) → generation_of (file_at no one two) ≡ None
    closed_at One = closed_file one shut
    closed_at Two = closed_file two shut'

pub rest_in : {D F : Type 0} (means : D → DiskMeaning) (first : Base) (told : Bool) (new : DiskPair D F) (r : Opened) → (IsTrue told → IfOk r (λ o. IsCurrent means first new o.0 o.1)) → IfOk r (λ o. IsTrue told → IsAtRest (means (disk_at new (wal_file o.0))) (wal_end o.0))
rest_in means first told new (Ok o) current = λ t. (current t).at_rest
rest_in means first told new (Err e) current = tt

pub unchanged_in : (r : Opened) (X : Type 0) → IfErr r (λ e. (e ≡ errors.Disk) ⊎ (e ≡ errors.NoMemory)) → (IsErrOf r errors.NoMemory → X) → IfErr r (λ e. (e ≡ errors.Disk) ⊎ X)
unchanged_in (Ok o) X refused same = tt
unchanged_in (Err e) X (inl disk) same = inl disk
unchanged_in (Err e) X (inr none) same = inr (same (ap Err none))

pub refused_so : (r : Opened) (X : OpenError → Type 0) → IfErr r (λ e. (e ≡ errors.Disk) ⊎ (e ≡ errors.NoMemory)) → IfErr r (λ e. (e ≡ errors.Disk) ⊎ (e ≡ errors.NoMemory) ⊎ X e)
refused_so (Ok o) X refused = tt
refused_so (Err e) X (inl disk) = inl disk
refused_so (Err e) X (inr none) = inr (inl none)

-- what the contents stand for is what some image gives
module _ {D F : Type 0} (means : D → DiskMeaning) (first : Base) (pair : DiskPair D F) (now1 : (means pair.one).images (means pair.one).content) (now2 : (means pair.two).images (means pair.two).content) where
  pub opened_of : (r : Opened) → IfOk r (λ o. pair_gives first (means pair.one).content (means pair.two).content ≡ Ok o.1) → IfOk r (λ o. SomeImageGives means first pair (Ok o.1))
  opened_of (Ok o) gives = ((means pair.one).content, (means pair.two).content, now1, now2, sym gives)
  opened_of (Err e) gives = tt

  pub refused_of : (r : Opened) → IfErr r (λ e. (e ≡ errors.Disk) ⊎ (e ≡ errors.NoMemory) ⊎ (pair_gives first (means pair.one).content (means pair.two).content ≡ Err e)) → IfErr r (λ e. (e ≡ errors.Disk) ⊎ (e ≡ errors.NoMemory) ⊎ SomeImageGives means first pair (Err e))
  refused_of (Ok o) refused = tt
  refused_of (Err e) (inl disk) = inl disk
  refused_of (Err e) (inr (inl none)) = inr (inl none)
  refused_of (Err e) (inr (inr gives)) = inr (inr ((means pair.one).content, (means pair.two).content, now1, now2, sym gives))
