-- What a pair stands for.
use Rattle.std.proofs.Common.{Bool, true, false, ◌≡◌, ◌⊎◌, inl, inr, ℕ, ◌≤◌, ◌<◌, ◌^◌, List, [], ◌∷◌, ◌++◌, length, take, drop, Option, Some, None, Result, Ok, nat_lt, cond, refl, sym, ap, subst, ◌∙◌, arith, length-append}
use Rattle.std.proofs.lemmas.Bool.Decides.{nat_tests}
use Rattle.std.proofs.lemmas.List.{append-nil}
use Rattle.rq_outside.specs.declared.pair.DiskPair.{DiskPair}
use Rattle.rq_outside.specs.declared.pair.FileNo.{FileNo}
use Rattle.rq_outside.specs.declared.pair.FileNo.TheVariants.{One, Two}
use Rattle.rq_outside.specs.Disk.{DiskMeaning, LeavesOnly, Only, Stays, Elapses}
use Rattle.rq_outside.specs.Pair.{other, disk_at}
use Rattle.rq_values.specs.Spelling.{u64_bytes}
use Rattle.rq_wal.specs.declared.base.Base.{Base}
use Rattle.rq_wal.specs.declared.base.Stored.{Stored}
use Rattle.rq_wal.specs.declared.error.OpenError.{OpenError}
use Rattle.rq_wal.specs.declared.file.WalFile.{WalFile}
use Rattle.rq_wal.specs.Current.{IsBehind, IsOpened, IsBegun, IsCurrent, EachImage, EachImageGives, EachSince, file_at}
use Rattle.rq_wal.specs.Gate.{EndsIn}
use Rattle.rq_wal.specs.Log.{IsLog}
use Rattle.rq_wal.specs.Reading.{header_fault, unless_, then_, stored_of, log_at, file_gives, by_generations, pair_gives}
use Rattle.rq_wal.specs.Replace.{generation_of, IsBelow, IsOldOrNew}
use Rattle.rq_wal.specs.Spelling.{base_bytes, body_bytes, prefix_bytes, file_bytes}
use Rattle.rq_wal.specs.Stored.{started}
use Rattle.rq_wal.specs.WalFile.{wal_file, wal_end, wal_generation}
use Rattle.rq_wal.proofs.FilesRead.{written, prefix_generation, header_right_of}
use Rattle.rq_wal.proofs.Moments.{OnlyNow, then}
use Rattle.rq_wal.proofs.Unchanged.{unchanged}

-- ---- the first writing of file one

pub new_file : (first : Base) (rest : List ℕ) → rest ≡ body_bytes 1 first ++ 0 ∷ [] → 1 ∷ rest ≡ file_bytes 1 first []
new_file first rest is = ap (λ (l : List ℕ). 1 ∷ l) (is ∙ ap (λ (l : List ℕ). l ++ 0 ∷ []) (sym (append-nil (body_bytes 1 first))))

pub body_size : (first : Base) (n : ℕ) → length (body_bytes 1 first ++ 0 ∷ []) ≡ n → n < 2 ^ 64 → length (base_bytes first) < 2 ^ 64
body_size first n is lt =
    let base = base_bytes first in
    let size = u64_bytes (length base) in
    omega (arith, is, lt, length-append (body_bytes 1 first) (0 ∷ []), length-append (u64_bytes 1) (size ++ base), length-append size base)

begun_below : (first : Base) (file : List ℕ) → IsBelow 0 file → IsBegun first file
begun_below first file (inl none) = inl none
begun_below first file (inr some) = absurd (omega (arith, some.2))

begun_new : (first : Base) (new file : List ℕ) → new ≡ file_bytes 1 first [] → length (base_bytes first) < 2 ^ 64 → IsOldOrNew 0 new file → IsBegun first file
begun_new first new file is fits (inl below) = begun_below first file below
begun_new first new file is fits (inr same) = inr (same ∙ is, fits)

pub emptied_moments : (first : Base) (old ready mid : DiskMeaning) → generation_of old.content ≡ None → Only old.content old.images → OnlyNow old → Stays old ready → Elapses old ready → LeavesOnly ready mid (IsBelow 0) → LeavesOnly old mid (IsBegun first)
emptied_moments first old ready mid closed only now same time below =
    then old ready mid old.images (IsBelow 0) (IsBegun first) (unchanged old ready now time same.no_more) below (λ c image. inl (ap generation_of (only c image) ∙ closed)) (begun_below first)

pub begun_moments : (first : Base) (old ready mid new : DiskMeaning) (rest : List ℕ) → generation_of old.content ≡ None → Only old.content old.images → OnlyNow old → Stays old ready → Elapses old ready → LeavesOnly ready mid (IsBelow 0)
    → LeavesOnly mid new (IsOldOrNew 0 (1 ∷ rest)) → 1 ∷ rest ≡ file_bytes 1 first [] → length (base_bytes first) < 2 ^ 64 → LeavesOnly old new (IsBegun first)
begun_moments first old ready mid new rest closed only now same time below opens is fits =
    then old mid new (IsBegun first) (IsOldOrNew 0 (1 ∷ rest)) (IsBegun first) (emptied_moments first old ready mid closed only now same time below) opens (λ c p. p) (λ c. begun_new first (1 ∷ rest) c is fits)

-- ---- the current one of two files

not_less : (m n : ℕ) → n ≤ m → nat_lt m n ≡ false
not_less m n le = grind (arith, nat_tests)

less : (m n : ℕ) → m < n → nat_lt m n ≡ true
less m n lt = grind (arith, nat_tests)

module _ (first : Base) (stored : Stored) (one two : List ℕ) where
  pub pair_one : (generation : ℕ) → generation_of one ≡ Some generation → file_gives first 1 one ≡ Ok stored → IsBehind One generation two → pair_gives first one two ≡ Ok stored
  unfolding pair_gives
  pair_one generation current gives (inl none) = (λ i. by_generations first (current i) (none i) one two) ∙ gives
  pair_one generation current gives (inr some) =
      (λ i. by_generations first (current i) (some.1 i) one two)
      ∙ ap (λ (b : Bool). cond b (unless_ (header_fault 1 one) (file_gives first 2 two)) (then_ (file_gives first 1 one) (header_fault 2 two))) (not_less generation some.0 some.2)
      ∙ (λ i. then_ (gives i) (some.3 i))

  pub pair_two : (generation : ℕ) → generation_of two ≡ Some generation → file_gives first 2 two ≡ Ok stored → IsBehind Two generation one → pair_gives first one two ≡ Ok stored
  unfolding pair_gives
  pair_two generation current gives (inl none) = (λ i. by_generations first (none i) (current i) one two) ∙ gives
  pair_two generation current gives (inr some) =
      (λ i. by_generations first (some.1 i) (current i) one two)
      ∙ ap (λ (b : Bool). cond b (unless_ (header_fault 1 one) (file_gives first 2 two)) (then_ (file_gives first 1 one) (header_fault 2 two))) (less some.0 generation some.2)
      ∙ (λ i. unless_ (some.3 i) (gives i))

-- a file that ends in a log gives what is stored in it
module _ (first : Base) (generation : ℕ) (stored : Stored) (done file : List ℕ) (log : IsLog first generation stored done) (ends : EndsIn done file) where
  pub ends_gives : (number : ℕ) → file_gives first number file ≡ Ok stored
  ends_gives number = ap (file_gives first number) ends.split ∙ written first generation number ends.gate stored done ends.rest log ends.closed

  pub ends_generation : generation_of file ≡ Some generation
  ends_generation = ap generation_of (ends.split ∙ ap (λ (l : List ℕ). l ++ ends.gate ∷ ends.rest) log.is) ∙ prefix_generation generation first log.frames (ends.gate ∷ ends.rest) log.small

  pub ends_right : (number : ℕ) → header_fault number file ≡ None
  ends_right number = ap (header_fault number) (ends.split ∙ ap (λ (l : List ℕ). l ++ ends.gate ∷ ends.rest) log.is) ∙ header_right_of number generation first log.frames ends.gate ends.rest log.small

  pub pair_with : (no : FileNo) (one two : List ℕ) → file_at no one two ≡ file → IsBehind no generation (file_at (other no) one two) → pair_gives first one two ≡ Ok stored
  pair_with One one two is behind = pair_one first stored one two generation (ap generation_of is ∙ ends_generation) (ap (file_gives first 1) is ∙ ends_gives 1) behind
  pair_with Two one two is behind = pair_two first stored one two generation (ap generation_of is ∙ ends_generation) (ap (file_gives first 2) is ∙ ends_gives 2) behind

-- ---- a pair that was opened

module _ {D F : Type 0} (means : D → DiskMeaning) (first : Base) where
  same_files : (pair : DiskPair D F) (one two : List ℕ) → (means pair.one).content ≡ one → (means pair.two).content ≡ two → (no : FileNo) → (means (disk_at pair no)).content ≡ file_at no one two
  same_files pair one two c1 c2 One = c1
  same_files pair one two c1 c2 Two = c2

  only_files : (pair : DiskPair D F) → Only (means pair.one).content (means pair.one).images → Only (means pair.two).content (means pair.two).images → (no : FileNo) → Only (means (disk_at pair no)).content (means (disk_at pair no)).images
  only_files pair o1 o2 One = o1
  only_files pair o1 o2 Two = o2

  pub current_of : (pair : DiskPair D F) (wal : WalFile) (stored : Stored) (one two : List ℕ) → IsOpened first one two wal stored → (means pair.one).content ≡ one → (means pair.two).content ≡ two
      → Only (means pair.one).content (means pair.one).images → Only (means pair.two).content (means pair.two).images → IsCurrent means first pair wal stored
  current_of pair wal stored one two opened c1 c2 o1 o2 =
      let no = wal_file wal in
      let here = same_files pair one two c1 c2 no in
      let there = same_files pair one two c1 c2 (other no) in
      record {
        log = subst (λ (l : List ℕ). IsLog first (wal_generation wal) stored (take (wal_end wal) l)) (sym here) opened.read.log;
        at_rest = record {
          within = omega (arith, opened.read.within, ap length here);
          ends = subst (λ (l : List ℕ). EndsIn (take (wal_end wal) l) l) (sym here) opened.read.ends;
          durable = only_files pair o1 o2 no;
        };
        behind = λ c now. subst (IsBehind no (wal_generation wal)) (sym (only_files pair o1 o2 (other no) c now ∙ there)) opened.behind;
      }

  images_at : (pair : DiskPair D F) (one two : List ℕ) → (means pair.one).images one → (means pair.two).images two → (no : FileNo) → (means (disk_at pair no)).images (file_at no one two)
  images_at pair one two i1 i2 One = i1
  images_at pair one two i1 i2 Two = i2

  pub images_give : (pair : DiskPair D F) (wal : WalFile) (stored : Stored) → IsCurrent means first pair wal stored → EachImageGives means first pair stored
  images_give pair wal stored current one two i1 i2 =
      let no = wal_file wal in
      pair_with first (wal_generation wal) stored (take (wal_end wal) (means (disk_at pair no)).content) (means (disk_at pair no)).content current.log current.at_rest.ends no one two
      (current.at_rest.durable (file_at no one two) (images_at pair one two i1 i2 no)) (current.behind (file_at (other no) one two) (images_at pair one two i1 i2 (other no)))

-- ---- each moment of an opening

-- closed files in the place of closed files
both_closed : (first : Base) (a b two : List ℕ) → generation_of a ≡ None → generation_of b ≡ None → pair_gives first a two ≡ pair_gives first b two
unfolding pair_gives
both_closed first a b two none none' = without (generation_of two)
  where
    without : (other : Option ℕ) → by_generations first (generation_of a) other a two ≡ by_generations first (generation_of b) other b two
    without None = (λ i. by_generations first (none i) None a two) ∙ sym (λ i. by_generations first (none' i) None b two)
    without (Some h) = (λ i. by_generations first (none i) (Some h) a two) ∙ sym (λ i. by_generations first (none' i) (Some h) b two)

pub closed_gives : (first : Base) (one two : List ℕ) → generation_of one ≡ None → generation_of two ≡ None → pair_gives first one two ≡ Ok (started first)
unfolding pair_gives
closed_gives first one two none none' = λ i. by_generations first (none i) (none' i) one two

-- the new file one
module _ (first : Base) (fits : length (base_bytes first) < 2 ^ 64) where
  pub new_log : IsLog first 1 (started first) (prefix_bytes 1 first [])
  new_log = record { frames = []; allowed = tt; folds = refl; small = omega arith; fits = fits; is = refl }

  new_ends : EndsIn (prefix_bytes 1 first []) (file_bytes 1 first [])
  new_ends = record { gate = 0; rest = []; closed = omega arith; split = refl }

  -- beside a file two, it gives what stood there before, or the first base
  module _ (P : Result Stored OpenError → Type 0) (here : P (Ok (started first))) where
    right_or : (fault : Option OpenError) (r : Result Stored OpenError) → P (unless_ fault r) → P (then_ (Ok (started first)) fault)
    right_or None r p = here
    right_or (Some fault) r p = p

    beside : (one two : List ℕ) → generation_of one ≡ None → P (pair_gives first one two) → P (pair_gives first (file_bytes 1 first []) two)
    unfolding pair_gives
    beside one two none gives = with_two (generation_of two) refl
      where
        current : generation_of (file_bytes 1 first []) ≡ Some 1
        current = ends_generation first 1 (started first) (prefix_bytes 1 first []) (file_bytes 1 first []) new_log new_ends

        right : header_fault 1 (file_bytes 1 first []) ≡ None
        right = ends_right first 1 (started first) (prefix_bytes 1 first []) (file_bytes 1 first []) new_log new_ends 1

        gives_one : file_gives first 1 (file_bytes 1 first []) ≡ Ok (started first)
        gives_one = ends_gives first 1 (started first) (prefix_bytes 1 first []) (file_bytes 1 first []) new_log new_ends 1

        either : (b : Bool) → P (file_gives first 2 two) → P (cond b (unless_ (header_fault 1 (file_bytes 1 first [])) (file_gives first 2 two)) (then_ (file_gives first 1 (file_bytes 1 first [])) (header_fault 2 two)))
        either true p = subst (λ (fault : Option OpenError). P (unless_ fault (file_gives first 2 two))) (sym right) p
        either false p = subst (λ (r : Result Stored OpenError). P (then_ r (header_fault 2 two))) (sym gives_one) (right_or (header_fault 2 two) (stored_of 2 two (log_at first (drop 15 two))) p)

        with_two : (o : Option ℕ) → generation_of two ≡ o → P (pair_gives first (file_bytes 1 first []) two)
        with_two None is = subst P (sym ((λ i. by_generations first (current i) (is i) (file_bytes 1 first []) two) ∙ gives_one)) here
        with_two (Some h) is =
            let two_gives : P (file_gives first 2 two) = subst P (λ i. by_generations first (none i) (is i) one two) gives in
            subst P (sym (λ i. by_generations first (current i) (is i) (file_bytes 1 first []) two)) (either (nat_lt 1 h) two_gives)

module _ {D F : Type 0} (means : D → DiskMeaning) (first : Base) (P : Result Stored OpenError → Type 0) (old : DiskPair D F) (all : EachImage means first old P) where
  -- no image was added
  pub always_kept : (new : DiskPair D F) → LeavesOnly (means old.one) (means new.one) (means old.one).images → LeavesOnly (means old.two) (means new.two) (means old.two).images → EachSince means first old new P
  always_kept new one_only two_only one two i1 i2 = all one two (one_only.each one i1) (two_only.each two i2)

  -- file one was written
  pub always_begun : (new : DiskPair D F) → (means old.one).images (means old.one).content → (means old.two).images (means old.two).content → generation_of (means old.one).content ≡ None → generation_of (means old.two).content ≡ None
      → LeavesOnly (means old.one) (means new.one) (λ c. (means old.one).images c ⊎ IsBegun first c) → LeavesOnly (means old.two) (means new.two) (means old.two).images → EachSince means first old new P
  always_begun new now_one now_two none none' one_only two_only one two i1 i2 = by_case (one_only.each one i1)
    where
      c2 : (means old.two).images two
      c2 = two_only.each two i2

      here : P (Ok (started first))
      here = subst P (closed_gives first (means old.one).content (means old.two).content none none') (all (means old.one).content (means old.two).content now_one now_two)

      beside_old : P (pair_gives first (means old.one).content two)
      beside_old = all (means old.one).content two now_one c2

      by_case : (means old.one).images one ⊎ IsBegun first one → P (pair_gives first one two)
      by_case (inl before) = all one two before c2
      by_case (inr (inl closed)) = subst P (both_closed first (means old.one).content one two none closed) beside_old
      by_case (inr (inr new_one)) = subst (λ (l : List ℕ). P (pair_gives first l two)) (sym new_one.0) (beside first new_one.1 P here (means old.one).content two none beside_old)
