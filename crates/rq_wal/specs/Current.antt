-- The current file of a pair, and the other one.
use Rattle.std.specs.Prelude.{◌≡◌, ◌⊎◌, ◌≤◌, ◌<◌, ◌^◌, ℕ, List, [], length, take, Option, Some, None, Result, Ok}
use Rattle.rq_outside.specs.declared.pair.DiskPair.{DiskPair}
use Rattle.rq_outside.specs.declared.pair.FileNo.{FileNo}
use Rattle.rq_outside.specs.declared.pair.FileNo.TheVariants.{One, Two}
use Rattle.rq_outside.specs.Disk.{DiskMeaning, Elapses, Stays}
use Rattle.rq_outside.specs.Pair.{other, disk_at}
use Rattle.rq_wal.specs.declared.base.Base.{Base}
use Rattle.rq_wal.specs.declared.base.Stored.{Stored}
use Rattle.rq_wal.specs.declared.error.OpenError.{OpenError}
use Rattle.rq_wal.specs.declared.file.WalFile.{WalFile}
use Rattle.rq_wire.specs.declared.frame.Frame.{Frame}
use Rattle.rq_wal.specs.Gate.{EndsIn, IsAtRest}
use Rattle.rq_wal.specs.Log.{IsLog}
use Rattle.rq_wal.specs.Reading.{header_fault, pair_gives}
use Rattle.rq_wal.specs.Replace.{generation_of}
use Rattle.rq_wal.specs.Spelling.{base_bytes, file_bytes}
use Rattle.rq_wal.specs.Stored.{applied_all}
use Rattle.rq_wal.specs.WalFile.{wal_file, wal_end, wal_generation}

-- Beside the current file, which has this number and this generation, the other one doesn't count: it is closed, or it
-- has a header that is right and a generation that isn't the greater one.
abbrev pub IsBehind : FileNo → ℕ → List ℕ → Type 0
IsBehind One generation two = (generation_of two ≡ None) ⊎ ((g : ℕ) × (generation_of two ≡ Some g) × (g ≤ generation) × (header_fault 2 two ≡ None))
IsBehind Two generation one = (generation_of one ≡ None) ⊎ ((g : ℕ) × (generation_of one ≡ Some g) × (g < generation) × (header_fault 1 one ≡ None))

-- how a file is numbered
abbrev pub number_of : FileNo → ℕ
number_of One = 1
number_of Two = 2

-- the content of that file
abbrev pub file_at : FileNo → List ℕ → List ℕ → List ℕ
file_at One one two = one
file_at Two one two = two

-- a file that was read: a log up to a closed gate at the file's end
pub record IsRead (first : Base) (wal : WalFile) (stored : Stored) (file : List ℕ) : Type 0 where
  pub log : IsLog first (wal_generation wal) stored (take (wal_end wal) file)
  pub within : wal_end wal < length file
  pub ends : EndsIn (take (wal_end wal) file) file

-- two contents stand for what is stored, by the file that was opened
pub record IsOpened (first : Base) (one two : List ℕ) (wal : WalFile) (stored : Stored) : Type 0 where
  pub gives : pair_gives first one two ≡ Ok stored
  pub read : IsRead first wal stored (file_at (wal_file wal) one two)
  pub behind : IsBehind (wal_file wal) (wal_generation wal) (file_at (other (wal_file wal)) one two)

-- neither file is open
abbrev pub AreClosed : List ℕ → List ℕ → Type 0
AreClosed one two = (generation_of one ≡ None) × (generation_of two ≡ None)

abbrev pub IsFound : Base → List ℕ → List ℕ → Option (WalFile × Stored) → Type 0
IsFound first one two None = AreClosed one two
IsFound first one two (Some opened) = IsOpened first one two opened.0 opened.1

-- what a stop in the first writing of file one leaves: it isn't open yet, or it is the new file, whole
abbrev pub IsBegun : Base → List ℕ → Type 0
IsBegun first file = (generation_of file ≡ None) ⊎ ((file ≡ file_bytes 1 first []) × (length (base_bytes first) < 2 ^ 64))

-- this, with the first of these frames
abbrev pub IsSome : Stored → List Frame → Result Stored OpenError → Type 0
IsSome stored frames reading = (k : ℕ) × (k ≤ length frames) × (reading ≡ Ok (applied_all stored (take k frames)))

module _ {D F : Type 0} (means : D → DiskMeaning) where
  -- the current file of a pair is a log at rest, and each image of the other one is behind it
  pub record IsCurrent (first : Base) (pair : DiskPair D F) (wal : WalFile) (stored : Stored) : Type 0 where
    pub log : IsLog first (wal_generation wal) stored (take (wal_end wal) (means (disk_at pair (wal_file wal))).content)
    pub at_rest : IsAtRest (means (disk_at pair (wal_file wal))) (wal_end wal)
    pub behind : (c : List ℕ) → (means (disk_at pair (other (wal_file wal)))).images c → IsBehind (wal_file wal) (wal_generation wal) c

  -- Since then the current file took no more than room, and nothing was done to the other one.
  pub record OnlyRoom (old new : DiskPair D F) (wal : WalFile) : Type 0 where
    pub other_file : disk_at new (other (wal_file wal)) ≡ disk_at old (other (wal_file wal))
    pub same : Stays (means (disk_at old (wal_file wal))) (means (disk_at new (wal_file wal)))
    pub time : Elapses (means (disk_at old (wal_file wal))) (means (disk_at new (wal_file wal)))

  -- whatever a crash now leaves of the two files gives a reading with P
  abbrev pub EachImage : Base → DiskPair D F → (Result Stored OpenError → Type 0) → Type 0
  EachImage first pair P = (one two : List ℕ) → (means pair.one).images one → (means pair.two).images two → P (pair_gives first one two)

  -- and whatever a crash since then left
  abbrev pub EachSince : Base → DiskPair D F → DiskPair D F → (Result Stored OpenError → Type 0) → Type 0
  EachSince first old new P = (one two : List ℕ) → (means new.one).since (means old.one).moment one → (means new.two).since (means old.two).moment two → P (pair_gives first one two)

  -- something that a crash now may leave of the two files gives this reading
  abbrev pub SomeImageGives : Base → DiskPair D F → Result Stored OpenError → Type 0
  SomeImageGives first pair reading = (one two : List ℕ) × (means pair.one).images one × (means pair.two).images two × (reading ≡ pair_gives first one two)

  -- whatever a crash now leaves of the two files stands for what is stored
  abbrev pub EachImageGives : Base → DiskPair D F → Stored → Type 0
  EachImageGives first pair stored = EachImage first pair (λ reading. reading ≡ Ok stored)

  -- and whatever a crash since then left
  abbrev pub EachSinceGives : Base → DiskPair D F → DiskPair D F → Stored → Type 0
  EachSinceGives first old new stored = EachSince first old new (λ reading. reading ≡ Ok stored)

  -- and whatever a crash since then left stands for that with the first of these frames
  abbrev pub EachSinceGivesSome : Base → DiskPair D F → DiskPair D F → Stored → List Frame → Type 0
  EachSinceGivesSome first old new stored frames = EachSince first old new (IsSome stored frames)
