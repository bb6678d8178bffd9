-- What a pair of log files stands for, while its node runs and after it went down.
use Rattle.std.specs.Prelude.{◌≡◌, ◌⊎◌, ◌+◌, ◌*◌, ℕ, Bool, true, false, IsTrue, List, [], ◌∷◌, length, take, Option, Some, None, Result, Ok, Err, All, ⊤}
use Rattle.rq_outside.specs.declared.pair.DiskPair.{DiskPair}
use Rattle.rq_outside.specs.Disk.{DiskMeaning}
use Rattle.rq_wal.specs.declared.base.Stored.{Stored}
use Rattle.rq_wal.specs.declared.error.OpenError.{OpenError}
use Rattle.rq_wal.specs.declared.file.WalFile.{WalFile}
use Rattle.rq_wal.specs.Current.{IsCurrent, EachImage, EachSince}
use Rattle.rq_wal.specs.Spends.{Spends}
use Rattle.rq_node.specs.declared.node.Node.{Node as Running}
use Rattle.rq_node.specs.declared.error.NodeError.{NodeError}
use Rattle.rq_node.specs.declared.error.NodeError.TheVariants as refusals
use Rattle.rq_node.specs.declared.turn_error.TurnError.{TurnError}
use Rattle.rq_node.specs.declared.turn_error.TurnError.TheVariants as failures
use Rattle.rq_node.specs.Node.{Persistent, StoredRecord, Vote, Splice, Boot, persistent_of, persistent_after}
use Rattle.rq_node.specs.Files.{first_base, stored_of}
use Rattle.rq_node.specs.Sound.{AreReadable}

-- a disk failed
abbrev pub disk_failed : {T : Type 0} → Result T NodeError → Bool
disk_failed (Err refusals.Disk) = true
disk_failed other = false

-- a file is read as what is kept, with the first of these things
abbrev pub IsSomeOf : List ℕ → Persistent → List StoredRecord → Result Stored OpenError → Type 0
IsSomeOf id kept items reading = (k : ℕ) × (reading ≡ Ok (stored_of id (persistent_after kept (take k items))))

-- the entries are read from the log again
abbrev pub IsItemReadable : StoredRecord → Type 0
IsItemReadable (Vote term vote) = ⊤
IsItemReadable (Splice from entries) = AreReadable entries
IsItemReadable (Boot boot) = ⊤

-- what is kept, and what may be kept more, is read from the log again
abbrev pub CanBeRead : Persistent → List StoredRecord → Type 0
CanBeRead kept items = AreReadable kept.log × All IsItemReadable items

module _ {D F : Type 0} (means : D → DiskMeaning) where
  -- what storing so many things spends, by four calls each; and nothing for want of memory
  abbrev pub SpentStoring : {T : Type 0} → ℕ → DiskPair D F → DiskPair D F → Result T TurnError → Type 0
  SpentStoring count old new (Ok value) = Spends means (4 * count) false old new
  SpentStoring count old new (Err failure) = (failure ≡ failures.Disk → Spends means (4 * count) true old new) × (failure ≡ failures.NoMemory → Spends means 0 false old new)

module _ {D F : Type 0} (told : Bool) (means : D → DiskMeaning) where
  -- whatever a crash now leaves of the pair stands for what is kept, with the first of these things
  abbrev pub Stands : DiskPair D F → List ℕ → Persistent → List StoredRecord → Type 0
  Stands pair id kept items = IsTrue told → EachImage means (first_base id) pair (IsSomeOf id kept items)

  -- the file is open, and it is the current one of the pair, which stands for what is kept
  abbrev pub HasFile : DiskPair D F → List ℕ → Persistent → Option WalFile → Type 0
  HasFile pair id kept None = ⊥
  HasFile pair id kept (Some wal) = IsTrue told → IsCurrent means (first_base id) pair wal (stored_of id kept)

  -- the running node's file is open, and has what the node keeps
  abbrev pub IsOpen : DiskPair D F → Running → Type 0
  IsOpen pair node = HasFile pair node.state.id (persistent_of node.state) node.file

  -- The pair is as it was; or whatever a crash at any moment since then left of it stands for what was kept, with the first of these things.
  abbrev pub Moments : DiskPair D F → DiskPair D F → List ℕ → Persistent → List StoredRecord → Type 0
  Moments old new id kept items = (new ≡ old) ⊎ (IsTrue told → EachSince means (first_base id) old new (IsSomeOf id kept items))

  -- A write of these things was broken off. Some of them stand.
  pub record IsBroken (new : DiskPair D F) (id : List ℕ) (kept : Persistent) (items : List StoredRecord) : Type 0 where
    pub first : StoredRecord
    pub more : List StoredRecord
    pub some : items ≡ first ∷ more
    pub stands : Stands new id kept items

  -- What an opening that failed has left: what stood there before; or it was settled, and some of the boot stands.
  abbrev pub FailedOpening : DiskPair D F → List ℕ → Persistent → List StoredRecord → Type 0
  FailedOpening pair id kept items =
      Stands pair id kept items ⊎ ((k : ℕ) × Stands pair id (persistent_after kept (take k items)) (Boot ((persistent_after kept (take k items)).boot + 1) ∷ []))
