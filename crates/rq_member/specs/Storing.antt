-- What storing records did to the files of a node.
use Rattle.std.specs.Prelude.{ℕ, ◌≡◌, ◌<◌, ◌*◌, Bool, true, false, List, [], length, Option, None, Some, Result, Ok, Err}
use Rattle.rq_outside.specs.declared.pair.DiskPair.{DiskPair}
use Rattle.rq_outside.specs.Disk.{DiskMeaning}
use Rattle.rq_wal.specs.declared.file.WalFile.{WalFile}
use Rattle.rq_wal.specs.Spends.{Spends}
use Rattle.rq_wire.specs.declared.config.Member.{Member}
use Rattle.rq_raft.specs.Node.{Persistent, StoredRecord, persistent_after}
use Rattle.rq_world.specs.declared.log_entry.LogEntry.{LogEntry}
use Rattle.rq_member.specs.declared.turn_error.TurnError.{TurnError}
use Rattle.rq_member.specs.declared.turn_error.TurnError.TheVariants as errors
use Rattle.rq_member.specs.Files.{Stands, Moments, HasFile}

abbrev pub refusal_in : {T : Type 0} → Result T TurnError → Option TurnError
refusal_in (Ok value) = None
refusal_in (Err error) = Some error

-- of what was to be stored, what was begun: all of it, but nothing where no disk is at fault
abbrev pub begun : Option TurnError → List (StoredRecord LogEntry) → List (StoredRecord LogEntry)
begun None records = records
begun (Some errors.Disk) records = records
begun (Some other) records = []

module _ {D F : Type 0} (means : D → DiskMeaning) where
  -- so many records cost four calls each; where a disk failed there were some, and it was one of these; another refusal cost none
  abbrev pub SpentStoring : ℕ → DiskPair D F → DiskPair D F → Option TurnError → Type 0
  SpentStoring count old new None = Spends means (4 * count) false old new
  SpentStoring count old new (Some errors.Disk) = (0 < count) × Spends means (4 * count) true old new
  SpentStoring count old new (Some other) = Spends means 0 false old new

module _ {D F : Type 0} (first : List Member) (told : Bool) (means : D → DiskMeaning) where
  -- All of it stands, in a file that is open. Or a disk failed: no file is open, and some of it stands. Or, for another refusal, none of it.
  abbrev pub FilesAre : Persistent LogEntry → List (StoredRecord LogEntry) → DiskPair D F → Option WalFile → Option TurnError → Type 0
  FilesAre kept records pair file None = HasFile first told means pair (persistent_after kept records) file
  FilesAre kept records pair file (Some errors.Disk) = (file ≡ None) × Stands first told means pair kept records
  FilesAre kept records pair file (Some other) = HasFile first told means pair kept file

  -- the files of a node that kept this, where these records were stored or weren't
  pub record HasStored (kept : Persistent LogEntry) (records : List (StoredRecord LogEntry)) (old new : DiskPair D F) (file : Option WalFile) (refusal : Option TurnError) : Type 0 where
    pub files : FilesAre kept records new file refusal
    pub moments : Moments first told means old new kept (begun refusal records)
    pub spent : SpentStoring means (length records) old new refusal
