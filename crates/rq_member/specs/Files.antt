-- What the log files of a node have of it, and what they stand for: docs/FORMATS.md, "The file pair".
use Rattle.std.specs.Prelude.{ℕ, ◌≡◌, ◌≤◌, ⊤, IsTrue, Bool, List, [], ◌∷◌, ◌++◌, length, map, take, All, Option, None, Some, Result, Ok, refl}
use Rattle.rq_values.specs.declared.limits.TheConstants.{MAX_COMMAND}
use Rattle.rq_values.specs.Spelling.{u32_bytes, sized, list_bytes}
use Rattle.rq_outside.specs.declared.pair.DiskPair.{DiskPair}
use Rattle.rq_outside.specs.Disk.{DiskMeaning}
use Rattle.rq_wire.specs.declared.config.Member.{Member}
use Rattle.rq_wire.specs.declared.entry.Entry.{Entry}
use Rattle.rq_wire.specs.declared.entry.Body.{Body}
use Rattle.rq_wire.specs.declared.entry.Body.TheVariants as body
use Rattle.rq_wire.specs.declared.frame.Frame.{Frame}
use Rattle.rq_wire.specs.declared.frame.Frame.TheVariants as frame
use Rattle.rq_wal.specs.declared.base.Base.{Base}
use Rattle.rq_wal.specs.declared.base.Stored.{Stored}
use Rattle.rq_wal.specs.declared.error.OpenError.{OpenError}
use Rattle.rq_wal.specs.declared.file.WalFile.{WalFile}
use Rattle.rq_wal.specs.Current.{IsCurrent, EachImage, EachSince}
use Rattle.rq_statement.specs.declared.command.Command.{Command}
use Rattle.rq_statement.specs.declared.command.Command.TheVariants.{NoOp, Config, Execute, Request, StrongQuery, Load, Batch, Once}
use Rattle.rq_statement.specs.Bytes.{command_bytes}
use Rattle.rq_command.specs.Commands.{IsLogged}
use Rattle.rq_raft.specs.Entries.{AreRight}
use Rattle.rq_raft.specs.Node.{Persistent, StoredRecord, Vote, Splice, Boot, Replace, persistent_after}
use Rattle.rq_world.specs.declared.log_entry.LogEntry.{LogEntry}
use Rattle.rq_world.specs.Node.{log_entries, members}

abbrev pub log_entries_are_right : AreRight log_entries
log_entries_are_right = record { of_term = λ term. refl; plain = λ term. refl }

-- what an entry is in the log file: the empty entry of a term has no command
abbrev pub body_of : Command → Body
body_of NoOp = body.NoOp
body_of (Config ids) = body.Data (command_bytes (Config ids))
body_of (Execute list) = body.Data (command_bytes (Execute list))
body_of (Request list) = body.Data (command_bytes (Request list))
body_of (StrongQuery items) = body.Data (command_bytes (StrongQuery items))
body_of (Load items) = body.Data (command_bytes (Load items))
body_of (Batch lists) = body.Data (command_bytes (Batch lists))
body_of (Once id boot number list) = body.Data (command_bytes (Once id boot number list))

abbrev pub stored_entry : LogEntry → Entry
stored_entry entry = record { term = entry.term; body = body_of entry.command }

-- a command that can be read again, and is no longer than an entry's may be
abbrev pub IsShort : Command → Type 0
IsShort command = IsLogged MAX_COMMAND command × (length (command_bytes command) ≤ MAX_COMMAND)

-- what can be read from the log again
abbrev pub IsReadable : Command → Type 0
IsReadable NoOp = ⊤
IsReadable (Config ids) = IsShort (Config ids)
IsReadable (Execute list) = IsShort (Execute list)
IsReadable (Request list) = IsShort (Request list)
IsReadable (StrongQuery items) = IsShort (StrongQuery items)
IsReadable (Load items) = IsShort (Load items)
IsReadable (Batch lists) = IsShort (Batch lists)
IsReadable (Once id boot number list) = IsShort (Once id boot number list)

abbrev pub IsEntryReadable : LogEntry → Type 0
IsEntryReadable entry = IsReadable entry.command

abbrev pub AreReadable : List LogEntry → Type 0
AreReadable log = All IsEntryReadable log

-- a record that can be read again; no snapshot is one yet
abbrev pub IsRecordReadable : StoredRecord LogEntry → Type 0
IsRecordReadable (Vote term vote) = ⊤
IsRecordReadable (Splice from entries) = AreReadable entries
IsRecordReadable (Boot boot) = ⊤
IsRecordReadable (Replace base log) = ⊥

-- what is kept, none of it in a snapshot, and what may be kept more, can be read again
pub record CanBeRead (kept : Persistent LogEntry) (records : List (StoredRecord LogEntry)) : Type 0 where
  pub base : kept.base ≡ 0
  pub log : AreReadable kept.log
  pub all : All IsRecordReadable records

-- the frame that makes a record durable; a snapshot would be the whole log
abbrev pub frame_of : StoredRecord LogEntry → Frame
frame_of (Vote term vote) = frame.Vote term vote
frame_of (Splice from entries) = frame.Splice from (map stored_entry entries)
frame_of (Boot boot) = frame.Boot boot
frame_of (Replace base log) = frame.Splice 1 (map stored_entry log)

module _ (first : List Member) where
  -- no tables, no marks, and the ids of the first members
  abbrev pub first_image : List ℕ
  first_image = 1 ∷ (u32_bytes 0 ++ (u32_bytes 0 ++ list_bytes sized (members first)))

  -- the base of a new node: an empty log, and the first members
  abbrev pub first_base : Base
  first_base = record { term = 0; vote = None; boot = 0; index = 0; last_term = 0; config = first; state = first_image }

  -- what a file stands for that has what a node keeps, of which nothing is in a snapshot
  abbrev pub stored_of : Persistent LogEntry → Stored
  stored_of kept = record { base = first_base; term = kept.term; vote = kept.vote; boot = kept.boot; entries = map stored_entry kept.log }

  -- a pair is read as what is kept, with the first of these records
  abbrev pub IsSomeOf : Persistent LogEntry → List (StoredRecord LogEntry) → Result Stored OpenError → Type 0
  IsSomeOf kept records reading = (k : ℕ) × (k ≤ length records) × (reading ≡ Ok (stored_of (persistent_after kept (take k records))))

  module _ {D F : Type 0} (told : Bool) (means : D → DiskMeaning) where
    -- whatever a crash now leaves of the pair stands for what is kept, with the first of these records
    abbrev pub Stands : DiskPair D F → Persistent LogEntry → List (StoredRecord LogEntry) → Type 0
    Stands pair kept records = IsTrue told → EachImage means first_base pair (IsSomeOf kept records)

    -- and whatever a crash at any moment since then left
    abbrev pub Moments : DiskPair D F → DiskPair D F → Persistent LogEntry → List (StoredRecord LogEntry) → Type 0
    Moments old new kept records = IsTrue told → EachSince means first_base old new (IsSomeOf kept records)

    -- the file is open, and it is the current one of the pair, which stands for what is kept
    abbrev pub HasFile : DiskPair D F → Persistent LogEntry → Option WalFile → Type 0
    HasFile pair kept None = ⊥
    HasFile pair kept (Some wal) = IsTrue told → IsCurrent means first_base pair wal (stored_of kept)
