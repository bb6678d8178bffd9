-- What a pair of log files is for the node that starts over it: docs/RAFT.md, "Start".
use Rattle.std.specs.Prelude.{ℕ, ◌≡◌, ◌⊎◌, ◌≤◌, ◌<◌, ◌+◌, ◌^◌, Bool, true, false, List, [], ◌∷◌, length, map, take, Option, None, Some, Result, Ok, Err}
use Rattle.rq_outside.specs.declared.pair.DiskPair.{DiskPair}
use Rattle.rq_outside.specs.Disk.{DiskMeaning}
use Rattle.rq_wal.specs.declared.base.Stored.{Stored}
use Rattle.rq_wal.specs.declared.error.OpenError.{OpenError}
use Rattle.rq_wal.specs.declared.error.OpenError.TheVariants as opening
use Rattle.rq_wire.specs.declared.config.Member.{Member}
use Rattle.rq_wire.specs.declared.entry.Entry.{Entry}
use Rattle.rq_values.specs.declared.error.DecodeError.{DecodeError}
use Rattle.rq_history.specs.History.{NodeId}
use Rattle.rq_raft.specs.Node.{Persistent, StoredRecord, Boot, persistent_after}
use Rattle.rq_world.specs.declared.log_entry.LogEntry.{LogEntry}
use Rattle.rq_world.specs.Node.{Node}
use Rattle.rq_world.specs.Rules.{started}
use Rattle.rq_member.specs.declared.error.NodeError.{NodeError}
use Rattle.rq_member.specs.declared.error.NodeError.TheVariants as errors
use Rattle.rq_member.specs.Files.{stored_entry, stored_of, AreReadable, CanBeRead, Stands}
use Rattle.rq_member.specs.Reading.{IsUnreadable}

-- a node that was started so often is started no more
abbrev pub most_boots : ℕ
most_boots = 2 ^ 62

-- the refusal of a pair's opening is the node's
abbrev pub refusal_of : OpenError → NodeError
refusal_of opening.Disk = errors.Disk
refusal_of (opening.NotAWal file place byte) = errors.NotAWal file place byte
refusal_of (opening.Version version) = errors.Version version
refusal_of opening.NoMemory = errors.NoMemory

abbrev pub disk_failed : {T : Type 0} → Result T NodeError → Bool
disk_failed (Err errors.Disk) = true
disk_failed other = false

-- how a stored entry that is none of a log is told
abbrev pub entry_refusal : ℕ → Option DecodeError → NodeError
entry_refusal index None = errors.Config index
entry_refusal index (Some error) = errors.Command index error

-- the stored entries are no log
abbrev pub IsNoLog : List Entry → NodeError → Type 0
IsNoLog entries e = (index : ℕ) × (why : Option DecodeError) × (e ≡ entry_refusal index why) × IsUnreadable 0 entries index why

-- why what a pair was read as starts no node: its log is none, or else it was started too often
abbrev pub IsRefusal : Result Stored OpenError → NodeError → Type 0
IsRefusal (Ok stored) e = IsNoLog stored.entries e ⊎ ((most_boots ≤ stored.boot) × (e ≡ errors.Ended stored.boot))
IsRefusal (Err error) e = e ≡ refusal_of error

-- what a pair was read as starts this node
pub record IsStart (first : List Member) (id : NodeId) (reading : Result Stored OpenError) (node : Node) : Type 0 where
  pub kept : Persistent LogEntry
  pub is : reading ≡ Ok (stored_of first kept)
  pub base : kept.base ≡ 0
  pub readable : AreReadable kept.log
  pub boots : kept.boot < most_boots
  pub node_is : node ≡ (started first id kept).node

module _ {D F : Type 0} (first : List Member) (told : Bool) (means : D → DiskMeaning) where
  -- What an opening that failed has left: what stood there before; or it was settled, and some of the boot stands.
  abbrev pub FailedOpening : DiskPair D F → Persistent LogEntry → List (StoredRecord LogEntry) → Type 0
  FailedOpening pair kept records =
      Stands first told means pair kept records ⊎ ((k : ℕ) × Stands first told means pair (persistent_after kept (take k records)) (Boot ((persistent_after kept (take k records)).boot + 1) ∷ []))
