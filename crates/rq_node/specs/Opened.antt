-- What a pair of log files is for the node that starts over it: docs/RAFT.md, "Start".
use Rattle.std.specs.Prelude.{◌≡◌, ◌⊎◌, ◌≤◌, ◌<◌, ◌+◌, ◌-◌, ◌^◌, min, ℕ, List, ◌∷◌, ◌++◌, length, map, Result, Ok, Err}
use Rattle.rq_wire.specs.declared.entry.Entry.{Entry}
use Rattle.rq_wire.specs.declared.entry.Body.{Body}
use Rattle.rq_wire.specs.declared.entry.Body.TheVariants as body
use Rattle.rq_wal.specs.declared.base.Stored.{Stored}
use Rattle.rq_wal.specs.declared.error.OpenError.{OpenError}
use Rattle.rq_wal.specs.declared.error.OpenError.TheVariants as opening
use Rattle.rq_values.specs.declared.error.DecodeError.{DecodeError}
use Rattle.rq_values.specs.declared.error.DecodeError.TheVariants as commands
use Rattle.rq_command.specs.Whole.{Decodes}
use Rattle.rq_node.specs.declared.error.NodeError.{NodeError}
use Rattle.rq_node.specs.declared.error.NodeError.TheVariants as errors
use Rattle.rq_node.specs.declared.log_entry.LogEntry.{LogEntry}
use Rattle.rq_node.specs.Files.{stored_entry, stored_of}
use Rattle.rq_node.specs.Node.{Node, Persistent}
use Rattle.rq_node.specs.Rules.{started}
use Rattle.rq_node.specs.Sound.{AreReadable, most_bytes}

-- a node that was started so often is started no more
abbrev pub most_boots : ℕ
most_boots = 2 ^ 62

-- the refusal of a pair's opening is the node's
abbrev pub refusal_of : OpenError → NodeError
refusal_of opening.Disk = errors.Disk
refusal_of (opening.NotAWal file place byte) = errors.NotAWal file place byte
refusal_of (opening.Version version) = errors.Version version
refusal_of opening.NoMemory = errors.NoMemory

-- these bytes are no command of an entry: too long, or read as this error
abbrev pub IsNoCommand : List ℕ → DecodeError → Type 0
IsNoCommand bytes error =
    ((most_bytes < length bytes) × (error ≡ commands.Long 0 (min (2 ^ 32 - 1) (length bytes)))) ⊎ Decodes most_bytes bytes (Err error)

-- why the entry at an index is none of a node's log
abbrev pub IsNoEntry : ℕ → Body → NodeError → Type 0
IsNoEntry index body.NoOp e = ⊥
IsNoEntry index (body.Config config) e = e ≡ errors.Config index
IsNoEntry index (body.Data bytes) e = (error : DecodeError) × (e ≡ errors.Command index error) × IsNoCommand bytes error

-- the first entry that is none of a node's log, behind those that are, and why
pub record IsNoLog (entries : List Entry) (e : NodeError) : Type 0 where
  pub log : List LogEntry
  pub entry : Entry
  pub more : List Entry
  pub split : entries ≡ map stored_entry log ++ entry ∷ more
  pub readable : AreReadable log
  pub wrong : IsNoEntry (length log + 1) entry.body e

-- why what a pair was read as starts no node: it was started too often, or else its log is none of a node's
abbrev pub IsRefusal : Result Stored OpenError → NodeError → Type 0
IsRefusal (Ok stored) e = ((most_boots ≤ stored.boot) × (e ≡ errors.Ended stored.boot)) ⊎ ((stored.boot < most_boots) × IsNoLog stored.entries e)
IsRefusal (Err error) e = e ≡ refusal_of error

-- what a pair was read as starts this node
pub record IsStart (id : List ℕ) (reading : Result Stored OpenError) (node : Node) : Type 0 where
  pub kept : Persistent
  pub is : reading ≡ Ok (stored_of id kept)
  pub readable : AreReadable kept.log
  pub boots : kept.boot < most_boots
  pub node_is : node ≡ (started id kept).node
