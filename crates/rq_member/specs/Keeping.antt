-- A rule's log, and what it stores.
use Rattle.std.specs.Prelude.{ℕ, ◌≡◌, ◌≤◌, ◌<◌, ◌+◌, ◌-◌, ◌⊎◌, List, [], ◌∷◌, ◌++◌, length, take, Option, Some, None, if◌then◌else◌}
use Rattle.rq_log.specs.declared.moves.Moves.{Moves}
use Rattle.rq_log.specs.Views.{stored_of, spell}
use Rattle.rq_raft.specs.Node.{RaftNode, RaftTurn, Splice, is_leader}
use Rattle.rq_world.specs.declared.log_entry.LogEntry.{LogEntry}
use Rattle.rq_member.specs.Files.{AreReadable}

-- the log from an index on is these entries, each of which can be read again; before them it is as it was
pub record IsSpliced (old new : List LogEntry) (from : ℕ) (entries : List LogEntry) : Type 0 where
  pub first : 0 < from
  pub next : from ≤ length old + 1
  pub some : 0 < length entries
  pub log : new ≡ take (from - 1) old ++ entries
  pub readable : AreReadable entries

-- the rule stores nothing and leaves the log; or it stores what makes the log that the node has then
abbrev pub StoresItsLog : RaftNode LogEntry → RaftTurn LogEntry → Type 0
StoresItsLog n t =
    ((t.stored ≡ []) × (t.node.log ≡ n.log)) ⊎ ((from : ℕ) × (entries : List LogEntry) × (t.stored ≡ Splice from entries ∷ []) × IsSpliced n.log t.node.log from entries)

pub record IsKeeping (n : RaftNode LogEntry) (t : RaftTurn LogEntry) : Type 0 where
  pub base : t.node.base ≡ n.base
  pub stores : StoresItsLog n t

-- what the core's last call gave, at the node that it left
abbrev pub moved : RaftNode LogEntry → Moves → RaftTurn LogEntry
moved node moves = record { node = node; stored = stored_of node.log moves.splice; packets = spell node.log moves.packets }

-- the term that a node leads, if it does
abbrev pub led_by : RaftNode LogEntry → Option ℕ
led_by n = if is_leader n.role then Some n.term else None
