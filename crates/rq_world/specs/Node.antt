-- A node, and what a rule gives: docs/RAFT.md, "The node".
use Rattle.std.specs.Prelude.{ℕ, Bool, min, map, List, [], ◌∷◌, length, None}
use Rattle.rq_statement.specs.declared.item.Item.{Item}
use Rattle.rq_statement.specs.Statements.{Statements}
use Rattle.rq_statement.specs.declared.command.Command.{Command}
use Rattle.rq_engine.specs.Fold.{State}
use Rattle.rq_engine.specs.Fold as engine
use Rattle.rq_wire.specs.declared.config.Member.{Member}
use Rattle.rq_history.specs.History.{NodeId}
use Rattle.rq_request.specs.declared.say.Say.{Say}
use Rattle.rq_request.specs.declared.say.Answer.{Answer}
use Rattle.rq_raft.specs.Entries.{Entries}
use Rattle.rq_raft.specs.Node.{RaftNode, Packet, StoredRecord, Persistent}
use Rattle.rq_world.specs.declared.log_entry.LogEntry.{LogEntry}
use Rattle.rq_statement.specs.declared.command.Command.TheVariants.{NoOp}
use Rattle.rq_world.specs.declared.waiting.Waiting.{Waiting}

-- the pass of a linearizable read: the ask's number, the index that must be applied, the probe above which replies count, and the term
pub record Pass : Type 0 where
  pub id : ℕ
  pub least : ℕ
  pub mark : ℕ
  pub term : ℕ

-- a linearizable read that waits for its pass
pub record PendingRead : Type 0 where
  pub pass : Pass
  pub items : List Item
  pub asked : ℕ  -- the moment at which it was put
  pub timeout : ℕ

-- a queued write that isn't appended yet: its sequence number, its ask's number and list, and whether that ask still waits
pub record QueuedWrite : Type 0 where
  pub sequence : ℕ
  pub number : ℕ
  pub list : Statements
  pub waits : Bool
  pub asked : ℕ  -- the moment at which it was put
  pub timeout : ℕ

-- the part that agrees with others, how often it booted, the asks whose entry isn't applied yet, the reads that wait for their pass, the queue, and the replica
pub record Node : Type 0 where
  pub raft : RaftNode LogEntry
  pub boot : ℕ
  pub waiting : List Waiting  -- in rising order of indexes
  pub pending_reads : List PendingRead  -- in the order of their asks
  pub queue : List QueuedWrite  -- in rising order of sequence numbers
  pub last : ℕ  -- the last sequence number that was given since the start
  pub replica : State  -- what the applied entries made of the first state

abbrev pub persistent_of : Node → Persistent LogEntry
persistent_of n = record { term = n.raft.term; vote = n.raft.vote; boot = n.boot; base = n.raft.base; log = n.raft.log }

-- the entries of the log, at most 64 to a packet; members don't change yet, so no entry is a configuration of them, also where its command is one
abbrev pub log_entries : Entries LogEntry
log_entries = record {
  term_of = λ e. e.term;
  members_of = λ e. None;
  empty = λ term. record { term = term; command = NoOp };
  fit = λ es. min 64 (length es);
}

-- the node after a rule, what it makes durable, its packets and its answers, each in order
pub record Turn : Type 0 where
  pub node : Node
  pub stored : List (StoredRecord LogEntry)
  pub packets : List (Packet LogEntry)
  pub answers : List Answer

abbrev pub unchanged : Node → Turn
unchanged n = record { node = n; stored = []; packets = []; answers = [] }

abbrev pub says : Node → ℕ → Say → Turn
says n number say = record (unchanged n) { answers = record { number = number; say = say } ∷ [] }

-- ---- the replica

-- what the entries of a log have a replica do
abbrev pub commands : List LogEntry → List Command
commands log = map (λ (e : LogEntry). e.command) log

module _ (first : List Member) where
  abbrev pub members : List NodeId
  members = map (λ (m : Member). m.id) first

  -- the fold of a log, from the ids of the first members
  abbrev pub replica_of : List LogEntry → State
  replica_of log = engine.replica members (commands log)
