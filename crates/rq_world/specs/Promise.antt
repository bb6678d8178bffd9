-- What each run promises at each of its moments. docs/RAFT.md, "What a run promises".
use Rattle.std.specs.Prelude.{◌≡◌, ◌≤◌, ◌-◌, if◌then◌else◌, nat_eq, ℕ, List, [], ◌∷◌, ◌++◌, length, take, slice_get, true, false, Option, Some, None, ⊤}
use Rattle.rq_statement.specs.declared.item.Item.{Item}
use Rattle.rq_statement.specs.Statements.{Statements}
use Rattle.rq_statement.specs.declared.res.Res.{Res}
use Rattle.rq_request.specs.declared.say.Say.{Say}
use Rattle.rq_request.specs.declared.say.Say.TheVariants.{Results, Queued, Loaded, Backup, Nodes, Ready, Changed, Moved, Refused}
use Rattle.rq_engine.specs.declared.outcome.Outcome.TheVariants as outcomes
use Rattle.rq_engine.specs.Fold.{answer, outcome_behind}
use Rattle.rq_world.specs.declared.log_entry.LogEntry.{LogEntry}
use Rattle.rq_statement.specs.declared.command.Command.{Command}
use Rattle.rq_statement.specs.declared.command.Command.TheVariants.{StrongQuery, Batch}
use Rattle.rq_request.specs.declared.ask.Level.{Level}
use Rattle.rq_request.specs.declared.ask.Level.TheVariants as level
use Rattle.rq_world.specs.Node.{Node, commands, members, replica_of}
use Rattle.rq_world.specs.Rules.{write_command}
use Rattle.rq_wire.specs.declared.config.Member.{Member}
use Rattle.rq_history.specs.History.{NodeId}
use Rattle.rq_world.specs.World.{Op, Write, Queue, Read, Note, Asked, Answered, Running, Act, Ask, Elect, Beat, Flush, Apply, Compact, Deliver, Tick, Idle, Event, At, Stop, Fail, Start, FailStart, Clock, Run, First, Then, world, chosen}

-- the list begins with this one
abbrev pub IsPrefix : {T : Type 0} → List T → List T → Type 0
IsPrefix {T} prefix whole = (rest : List T) × (prefix ++ rest ≡ whole)

-- what the ask of this number was for
abbrev pub op_of : List Note → ℕ → Option Op
op_of [] number = None
op_of (Asked k node op ∷ notes) number = if nat_eq k number then Some op else op_of notes number
op_of (Answered k say place ∷ notes) number = op_of notes number

module _ (first : List Member) where
  -- the log has this command at this index, and these results are its outcome there
  pub record IsOutcome (log : List LogEntry) (index : ℕ) (command : Command) (results : List Res) : Type 0 where
    pub counts : 1 ≤ index
    pub entry : LogEntry
    pub stands : slice_get log (index - 1) ≡ Some entry
    pub is_command : entry.command ≡ command
    pub outcome : outcome_behind (members first) (commands (take (index - 1) log)) command ≡ outcomes.Results results

  -- the results of the queries on the fold of the log's prefix of this length
  abbrev pub IsValue : List LogEntry → ℕ → List Item → List Res → Type 0
  IsValue log place items results = (place ≤ length log) × (results ≡ answer (replica_of first (take place log)) items)

  -- a strong read is an entry of the log
  abbrev pub IsReadRight : List LogEntry → Level → ℕ → List Item → List Res → Type 0
  IsReadRight log level.None place items results = IsValue log place items results
  IsReadRight log level.Weak place items results = IsValue log place items results
  IsReadRight log level.Linearizable place items results = IsValue log place items results
  IsReadRight log level.Strong place items results = IsOutcome log place (StrongQuery items) results

  -- the log has a batch at this index, with this list among its lists
  pub record IsInBatch (log : List LogEntry) (index : ℕ) (list : Statements) : Type 0 where
    pub counts : 1 ≤ index
    pub entry : LogEntry
    pub stands : slice_get log (index - 1) ≡ Some entry
    pub lists : List Statements
    pub is_batch : entry.command ≡ Batch lists
    pub position : ℕ
    pub has : slice_get lists position ≡ Some list

  -- results of a write are those of its entry; results of a read are those of its queries on a prefix of the log
  abbrev pub IsResults : List LogEntry → Op → ℕ → List Res → Type 0
  IsResults chosen (Write list mixed) place results = IsOutcome chosen place (write_command list mixed) results
  IsResults chosen (Queue list wait) place results = ⊥
  IsResults chosen (Read items level limit) place results = IsReadRight chosen level place items results

  -- a queued write that waited stands in a batch; one that didn't is promised nothing
  abbrev pub IsQueued : List LogEntry → Op → ℕ → Type 0
  IsQueued chosen (Write list mixed) place = ⊥
  IsQueued chosen (Queue list true) place = IsInBatch chosen place list
  IsQueued chosen (Queue list false) place = ⊤
  IsQueued chosen (Read items level limit) place = ⊥

  -- a refusal is right; of the other answers none is given yet
  abbrev pub IsRight : List LogEntry → Option Op → Say → ℕ → Type 0
  IsRight chosen None say place = ⊥
  IsRight chosen (Some op) (Results results) place = IsResults chosen op place results
  IsRight chosen (Some op) (Queued sequence) place = IsQueued chosen op place
  IsRight chosen (Some op) Loaded place = ⊥
  IsRight chosen (Some op) (Backup sql) place = ⊥
  IsRight chosen (Some op) (Nodes servers) place = ⊥
  IsRight chosen (Some op) Ready place = ⊥
  IsRight chosen (Some op) Changed place = ⊥
  IsRight chosen (Some op) (Moved address) place = ⊥
  IsRight chosen (Some op) (Refused refusal) place = ⊤

-- ---- what is acknowledged: a write that was answered with results, and a queued write that waited and was told its number

abbrev pub HasResults : Say → Type 0
HasResults (Results results) = ⊤
HasResults (Queued sequence) = ⊥
HasResults Loaded = ⊥
HasResults (Backup sql) = ⊥
HasResults (Nodes servers) = ⊥
HasResults Ready = ⊥
HasResults Changed = ⊥
HasResults (Moved address) = ⊥
HasResults (Refused refusal) = ⊥

abbrev pub HasSequence : Say → Type 0
HasSequence (Results results) = ⊥
HasSequence (Queued sequence) = ⊤
HasSequence Loaded = ⊥
HasSequence (Backup sql) = ⊥
HasSequence (Nodes servers) = ⊥
HasSequence Ready = ⊥
HasSequence Changed = ⊥
HasSequence (Moved address) = ⊥
HasSequence (Refused refusal) = ⊥

abbrev pub IsAcknowledged : Option Op → Say → Type 0
IsAcknowledged None say = ⊥
IsAcknowledged (Some (Write list mixed)) say = HasResults say
IsAcknowledged (Some (Queue list true)) say = HasSequence say
IsAcknowledged (Some (Queue list false)) say = ⊥
IsAcknowledged (Some (Read items level limit)) say = ⊥

module _ (first : List Member) where
  -- a node's replica is the fold of the applied prefix of its log, which is a prefix of the one log
  pub record IsReplica (one_log : List LogEntry) (n : Node) : Type 0 where
    pub applied : IsPrefix (take n.raft.applied n.raft.log) one_log
    pub committed : IsPrefix (take n.raft.commit n.raft.log) one_log
    pub replica : n.replica ≡ replica_of first (take n.raft.applied n.raft.log)

-- ---- numbers of asks

abbrev pub number_of : Act → Option ℕ
number_of (Ask number timeout op) = Some number
number_of Elect = None
number_of Beat = None
number_of Flush = None
number_of Apply = None
number_of Compact = None
number_of (Deliver k) = None
number_of Tick = None
number_of Idle = None

abbrev pub asked_in : Event → Option ℕ
asked_in (At i act) = number_of act
asked_in (Stop i act k) = number_of act
asked_in (Fail i act) = number_of act
asked_in (Start i k) = None
asked_in (FailStart i k) = None
asked_in (Clock moment) = None

-- no ask of this number was put before
abbrev pub IsNew : List Note → Option ℕ → Type 0
IsNew book None = ⊤
IsNew book (Some number) = op_of book number ≡ None

module _ (first : List Member) where
  -- no two asks of the run have one number
  abbrev pub IsNumbered : Run → Type 0
  IsNumbered First = ⊤
  IsNumbered (Then run event) = IsNumbered run × IsNew (world first run).book (asked_in event)

  -- at a moment of a run: each running node is a replica of a prefix of the one log, and each answer that was given is right
  pub record Keeps (run : Run) : Type 0 where
    pub replicas : (i : NodeId) (n : Node) → (world first run).nodes i ≡ Running n → IsReplica first (chosen first run) n
    pub right : (k number : ℕ) (say : Say) (place : ℕ) → slice_get (world first run).book k ≡ Some (Answered number say place)
        → IsRight first (chosen first run) (op_of (world first run).book number) say place

  abbrev pub EachMomentIsKept : Type 0
  EachMomentIsKept = (run : Run) → IsNumbered run → Keeps run
