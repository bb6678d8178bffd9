-- What asks append, and the place of each acknowledged write. docs/RAFT.md, "What a run promises".
use Rattle.std.specs.Prelude.{ℕ, ◌+◌, ◌-◌, ◌≡◌, ◌⊎◌, Some, List, [], ◌∷◌, ◌++◌, length, slice_get}
use Rattle.rq_wire.specs.declared.config.Member.{Member}
use Rattle.rq_history.specs.History.{NodeId}
use Rattle.rq_statement.specs.Statements.{Statements}
use Rattle.rq_request.specs.declared.say.Say.{Say}
use Rattle.rq_world.specs.declared.log_entry.LogEntry.{LogEntry}
use Rattle.rq_statement.specs.declared.command.Command.{Command}
use Rattle.rq_statement.specs.declared.command.Command.TheVariants.{Batch}
use Rattle.rq_world.specs.Node.{QueuedWrite, Node}
use Rattle.rq_world.specs.Rules.{batch, write_command}
use Rattle.rq_world.specs.World.{Op, Write, Queue, Read, Answered, Act, Ask, Elect, Beat, Flush, Apply, Compact, Deliver, Tick, Idle, Event, At, Stop, Fail, Start, FailStart, Clock, Run, Then, world, IsPast, turn, chosen}
use Rattle.rq_world.specs.Laws.{Runs}
use Rattle.rq_world.specs.Promise.{op_of, IsAcknowledged, IsNumbered}

-- in this event the node does this, whether or not it is cut off
abbrev pub Performs : Event → NodeId → Act → Type 0
Performs (At i a) who act = (i ≡ who) × (a ≡ act)
Performs (Stop i a k) who act = (i ≡ who) × (a ≡ act)
Performs (Fail i a) who act = (i ≡ who) × (a ≡ act)
Performs (Start i k) who act = ⊥
Performs (FailStart i k) who act = ⊥
Performs (Clock moment) who act = ⊥

-- the entry holds what was asked: a written list by itself, a queued list at its position in a batch
abbrev pub Holds : Op → ℕ → Command → Type 0
Holds (Write list mixed) position command = (position ≡ 0) × (command ≡ write_command list mixed)
Holds (Queue list wait) position command = (lists : List Statements) × (command ≡ Batch lists) × (slice_get lists position ≡ Some list)
Holds (Read items level limit) position command = ⊥

module _ (first : List Member) where
  -- the act appends for the ask of this number: that ask itself, at position 0, or a flush of it, at its position in the batch
  abbrev pub AppendsFor : Node → Act → ℕ → ℕ → Type 0
  AppendsFor n (Ask k timeout op) number position = (k ≡ number) × (position ≡ 0)
  AppendsFor n Elect number position = ⊥
  AppendsFor n Beat number position = ⊥
  AppendsFor n Flush number position = (q : QueuedWrite) × (slice_get (batch first n) position ≡ Some q) × (q.number ≡ number)
  AppendsFor n Apply number position = ⊥
  AppendsFor n Compact number position = ⊥
  AppendsFor n (Deliver k) number position = ⊥
  AppendsFor n Tick number position = ⊥
  AppendsFor n Idle number position = ⊥

  -- at some moment a running node does what appends for the ask of this number, and its rule makes its log longer by an entry of this term at this index
  pub record IsAppended (run : Run) (number term index position : ℕ) : Type 0 where
    pub before : Run
    pub event : Event
    pub past : IsPast first (Then before event) run
    pub who : NodeId
    pub act : Act
    pub does : Performs event who act
    pub node : Node
    pub runs : Runs first before who node
    pub brings : AppendsFor node act number position
    pub entry : LogEntry
    pub longer : (turn first (world first before) node act).node.raft.log ≡ node.raft.log ++ entry ∷ []
    pub of_term : entry.term ≡ term
    pub at : index ≡ length node.raft.log + 1

  pub record AsksAppendOnce (run : Run) : Type 0 where
    -- the rule for an ask, or for a flush, leaves the log, or makes it longer by one entry
    pub one : (node : Node) (moment : Run) (act : Act) (number position : ℕ) → AppendsFor node act number position → ((turn first (world first moment) node act).node.raft.log ≡ node.raft.log)
        ⊎ ((entry : LogEntry) × ((turn first (world first moment) node act).node.raft.log ≡ node.raft.log ++ entry ∷ []))
    -- an ask appends at one term, index and position ..
    pub once : (number term index position term' index' position' : ℕ) → IsAppended run number term index position → IsAppended run number term' index' position' → (term ≡ term') × (index ≡ index') × (position ≡ position')
    -- .. and another ask doesn't append there
    pub apart : (number other term index position : ℕ) → IsAppended run number term index position → IsAppended run other term index position → number ≡ other

  abbrev pub EachAskAppendsOnce : Type 0
  EachAskAppendsOnce = (run : Run) → IsNumbered first run → AsksAppendOnce run

  -- ---- the place of a write: the index of its entry, and its position there

  pub record HasPlace (run : Run) (number index position : ℕ) : Type 0 where
    pub entry : LogEntry
    pub stands : slice_get (chosen first run) (index - 1) ≡ Some entry
    pub appended : IsAppended run number entry.term index position
    pub op : Op
    pub asked : op_of (world first run).book number ≡ Some op
    pub holds : Holds op position entry.command

  pub record WritesHavePlaces (run : Run) : Type 0 where
    -- each write that was acknowledged at an index has a place there ..
    pub placed : (k number index : ℕ) (say : Say) → slice_get (world first run).book k ≡ Some (Answered number say index) → IsAcknowledged (op_of (world first run).book number) say → (position : ℕ) × HasPlace run number index position
    -- .. and two of one place are one answer
    pub apart : (j k number other index position : ℕ) (say more : Say)
        → slice_get (world first run).book j ≡ Some (Answered number say index) → IsAcknowledged (op_of (world first run).book number) say
        → slice_get (world first run).book k ≡ Some (Answered other more index) → IsAcknowledged (op_of (world first run).book other) more
        → HasPlace run number index position → HasPlace run other index position → j ≡ k

  abbrev pub EachWriteHasItsPlace : Type 0
  EachWriteHasItsPlace = (run : Run) → IsNumbered first run → WritesHavePlaces run
