-- What the read levels promise of each answer. docs/RAFT.md, "What a run promises".
use Rattle.std.specs.Prelude.{ℕ, ◌≡◌, ◌≤◌, ◌<◌, nat_eq, if◌then◌else◌, Option, Some, List, [], ◌∷◌, length, slice_get, ⊤}
use Rattle.rq_history.specs.History.{NodeId}
use Rattle.rq_raft.specs.declared.role.Role.TheVariants.{Leader}
use Rattle.rq_wire.specs.declared.config.Member.{Member}
use Rattle.rq_statement.specs.declared.item.Item.{Item}
use Rattle.rq_statement.specs.declared.res.Res.{Res}
use Rattle.rq_request.specs.declared.say.Say.{Say}
use Rattle.rq_request.specs.declared.say.Say.TheVariants.{Results}
use Rattle.rq_request.specs.declared.ask.Level.{Level}
use Rattle.rq_request.specs.declared.ask.Level.TheVariants as level
use Rattle.rq_world.specs.Node.{Node}
use Rattle.rq_world.specs.World.{Op, Read, Note, Asked, Answered, Ask, Event, At, Run, Then, world, IsPast, chosen}
use Rattle.rq_world.specs.Laws.{Runs}
use Rattle.rq_world.specs.Promise.{op_of, IsReadRight, IsAcknowledged, IsNumbered}

-- what was noted before the ask of this number
abbrev pub before_ask : List Note → ℕ → List Note
before_ask [] number = []
before_ask (Asked k node op ∷ notes) number = if nat_eq k number then [] else Asked k node op ∷ before_ask notes number
before_ask (Answered k say place ∷ notes) number = Answered k say place ∷ before_ask notes number

-- a write that was acknowledged before the ask of this number has this index
pub record IsAcknowledgedBefore (book : List Note) (number index : ℕ) : Type 0 where
  pub k : ℕ
  pub write : ℕ
  pub say : Say
  pub noted : slice_get (before_ask book number) k ≡ Some (Answered write say index)
  pub is_write : IsAcknowledged (op_of book write) say

-- what each level promises of the prefix that was read, or of the read's own entry
abbrev pub Covers : List Note → ℕ → Level → ℕ → Type 0
Covers book number level.None place = ⊤
Covers book number level.Weak place = ⊤
Covers book number level.Linearizable place = (index : ℕ) → IsAcknowledgedBefore book number index → index ≤ place
Covers book number level.Strong place = (index : ℕ) → IsAcknowledgedBefore book number index → index < place

-- at which levels the node must lead when it is asked
abbrev pub NeedsLeader : Level → Type 0 → Type 0
NeedsLeader level.None leads = ⊤
NeedsLeader level.Weak leads = leads
NeedsLeader level.Linearizable leads = leads
NeedsLeader level.Strong leads = leads

module _ (first : List Member) where
  -- Note k answers the ask of this number. It was put to this node, which led then where its level needs a leader. The note was made
  -- at this event, at it or later, and the place is how much that node had applied then.
  pub record IsPlaced (run : Run) (k number place : ℕ) (results : List Res) (op : Op) (level : Level) : Type 0 where
    pub who : NodeId
    pub asked : Run
    pub timeout : ℕ
    pub led : NeedsLeader level ((n : Node) × Runs first asked who n × (n.raft.role ≡ Leader))
    pub before : Run
    pub event : Event
    pub was_asked : IsPast first (Then asked (At who (Ask number timeout op))) (Then before event)
    pub past : IsPast first (Then before event) run
    pub is_new : length (world first before).book ≤ k
    pub noted : slice_get (world first (Then before event)).book k ≡ Some (Answered number (Results results) place)
    pub node : Node
    pub runs : Runs first (Then before event) who node
    pub applied : place ≡ node.raft.applied

  -- each answer to a read is its query's value on the prefix of the one log that the node had applied when it answered; at levels linearizable and strong the prefix holds
  -- every write that was acknowledged before the read was asked
  abbrev pub EachReadCovers : Type 0
  EachReadCovers = (run : Run) → IsNumbered first run → (k number place : ℕ) (results : List Res) (items : List Item) (level : Level) (limit : Option ℕ)
      → slice_get (world first run).book k ≡ Some (Answered number (Results results) place) → op_of (world first run).book number ≡ Some (Read items level limit)
      → IsReadRight first (chosen first run) level place items results × Covers (world first run).book number level place × IsPlaced run k number place results (Read items level limit) level
