-- The world: its nodes, every packet ever sent, and the book of what was asked and answered. docs/RAFT.md, "The world".
use Rattle.std.specs.Prelude.{ℕ, ◌+◌, ◌≡◌, ◌⊎◌, nat_lt, max, if◌then◌else◌, bytes_eq, Bool, Option, None, List, [], ◌∷◌, ◌++◌, length, take, fold, map, slice_get}
use Rattle.rq_statement.specs.declared.item.Item.{Item}
use Rattle.rq_statement.specs.Statements.{Statements}
use Rattle.rq_request.specs.declared.say.Say.{Say}
use Rattle.rq_request.specs.declared.say.Answer.{Answer}
use Rattle.rq_wire.specs.declared.config.Member.{Member}
use Rattle.rq_history.specs.History.{NodeId}
use Rattle.rq_raft.specs.Node.{Packet, StoredRecord, Persistent, persistent_after, one_of}
use Rattle.rq_world.specs.declared.log_entry.LogEntry.{LogEntry}
pub use Rattle.rq_world.specs.Node.{members}
use Rattle.rq_world.specs.Node.{Node, persistent_of, Turn, unchanged}
use Rattle.rq_world.specs.Rules.{elect, beat, receive, write, enqueue, flush, read, tick, apply, compact, started}
use Rattle.rq_request.specs.declared.ask.Level.{Level}

pub data Op : Type 0 where
  Write : (list : Statements) (mixed : Bool) → Op  -- a mixed list may read too
  Queue : (list : Statements) (wait : Bool) → Op  -- a write that may stand in a queue; where it waits, it is answered when it is applied
  Read : (items : List Item) (level : Level) (limit : Option ℕ) → Op  -- at level none with a limit on how long ago the node heard of its leader

-- an ask was put to this node, or it was answered at a place: the index of its entry, or how many entries the database had that was read
pub data Note : Type 0 where
  Asked : (number : ℕ) (node : NodeId) (op : Op) → Note
  Answered : (number : ℕ) (say : Say) (place : ℕ) → Note

-- a node runs, or it is down (or wasn't started yet) and keeps what stands in its files;
-- `rest` is what a failing disk broke off: how much of it stands shows when the files are opened
pub data NodeState : Type 0 where
  Running : (node : Node) → NodeState
  Down : (kept : Persistent LogEntry) (rest : List (StoredRecord LogEntry)) → NodeState

pub record World : Type 0 where
  pub nodes : NodeId → NodeState
  pub sent : List (Packet LogEntry)  -- every packet that was ever sent, in order
  pub moment : ℕ
  pub book : List Note

pub data Act : Type 0 where
  Ask : (number timeout : ℕ) (op : Op) → Act
  Elect : Act
  Beat : Act
  Flush : Act
  Apply : Act
  Compact : Act
  Deliver : (which : ℕ) → Act  -- of all that was ever sent, again and in any order
  Tick : Act
  Idle : Act

pub data Event : Type 0 where
  At : (who : NodeId) (act : Act) → Event
  Stop : (who : NodeId) (act : Act) (k : ℕ) → Event  -- in this act, where the first k things that it makes durable stand
  Fail : (who : NodeId) (act : Act) → Event  -- its disk fails in this act
  Start : (who : NodeId) (k : ℕ) → Event  -- its files are opened, where the first k things that were broken off stand
  FailStart : (who : NodeId) (k : ℕ) → Event  -- the same, and its disk fails while the boot is stored
  Clock : (moment : ℕ) → Event

-- the first world, or a run and one event more
pub data Run : Type 0 where
  First : Run
  Then : (run : Run) (event : Event) → Run

module _ (first : List Member) where
  abbrev pub asked : Node → ℕ → ℕ → ℕ → Op → Turn
  asked n number moment timeout (Write list mixed) = write first n number moment timeout list mixed
  asked n number moment timeout (Queue list wait) = enqueue first n number moment timeout list wait
  asked n number moment timeout (Read items level limit) = read first n number moment timeout items level limit

  -- what a node does in a world with these packets, at this moment
  abbrev pub act : List (Packet LogEntry) → ℕ → Node → Act → Turn
  act sent moment n (Ask number timeout op) = asked n number moment timeout op
  act sent moment n Elect = elect first n
  act sent moment n Beat = beat first n
  act sent moment n Flush = flush first n
  act sent moment n Apply = apply first n
  act sent moment n Compact = compact n
  act sent moment n (Deliver k) = receive first n moment (slice_get sent k)
  act sent moment n Tick = tick n moment
  act sent moment n Idle = unchanged n

  abbrev pub turn : World → Node → Act → Turn
  turn w n a = act w.sent w.moment n a

  abbrev pub set_node : (NodeId → NodeState) → NodeId → NodeState → NodeId → NodeState
  set_node nodes i place j = if bytes_eq j i then place else nodes j

  -- what is noted of an act, and of its answers
  abbrev pub note_of : NodeId → Act → List Note
  note_of i (Ask number timeout op) = Asked number i op ∷ []
  note_of i Elect = []
  note_of i Beat = []
  note_of i Flush = []
  note_of i Apply = []
  note_of i Compact = []
  note_of i (Deliver k) = []
  note_of i Tick = []
  note_of i Idle = []

  -- the entry that an apply applies; else how many were applied
  abbrev pub place_of : Node → Act → ℕ
  place_of n (Ask number timeout op) = n.raft.applied
  place_of n Elect = n.raft.applied
  place_of n Beat = n.raft.applied
  place_of n Flush = n.raft.applied
  place_of n Apply = n.raft.applied + 1
  place_of n Compact = n.raft.applied
  place_of n (Deliver k) = n.raft.applied
  place_of n Tick = n.raft.applied
  place_of n Idle = n.raft.applied

  abbrev pub at_place : ℕ → List Answer → List Note
  at_place place answers = map (λ (answer : Answer). Answered answer.number answer.say place) answers

  -- a running node has done this
  abbrev pub acted : World → NodeId → Node → Act → Turn → World
  acted w i n a t = record w {
    nodes = set_node w.nodes i (Running t.node);
    sent = w.sent ++ t.packets;
    book = w.book ++ (note_of i a ++ at_place (place_of n a) t.answers);
  }

  -- it went down within it: none of its packets and answers left
  abbrev pub down : World → NodeId → Act → NodeState → World
  down w i a place = record w { nodes = set_node w.nodes i place; book = w.book ++ note_of i a }

  abbrev pub noted : World → NodeId → Act → World
  noted w i a = record w { book = w.book ++ note_of i a }

  abbrev pub happens_at : World → NodeId → Act → NodeState → World
  happens_at w i a (Running n) = acted w i n a (turn w n a)
  happens_at w i a (Down kept rest) = noted w i a

  abbrev pub stops_at : World → NodeId → Act → ℕ → NodeState → World
  stops_at w i a k (Running n) = down w i a (Down (persistent_after (persistent_of n) (take k (turn w n a).stored)) [])
  stops_at w i a k (Down kept rest) = noted w i a

  abbrev pub fails_at : World → NodeId → Act → NodeState → World
  fails_at w i a (Running n) = down w i a (Down (persistent_of n) (turn w n a).stored)
  fails_at w i a (Down kept rest) = noted w i a

  abbrev pub starts_at : World → NodeId → ℕ → NodeState → World
  starts_at w i k (Running n) = w
  starts_at w i k (Down kept rest) = record w { nodes = set_node w.nodes i (Running (started first i (persistent_after kept (take k rest))).node) }

  abbrev pub fails_start : World → NodeId → ℕ → NodeState → World
  fails_start w i k (Running n) = w
  fails_start w i k (Down kept rest) = record w { nodes = set_node w.nodes i (Down (persistent_after kept (take k rest)) (started first i (persistent_after kept (take k rest))).stored) }

  abbrev pub happens : World → Event → World
  happens w (At i a) = happens_at w i a (w.nodes i)
  happens w (Stop i a k) = stops_at w i a k (w.nodes i)
  happens w (Fail i a) = fails_at w i a (w.nodes i)
  happens w (Start i k) = if one_of (members first) i then starts_at w i k (w.nodes i) else w
  happens w (FailStart i k) = fails_start w i k (w.nodes i)
  happens w (Clock moment) = record w { moment = max w.moment moment }

  abbrev pub new_files : Persistent LogEntry
  new_files = record { term = 0; vote = None; boot = 0; base = 0; log = [] }

  abbrev pub first_world : World
  first_world = record { nodes = λ i. Down new_files []; sent = []; moment = 0; book = [] }

  abbrev pub world : Run → World
  world First = first_world
  world (Then run event) = happens (world run) event

  -- the run p is a beginning of this run
  abbrev pub IsPast : Run → Run → Type 0
  IsPast p First = p ≡ First
  IsPast p (Then run event) = (p ≡ Then run event) ⊎ IsPast p run

  -- the one log: the longest that a node of these had committed so far
  abbrev pub longer : List LogEntry → NodeState → List LogEntry
  longer best (Running n) = if nat_lt (length best) n.raft.commit then take n.raft.commit n.raft.log else best
  longer best (Down kept rest) = best

  abbrev pub chosen : Run → List LogEntry
  chosen First = []
  chosen (Then run event) = fold (λ best (m : Member). longer best ((world (Then run event)).nodes m.id)) (chosen run) first
