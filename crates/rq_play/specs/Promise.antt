-- What each run of a script's lines promises. docs/RAFT.md, "What a run promises".
use Rattle.std.specs.Prelude.{◌≡◌, ◌≢◌, ◌<◌, ◌⊎◌, ◌++◌, ℕ, true, Option, Some, List, [], take, slice_get, is_some, ⊤}
use Rattle.rq_history.specs.History.{NodeId}
use Rattle.rq_raft.specs.Node.{Packet, StoredRecord, Persistent, one_of}
use Rattle.rq_world.specs.declared.log_entry.LogEntry.{LogEntry}
use Rattle.rq_world.specs.Node.{Node, persistent_of, members}
use Rattle.rq_statement.specs.declared.item.Item.{Item}
use Rattle.rq_statement.specs.declared.res.Res.{Res}
use Rattle.rq_request.specs.declared.ask.Level.{Level}
use Rattle.rq_request.specs.declared.say.Say.{Say}
use Rattle.rq_request.specs.declared.say.Say.TheVariants.{Results}
use Rattle.rq_world.specs.declared.waiting.Waiting.{Waiting}
use Rattle.rq_world.specs.Origins.{HasAsked}
use Rattle.rq_world.specs.Covers.{Covers, IsPlaced}
use Rattle.rq_world.specs.Promise.{op_of, IsReadRight, IsNumbered, Keeps}
use Rattle.rq_world.specs.Appends.{AsksAppendOnce, HasPlace, WritesHavePlaces}
use Rattle.rq_world.specs.World.{NodeState, Act, IsPast, Running, Down, Op, Read, Answered, chosen}
use Rattle.rq_world.specs.World as world
use Rattle.rq_request.specs.declared.ask.Op.{Op as AskOp}
use Rattle.rq_play.specs.Line.{Line}
use Rattle.rq_play.specs.Said.{Said, Up, Down as WentDown, Put, Rejected, Missed, Gave, Shown, notes_of}
use Rattle.rq_play.specs.Server.{Server, Course, gone_down, opens}
use Rattle.rq_play.specs.Cluster.{Cluster, now, server_in, state_in, Prepared, acts, moved_in, starts, stops, is_running}
use Rattle.rq_play.specs.Asking.{op_in}
use Rattle.rq_play.specs.Reading.{IsReadIn, LacksWords}
use Rattle.rq_play.specs.Runs.{Steps, IsOutside, unanswered}
use Rattle.rq_play.specs.Book.{AreNumbered, AreOpen, IsAcknowledgedAt}

-- ---- one act

-- only this server changes, and these packets were sent
pub record ChangesOne (i : NodeId) (after : Server) (more : List (Packet LogEntry)) (c next : Cluster) : Type 0 where
  pub here : server_in next i ≡ after
  pub others : (j : NodeId) → j ≢ i → server_in next j ≡ server_in c j
  pub sent : (now next).sent ≡ (now c).sent ++ more
  pub moment : (now next).moment ≡ (now c).moment
  pub servers : next.servers ≡ c.servers
  pub first : next.first ≡ c.first
  pub taken : next.taken ≡ c.taken
  pub asks : next.asks ≡ c.asks
  pub shapes : next.shapes ≡ c.shapes
  pub words : next.words ≡ c.words

-- an act at a server changes that server alone, as its own definition has it
abbrev pub EachActIsAtOne : Type 0
EachActIsAtOne = (course : Course) (c : Cluster) (i : NodeId) (a : Act) → ChangesOne i (moved_in course c i a).server (moved_in course c i a).packets c (acts course c i a).0

-- a start of a member whose node is down, and a stop of a node that runs, too
abbrev pub EachStartIsAtOne : Type 0
EachStartIsAtOne = (course : Course) (c : Cluster) (i : NodeId) (kept : Persistent LogEntry) (rest : List (StoredRecord LogEntry)) → state_in c i ≡ Down kept rest → one_of (members c.first) i ≡ true
    → ChangesOne i (opens c.first course.fault course i (c.extras i) kept rest).0 [] c (starts course c i (Down kept rest)).0

abbrev pub EachStopIsAtOne : Type 0
EachStopIsAtOne = (c : Cluster) (i : NodeId) (n : Node) → state_in c i ≡ Running n
    → ChangesOne i (record { state = Down (persistent_of n) []; extra = gone_down (c.extras i) n world.Idle }) [] c (stops c i (Running n)).0

-- ---- a line

abbrev pub Leads : Cluster → Line → Type 0
Leads c line = (said : List Said) × (next : Cluster) × Steps c line said next

-- a line leads somewhere, however its statements are read, or it can't stand, or no random word is left for it, and never two of these
pub record IsDecided (c : Cluster) (line : Line) : Type 0 where
  pub either : (prepared : Prepared) → IsReadIn c line prepared → Leads c line ⊎ IsOutside c line
  pub apart : Leads c line → IsOutside c line → ⊥
  pub enough : Leads c line → LacksWords c line → ⊥
  pub stands : IsOutside c line → LacksWords c line → ⊥

-- a rule of the world does this
abbrev pub HasRule : AskOp → Type 0
HasRule op = is_some (op_in op) ≡ true

-- ---- a run

-- what was said is what the book of the world has
abbrev pub IsTold : List Said → Cluster → Type 0
IsTold said c = notes_of said ≡ (now c).book

-- at some moment of the run the server is in this state
pub record WasIn (c : Cluster) (i : NodeId) (state : NodeState) : Type 0 where
  pub moment : world.Run
  pub past : IsPast c.first moment c.run
  pub is : (world.world c.first moment).nodes i ≡ state

abbrev pub IsSo : Cluster → Said → Type 0
IsSo c (Up i n) = WasIn c i (Running n)
IsSo c (WentDown i) = (state : NodeState) × (is_running state ≢ true) × WasIn c i state
IsSo c (Shown i state) = WasIn c i state
IsSo c (Put number i op) = ⊤
IsSo c (Rejected number status text) = ⊤
IsSo c (Missed number i) = ⊤
IsSo c (Gave number say place) = ⊤

-- what was said of a server was so
abbrev pub AreSo : List Said → Cluster → Type 0
AreSo said c = (k : ℕ) (s : Said) → slice_get said k ≡ Some s → IsSo c s

-- two answers to one ask are one note
abbrev pub AreAnsweredOnce : Cluster → Type 0
AreAnsweredOnce c = (j k number place other : ℕ) (say more : Say) → slice_get (now c).book j ≡ Some (Answered number say place) → slice_get (now c).book k ≡ Some (Answered number more other) → j ≡ k

-- what an answer answers was put before it
abbrev pub AreBehind : Cluster → Type 0
AreBehind c = (k number place : ℕ) (say : Say) → slice_get (now c).book k ≡ Some (Answered number say place) → (op : Op) × (op_of (take k (now c).book) number ≡ Some op)

-- each acknowledged write has its place: the index at which it was acknowledged, and a position in the entry there
abbrev pub HavePlaces : Cluster → Type 0
HavePlaces c = (put answered index : ℕ) (a : IsAcknowledgedAt (now c).book put answered index) → (position : ℕ) × HasPlace c.first c.run a.number index position

-- Asks are numbered one by one, and no two in the book have one number. Each running node is a replica of a prefix of the one log, and
-- each answer is right. Each acknowledged write has a place, and no two have one. Each list in a log, of a node that runs or is down, was
-- asked, and each ask was appended at most once; it was put before it was answered, and answered once.
pub record AreKept (said : List Said) (c : Cluster) : Type 0 where
  pub numbered : AreNumbered 0 said c.asks
  pub apart : IsNumbered c.first c.run
  pub keeps : Keeps c.first c.run
  pub places : WritesHavePlaces c.first c.run
  pub acknowledged : HavePlaces c
  pub asked : (i : NodeId) → HasAsked c.first c.run (state_in c i)
  pub appends : AsksAppendOnce c.first c.run
  pub behind : AreBehind c
  pub once : AreAnsweredOnce c

-- each read that was answered with results
abbrev pub ReadsCover : Cluster → Type 0
ReadsCover c = (k number place : ℕ) (results : List Res) (items : List Item) (level : Level) (limit : Option ℕ)
    → slice_get (now c).book k ≡ Some (Answered number (Results results) place) → op_of (now c).book number ≡ Some (Read items level limit)
    → IsReadRight c.first (chosen c.first c.run) level place items results × Covers (now c).book number level place × IsPlaced c.first c.run k number place results (Read items level limit) level

-- Behind `apply` at a server whose node runs, it runs and has applied all that it had committed, and nothing waits there for an entry
-- among those: so what waited for one was answered.
pub record HasApplied (c next : Cluster) (i : NodeId) (n : Node) : Type 0 where
  pub node : Node
  pub runs : state_in next i ≡ Running node
  pub commit : node.raft.commit ≡ n.raft.commit
  pub applied : node.raft.applied ≡ n.raft.commit
  pub behind : (k : ℕ) (w : Waiting) → slice_get node.waiting k ≡ Some w → n.raft.commit < w.index

-- each ask is answered or unanswered, and each number is as often
abbrev pub IsOpen : List Said → Cluster → Type 0
IsOpen said c = AreOpen said (unanswered c)
