-- The cluster of a script and what its lines do: events of the world, one after the other. docs/SCRIPT.md, "Lines".
use Rattle.std.specs.Prelude.{ℕ, zero, suc, ◌+◌, ◌-◌, ◌==◌, ◌&&◌, ◌||◌, not, nat_le, if◌then◌else◌, bytes_eq, Bool, true, false, Option, Some, None, is_some, Result, Ok, Err, List, [], ◌∷◌, ◌++◌, length, map, slice_get, codes}
use Rattle.std.specs.Ordering.{nat_cmp, is_lt}
use Rattle.std.specs.Cmp.Lexicographic.{slice_cmp}
use Rattle.rq_wire.specs.declared.config.Member.{Member}
use Rattle.rq_history.specs.History.{NodeId}
use Rattle.rq_raft.specs.Node.{Packet, one_of}
use Rattle.rq_statement.specs.declared.item.Item.{Item}
use Rattle.rq_request.specs.declared.shape.Shape.{Shape}
use Rattle.rq_asking.specs.declared.reading.Requested.{Requested}
use Rattle.rq_asking.specs.declared.reading.Defect.{Defect}
use Rattle.rq_asking.specs.Requested.{requested_of, status_of, text_of}
use Rattle.rq_asking.specs.Asked.{op_at}
use Rattle.rq_world.specs.declared.log_entry.LogEntry.{LogEntry}
use Rattle.rq_world.specs.Node.{Node, Turn}
use Rattle.rq_world.specs.World.{World, NodeState, Running, Down, Act, Ask, Op, Event, First, Then, act}
use Rattle.rq_world.specs.World as world
use Rattle.rq_play.specs.Line.{Action, Elect, Beat, Flush, Apply, Compact, Ask as AskLine, Stop, StopWithin, Start, Cut, Heal, Show, Line, Skip, Cluster as ClusterLine, At, Deliver, Run as RunLine, Clock}
use Rattle.rq_play.specs.Said.{Said, Down as WentDown, Rejected, Missed, Shown}
use Rattle.rq_play.specs.Server.{Extra, Server, Moved, Course, gone_down, moves, event_of, opens, opening}
use Rattle.rq_play.specs.Asking.{op_in, plain, set_shape}

-- the servers in the order of the cluster line, the first configuration, all that has happened, what the lines keep of each server,
-- which packets, counted from 0, were delivered or passed over, how many asks there were, the shape of each one's reply, and the random words to come
pub record Cluster : Type 0 where
  pub servers : List NodeId
  pub first : List Member
  pub run : world.Run
  pub extras : NodeId → Extra
  pub taken : ℕ → Bool
  pub asks : ℕ
  pub shapes : ℕ → Shape
  pub words : List ℕ

abbrev pub now : Cluster → World
now c = world.world c.first c.run

abbrev pub state_in : Cluster → NodeId → NodeState
state_in c i = (now c).nodes i

abbrev pub server_in : Cluster → NodeId → Server
server_in c i = record { state = state_in c i; extra = c.extras i }

-- a cluster, and what was said on the way there
abbrev pub Spoken : Type 0
Spoken = Cluster × List Said

abbrev pub set_extra : (NodeId → Extra) → NodeId → Extra → NodeId → Extra
set_extra extras i extra j = if bytes_eq j i then extra else extras j

abbrev pub keeps_extra : Cluster → NodeId → Extra → Cluster
keeps_extra c i extra = record c { extras = set_extra c.extras i extra }

-- an event more, which leaves this of a server
abbrev pub goes : Cluster → Event → NodeId → Extra → Cluster
goes c event i extra = record c { run = Then c.run event; extras = set_extra c.extras i extra }

-- ---- an act at a server

abbrev pub rule_of : Cluster → Act → Node → Turn
rule_of c a n = act c.first (now c).sent (now c).moment n a

abbrev pub moved_in : Course → Cluster → NodeId → Act → Moved
moved_in course c i a = moves c.first course i a (rule_of c a) (c.extras i) (state_in c i)

abbrev pub acts : Course → Cluster → NodeId → Act → Spoken
acts course c i a = (goes c (event_of c.first course i a (rule_of c a) (c.extras i) (state_in c i)) i (moved_in course c i a).server.extra, (moved_in course c i a).said)

-- ---- starts and stops

abbrev pub goes_if : Cluster → Option Event → NodeId → Extra → Cluster
goes_if c None i extra = keeps_extra c i extra
goes_if c (Some event) i extra = goes c event i extra

-- of a server that is down
abbrev pub starts : Course → Cluster → NodeId → NodeState → Spoken
starts course c i (Running n) = (c, [])
starts course c i (Down kept rest) =
    let opened = opens c.first course.fault course i (c.extras i) kept rest in (goes_if c (opening c.first course.fault course i) i opened.0.extra, opened.1)

-- of a running node, at once
abbrev pub stops : Cluster → NodeId → NodeState → Spoken
stops c i (Running n) = (goes c (world.Stop i world.Idle 0) i (gone_down (c.extras i) n world.Idle), WentDown i ∷ [])
stops c i (Down kept rest) = (c, [])

-- stop within an event to come
abbrev pub arms : ℕ → ℕ → Cluster → NodeId → Spoken
arms calls pick c i = (keeps_extra c i (record (c.extras i) { armed = Some (record { calls = calls; pick = pick }) }), [])

abbrev pub cuts : Bool → Cluster → NodeId → Spoken
cuts cut c i = (keeps_extra c i (record (c.extras i) { is_cut = cut }), [])

-- ---- packets

abbrev pub take_out : (ℕ → Bool) → ℕ → ℕ → Bool
take_out taken k j = if j == k then true else taken j

abbrev pub took : Cluster → ℕ → Cluster
took c k = record c { taken = take_out c.taken k }

abbrev pub is_named : Cluster → NodeId → Bool
is_named c i = one_of c.servers i

-- it counts as delivered also where no such node is there
abbrev pub delivers : Course → Cluster → ℕ → Option (Packet LogEntry) → Spoken
delivers course c k None = (c, [])
delivers course c k (Some p) = if is_named c p.to then acts course (took c k) p.to (world.Deliver k) else (took c k, [])

-- the lowest packet, these being counted from k, that was neither delivered nor passed over
abbrev pub lowest : (ℕ → Bool) → ℕ → List (Packet LogEntry) → Option ℕ
lowest taken k [] = None
lowest taken k (p ∷ ps) = if taken k then lowest taken (k + 1) ps else Some k

abbrev pub is_cut_at : Cluster → NodeId → Bool
is_cut_at c i = is_named c i && (c.extras i).is_cut

abbrev pub is_cut_off : Cluster → Option (Packet LogEntry) → Bool
is_cut_off c None = false
is_cut_off c (Some p) = is_cut_at c p.from || is_cut_at c p.to

-- it is passed over where its sender or its receiver is cut off, else it is delivered
abbrev pub takes : Course → Cluster → ℕ → Option (Packet LogEntry) → Spoken
takes course c k packet = if is_cut_off c packet then (took c k, []) else delivers course c k packet

abbrev pub takes_lowest : Course → Cluster → Option ℕ → Spoken
takes_lowest course c None = (c, [])
takes_lowest course c (Some k) = takes course c k (slice_get (now c).sent k)

-- ---- the cluster line

abbrev pub is_first : world.Run → Bool
is_first First = true
is_first (Then run event) = false

abbrev pub is_none : List NodeId → Bool
is_none [] = true
is_none (i ∷ rest) = false

abbrev pub are_apart : List NodeId → Bool
are_apart [] = true
are_apart (i ∷ rest) = not (one_of rest i) && are_apart rest

-- 1 to 9 distinct names
abbrev pub is_allowed : List NodeId → Bool
is_allowed ids = nat_le 1 (length ids) && (nat_le (length ids) 9 && are_apart ids)

-- nothing happened yet
abbrev pub can_name : Cluster → List NodeId → Bool
can_name c ids = is_allowed ids && is_first c.run

-- a voter, at two ports of its name
abbrev pub member_of : NodeId → Member
member_of id = record { id = id; voter = true; http = id ++ codes ":4001"; raft = id ++ codes ":4002" }

-- in rising order by bytes
abbrev pub put_id : NodeId → List NodeId → List NodeId
put_id i [] = i ∷ []
put_id i (j ∷ js) = if is_lt (slice_cmp nat_cmp i j) then i ∷ j ∷ js else j ∷ put_id i js

abbrev pub in_order : List NodeId → List NodeId
in_order [] = []
in_order (i ∷ ids) = put_id i (in_order ids)

abbrev pub new_extra : Extra
new_extra = record { armed = None; lost = []; failures = 0; is_cut = false }

-- before the cluster line
abbrev pub first_cluster : List ℕ → Cluster
first_cluster words = record { servers = []; first = []; run = First; extras = λ i. new_extra; taken = λ k. false; asks = 0; shapes = λ number. plain; words = words }

-- the servers are named, with new files, and none has started
abbrev pub named : Cluster → List NodeId → Cluster
named c ids = record (first_cluster c.words) { servers = ids; first = map member_of (in_order ids); asks = c.asks }

abbrev pub starts_next : Course → Cluster → Option NodeId → Spoken
starts_next course c None = (c, [])
starts_next course c (Some i) = starts course c i (state_in c i)

-- ---- lines

-- a line that can stand: where it begins, how many steps it has, and each of them, counted from 0, by what the disks do in it
pub record Plan : Type 0 where
  pub start : Cluster
  pub count : ℕ
  pub step : Course → ℕ → Cluster → Spoken

abbrev pub one_step : Cluster → (Course → Cluster → Spoken) → Plan
one_step c step = record { start = c; count = 1; step = λ course k d. step course d }

abbrev pub no_step : Cluster → Plan
no_step c = record { start = c; count = 0; step = λ course k d. (d, []) }

abbrev pub when : Bool → Plan → Option Plan
when can plan = if can then Some plan else None

-- what the statements of a line are read as, and the random words that are then left
pub record Prepared : Type 0 where
  pub items : List Item
  pub left : List ℕ

-- an ask more, of which this is the reply's shape, and these random words are left
abbrev pub counts_ask : Cluster → List ℕ → Shape → Cluster
counts_ask c left shape = record c { asks = c.asks + 1; words = left; shapes = set_shape c.shapes (c.asks + 1) shape }

-- it is put to the server's node
abbrev pub asks_at : Course → Cluster → NodeId → List ℕ → Shape → ℕ → Op → Spoken
asks_at course c i left shape timeout op = acts course (counts_ask c left shape) i (Ask (c.asks + 1) timeout op)

-- its request is refused, and no node is asked
abbrev pub rejects : Cluster → ℕ → List ℕ → Spoken
rejects c status text = (record c { asks = c.asks + 1 }, Rejected (c.asks + 1) status text ∷ [])

-- no node runs at the server, and it stays unanswered
abbrev pub loses : Extra → ℕ → Extra
loses extra number = record extra { lost = extra.lost ++ number ∷ [] }

abbrev pub misses : Cluster → NodeId → Spoken
misses c i = (record (keeps_extra c i (loses (c.extras i) (c.asks + 1))) { asks = c.asks + 1 }, Missed (c.asks + 1) i ∷ [])

-- what a request asks for
abbrev pub puts_op : Course → Cluster → NodeId → Requested → List ℕ → Option Op → Spoken
puts_op course c i r left (Some op) = asks_at course c i left r.request.shape r.request.timeout op
puts_op course c i r left None = misses c i

-- a request, which isn't refused or has this as its first defect
abbrev pub puts_request : Course → Cluster → NodeId → List ℕ → List ℕ → Prepared → Result Requested Defect → Spoken
puts_request course c i method target p (Ok r) = puts_op course c i r p.left (op_in (op_at r.request.path r.request p.items))
puts_request course c i method target p (Err defect) = rejects c (status_of defect) (text_of method target defect)

-- the next ask
abbrev pub asks_with : Course → Cluster → NodeId → List ℕ → List ℕ → List ℕ → Prepared → NodeState → Spoken
asks_with course c i method target body p (Running n) = puts_request course c i method target p (requested_of method target body)
asks_with course c i method target body p (Down kept rest) = misses c i

abbrev pub is_running : NodeState → Bool
is_running (Running n) = true
is_running (Down kept rest) = false

-- Apply is as many events as there are entries that are committed and not applied
abbrev pub to_apply : NodeState → ℕ
to_apply (Running n) = n.raft.commit - n.raft.applied
to_apply (Down kept rest) = 0

abbrev pub at_server : Prepared → Cluster → NodeId → Action → Option Plan
at_server prepared c i Elect = Some (one_step c (λ course d. acts course d i world.Elect))
at_server prepared c i Beat = Some (one_step c (λ course d. acts course d i world.Beat))
at_server prepared c i Flush = Some (one_step c (λ course d. acts course d i world.Flush))
at_server prepared c i Apply = Some (record { start = c; count = to_apply (state_in c i); step = λ course k d. acts course d i world.Apply })
at_server prepared c i Compact = Some (one_step c (λ course d. acts course d i world.Compact))
at_server prepared c i (AskLine method target body) = Some (one_step c (λ course d. asks_with course d i method target body prepared (state_in d i)))
at_server prepared c i Stop = when (is_running (state_in c i)) (one_step c (λ course d. stops d i (state_in d i)))
at_server prepared c i (StopWithin calls pick) = when (is_running (state_in c i)) (one_step c (λ course d. arms calls pick d i))
at_server prepared c i Start = when (not (is_running (state_in c i))) (one_step c (λ course d. starts course d i (state_in d i)))
at_server prepared c i Cut = Some (one_step c (λ course d. cuts true d i))
at_server prepared c i Heal = Some (one_step c (λ course d. cuts false d i))
at_server prepared c i Show = Some (one_step c (λ course d. (d, Shown i (state_in d i) ∷ [])))

-- packet number N, counted from 1
abbrev pub numbered : Cluster → ℕ → Option Plan
numbered c zero = None
numbered c (suc k) = when (is_some (slice_get (now c).sent k)) (one_step c (λ course d. delivers course d k (slice_get (now d).sent k)))

-- the moment is that one, and then each node ticks that runs, in rising order of ids
abbrev pub clocks : Cluster → ℕ → Spoken
clocks c moment = (record c { run = Then c.run (world.Clock moment) }, [])

abbrev pub ticks_next : Course → Cluster → Option NodeId → Spoken
ticks_next course c None = (c, [])
ticks_next course c (Some i) = acts course c i world.Tick

abbrev pub clock_step : ℕ → Course → ℕ → Cluster → Spoken
clock_step moment course zero c = clocks c moment
clock_step moment course (suc k) c = ticks_next course c (slice_get (in_order c.servers) k)

-- the moment isn't below the present one
abbrev pub clocked : Cluster → ℕ → Option Plan
clocked c moment = when (nat_le (now c).moment moment) (record { start = c; count = 1 + length c.servers; step = clock_step moment })

-- each step starts the next of the servers
abbrev pub starts_all : Cluster → List NodeId → Plan
starts_all c ids = record { start = named c ids; count = length ids; step = λ course k d. starts_next course d (slice_get d.servers k) }

-- before the cluster line only that line can stand, and lines that are skipped
abbrev pub before_cluster : Cluster → Line → Option Plan
before_cluster c Skip = Some (no_step c)
before_cluster c (ClusterLine ids) = when (can_name c ids) (starts_all c ids)
before_cluster c (At i action) = None
before_cluster c (Deliver number) = None
before_cluster c (RunLine times) = None
before_cluster c (Clock moment) = None

abbrev pub in_cluster : Prepared → Cluster → Line → Option Plan
in_cluster prepared c Skip = Some (no_step c)
in_cluster prepared c (ClusterLine ids) = None
in_cluster prepared c (At i action) = if is_named c i then at_server prepared c i action else None
in_cluster prepared c (Deliver number) = numbered c number
in_cluster prepared c (RunLine times) = Some (record { start = c; count = times; step = λ course k d. takes_lowest course d (lowest d.taken 0 (now d).sent) })
in_cluster prepared c (Clock moment) = clocked c moment

-- the line that stands here, where its statements are read so
abbrev pub planned : Prepared → Cluster → Line → Option Plan
planned prepared c line = if is_none c.servers then before_cluster c line else in_cluster prepared c line

-- one step behind another
abbrev pub joined : Spoken → Spoken → Spoken
joined w v = (v.0, w.1 ++ v.1)

-- steps, where what the disks do in each stands latest first
abbrev pub ran : (Course → ℕ → Cluster → Spoken) → List Course → Cluster → Spoken
ran step [] c = (c, [])
ran step (course ∷ earlier) c = joined (ran step earlier c) (step course (length earlier) (ran step earlier c).0)
