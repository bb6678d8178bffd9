-- The cluster of a script and what a line does to it, as docs/SCRIPT.md has it.
use Rattle.std.specs.Prelude.{◌≡◌, ◌⊎◌, ◌+◌, ◌-◌, ◌*◌, if◌then◌else◌, nat_le, ℕ, List, [], ◌∷◌, ◌++◌, length, take, map, flat_map, bytes_eq, Bool, true, is_some, Option, Some, None, option_and_then}
use Rattle.std.specs.Option.{option_map}
use Rattle.rq_statement.specs.declared.item.Item.{Item}
use Rattle.rq_json.specs.Body.{texts_of}
use Rattle.rq_node.specs.declared.waiting.Waiting.{Waiting}
use Rattle.rq_node.specs.Node.{Node, Persistent, StoredRecord, Turn, persistent_of, persistent_after}
use Rattle.rq_node.specs.Rules.{elect, execute, query, apply, started}
use Rattle.rq_node.specs.Files.{first_persistent}
use Rattle.rq_script.specs.Preparing.{statements_in, AreRead}
use Rattle.rq_script.specs.ScriptLine.{Line, Skip, Cluster as ClusterLine, At, Elect, Apply, Execute, Query, Stop, StopWithin, Start, Show, line_of}
use Rattle.rq_script.specs.ScriptText.{up_text, down_text, answers_text, pending_text, show_text, show_down_text}

-- a server's node runs, or it is down and keeps what stands in its files
pub data Stand : Type 0 where
  Running : (node : Node) → Stand
  -- `rest` is what a failing disk broke off: how much of it stands shows when the files are opened
  Down : (kept : Persistent) (rest : List StoredRecord) → Stand

-- what the last line `stop ID K P` has left: so many changing calls still pass, and this is left of the one behind them
pub record Armed : Type 0 where
  pub calls : ℕ
  pub pick : ℕ

-- a server that the script names, with the asks that were lost when its node went down and those put to it while it was down,
-- and how often a failing disk took its node down or kept it from starting
pub record Server : Type 0 where
  pub id : List ℕ
  pub stand : Stand
  pub armed : Option Armed
  pub lost : List ℕ
  pub failures : ℕ

-- the cluster: its one server, once the cluster line was there, and how many asks there were
pub record Cluster : Type 0 where
  pub server : Option Server
  pub asks : ℕ

abbrev pub first_cluster : Cluster
first_cluster = record { server = None; asks = 0 }

-- the ids of the servers in the first configuration, from which each replica starts
abbrev pub first_ids : Option Server → List (List ℕ)
first_ids None = []
first_ids (Some s) = s.id ∷ []

-- a server of that name, whose files are new
abbrev pub new_server : List ℕ → Server
new_server id = record { id = id; stand = Down first_persistent []; armed = None; lost = []; failures = 0 }

-- a cluster, and what was written on the way there
abbrev pub Written : Type 0
Written = Cluster × List ℕ

-- ---- what the disks do

-- no disk fails, or one does: before a thing is stored, or while things are
pub data Fault : Type 0 where
  NoFault : Fault
  Reading : Fault
  Storing : Fault

-- what the disks do in a line: whether one fails, and how many of the things stand that were broken off
pub record Course : Type 0 where
  pub fault : Fault
  pub stands : ℕ

-- no disk fails
abbrev pub whole : Course
whole = record { fault = NoFault; stands = 0 }

-- four changing calls for each thing that is made durable
abbrev pub needed : List StoredRecord → ℕ
needed items = 4 * length items

-- so many calls pass
abbrev pub passes : Option Armed → ℕ → Bool
passes None calls = true
passes (Some armed) calls = nat_le calls armed.calls

abbrev pub left_after : Option Armed → ℕ → Option Armed
left_after None calls = None
left_after (Some armed) calls = Some (record armed { calls = armed.calls - calls })

-- how an event goes: it is done, a line `stop ID K P` strikes, or a disk fails
pub data Fate : Type 0 where
  Done : Fate
  Struck : Fate
  Failed : Fate

abbrev pub fate_of : Fault → Bool → Fate
fate_of NoFault passing = if passing then Done else Struck
fate_of Reading passing = Failed
fate_of Storing passing = Failed

-- an event that stores nothing is always done
abbrev pub fate : Course → Option Armed → List StoredRecord → Fate
fate course armed [] = Done
fate course armed (item ∷ items) = fate_of course.fault (passes armed (needed (item ∷ items)))

-- ---- events

abbrev pub numbers : List Waiting → List ℕ
numbers waiting = map (λ (w : Waiting). w.number) waiting

-- the node goes down with all that waits there, and the line `stop ID K P` is spent
abbrev pub gone_down : Server → Node → Persistent → List StoredRecord → List ℕ → Server
gone_down s n kept rest asked = record s { stand = Down kept rest; armed = None; lost = s.lost ++ (numbers n.waiting ++ asked) }

-- a turn at a running node, by its fate
abbrev pub ended : Fate → Course → Server → Node → Turn → List ℕ → Server × List ℕ
ended Done course s n turn asked = (record s { stand = Running turn.node; armed = left_after s.armed (needed turn.records) }, answers_text turn.answers)
ended Struck course s n turn asked = (gone_down s n (persistent_after (persistent_of n) (take course.stands turn.records)) [] asked, down_text s.id)
ended Failed course s n turn asked = (record (gone_down s n (persistent_of n) turn.records asked) { failures = s.failures + 1 }, down_text s.id)

abbrev pub happens : Course → Server → Node → Turn → List ℕ → Server × List ℕ
happens course s n turn asked = ended (fate course s.armed turn.records) course s n turn asked

-- an event at a server: where it is down nothing happens, and an ask is lost
abbrev pub happens_at : Course → Server → (Node → Turn) → List ℕ → Server × List ℕ
happens_at course s rule asked = at s.stand
  where
    at : Stand → Server × List ℕ
    at (Down kept rest) = (record s { lost = s.lost ++ asked }, [])
    at (Running n) = happens course s n (rule n) asked

-- the files are opened, and the node starts with what they show
abbrev pub opens : Course → Server → Persistent → List StoredRecord → Server × List ℕ
opens course s kept rest = by course.fault
  where
    turn : Turn
    turn = started s.id (persistent_after kept (take course.stands rest))

    by : Fault → Server × List ℕ
    by NoFault = (record s { stand = Running turn.node }, up_text turn.node)
    by Reading = (record s { failures = s.failures + 1 }, down_text s.id)
    by Storing = (record s { stand = Down (persistent_after kept (take course.stands rest)) turn.records; failures = s.failures + 1 }, down_text s.id)

-- start: of a node that is down
abbrev pub starts : Course → Server → Option (Server × List ℕ)
starts course s = at s.stand
  where
    at : Stand → Option (Server × List ℕ)
    at (Running n) = None
    at (Down kept rest) = Some (opens course s kept rest)

-- stop: of a running node, at once
abbrev pub stops : Server → Option (Server × List ℕ)
stops s = at s.stand
  where
    at : Stand → Option (Server × List ℕ)
    at (Running n) = Some (gone_down s n (persistent_of n) [] [], down_text s.id)
    at (Down kept rest) = None

-- stop within an event to come
abbrev pub arms : ℕ → ℕ → Server → Option (Server × List ℕ)
arms calls pick s = at s.stand
  where
    at : Stand → Option (Server × List ℕ)
    at (Running n) = Some (record s { armed = Some (record { calls = calls; pick = pick }) }, [])
    at (Down kept rest) = None

abbrev pub shown : List ℕ → Stand → List ℕ
shown id (Running n) = show_text n
shown id (Down kept rest) = show_down_text id

-- ---- lines

-- what is done at the server of this id, if it is there and it can be done
abbrev pub at_server : Cluster → List ℕ → (Server → Option (Server × List ℕ)) → Option Written
at_server c id act = at c.server
  where
    at : Option Server → Option Written
    at None = None
    at (Some s) = if bytes_eq s.id id then option_map (λ (t : Server × List ℕ). (record c { server = Some t.0 }, t.1)) (act s) else None

-- an event at the server of this id
abbrev pub event_at : Course → Cluster → List ℕ → (Node → Turn) → List ℕ → Option Written
event_at course c id rule asked = at_server c id (λ s. Some (happens_at course s rule asked))

-- an ask, which is numbered; its body lists statements, which are read as these items
abbrev pub ask_at : Course → Cluster → List ℕ → (ℕ → List Item → Node → Turn) → List Item → List ℕ → Option Written
ask_at course c id rule items body =
    option_and_then (λ texts. event_at course (record c { asks = c.asks + 1 }) id (rule (c.asks + 1) items) ((c.asks + 1) ∷ [])) (texts_of body)

-- the cluster line, which stands once
abbrev pub founded : Course → Cluster → List ℕ → Option Written
founded course c id = where_none c.server
  where
    where_none : Option Server → Option Written
    where_none (Some _) = None
    where_none None = Some (record c { server = Some (opens course (new_server id) first_persistent []).0 }, (opens course (new_server id) first_persistent []).1)

-- what a line does, where its statements are read as these items
abbrev pub done : List Item → Course → Cluster → Line → Option Written
done items course c Skip = Some (c, [])
done items course c (ClusterLine id) = founded course c id
done items course c (At id Elect) = event_at course c id elect []
done items course c (At id Apply) = event_at course c id apply []
done items course c (At id (Execute body)) = ask_at course c id (λ number read n. execute n number read) items body
done items course c (At id (Query body)) = ask_at course c id (λ number read n. query n number read) items body
done items course c (At id Stop) = at_server c id stops
done items course c (At id (StopWithin calls pick)) = at_server c id (arms calls pick)
done items course c (At id Start) = at_server c id (starts course)
done items course c (At id Show) = at_server c id (λ s. Some (s, shown s.id s.stand))

-- the cluster after a line of these bytes, and what the line writes, if it can stand here
unfoldable pub step : List Item → Course → Cluster → List ℕ → Option Written
step items course c bytes = option_and_then (done items course c) (line_of bytes)

-- how a line goes: what its statements are read as, and what the disks do
pub record Way (bytes : List ℕ) : Type 0 where
  pub items : List Item
  pub are_read : AreRead (statements_in (line_of bytes)) items
  pub course : Course

-- the line may write this text and lead to that cluster
abbrev pub Steps : Cluster → List ℕ → List ℕ → Cluster → Type 0
Steps c bytes text next = (way : Way bytes) × (step way.items way.course c bytes ≡ Some (next, text))

-- within a cluster line: its server is there, and hasn't started yet
abbrev pub named : Cluster → Line → Option Cluster
named c (ClusterLine id) = where_none c.server
  where
    where_none : Option Server → Option Cluster
    where_none (Some _) = None
    where_none None = Some (record c { server = Some (new_server id) })
named c line = None

abbrev pub IsWithinLine : Cluster → List ℕ → Cluster → Type 0
IsWithinLine c bytes reached = option_and_then (named c) (line_of bytes) ≡ Some reached

-- where the line was broken off, this cluster may have been reached: the one before it, one within it, or one that it leads to
abbrev pub MayReach : Cluster → List ℕ → Cluster → Type 0
MayReach c bytes reached = (reached ≡ c) ⊎ IsWithinLine c bytes reached ⊎ ((text : List ℕ) × Steps c bytes text reached)

-- the line can't stand here
abbrev pub IsOutside : Cluster → List ℕ → Type 0
IsOutside c bytes = step [] whole c bytes ≡ None

-- the cluster line was there
abbrev pub IsStarted : Cluster → Type 0
IsStarted c = is_some c.server ≡ true

-- the asks without an answer, in rising order
abbrev pub waiting_at : Stand → List ℕ
waiting_at (Running n) = numbers n.waiting
waiting_at (Down kept rest) = []

abbrev pub unanswered : Option Server → List ℕ
unanswered None = []
unanswered (Some s) = s.lost ++ waiting_at s.stand

-- what is written at the end of a script
abbrev pub ending : Cluster → List ℕ
ending c = flat_map pending_text (unanswered c.server)
