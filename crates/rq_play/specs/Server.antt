-- One server of a script: its node, or what its files keep, and what the lines keep of it beside that; and what an act makes of it.
use Rattle.std.specs.Prelude.{ℕ, ◌+◌, ◌-◌, nat_le, if◌then◌else◌, Bool, true, Option, Some, None, List, [], ◌∷◌, ◌++◌, take}
use Rattle.rq_wire.specs.declared.config.Member.{Member}
use Rattle.rq_history.specs.History.{NodeId}
use Rattle.rq_raft.specs.Node.{Packet, StoredRecord, Vote, Splice, Boot, Replace, Persistent, persistent_after}
use Rattle.rq_world.specs.declared.log_entry.LogEntry.{LogEntry}
use Rattle.rq_world.specs.Node.{Node, Turn, persistent_of}
use Rattle.rq_world.specs.Rules.{started}
use Rattle.rq_world.specs.Asks.{all_waiting, asked_numbers}
use Rattle.rq_world.specs.World.{NodeState, Act, Ask, Elect, Beat, Flush, Apply, Compact, Deliver, Tick, Idle, Event, place_of}
use Rattle.rq_world.specs.World as world
use Rattle.rq_play.specs.Said.{Said, Up, Down, Put, gave}

-- what the last line `stop ID K P` has left: so many changing calls still pass, and this is left of the one behind them
pub record Armed : Type 0 where
  pub calls : ℕ
  pub pick : ℕ

-- the asks that were lost when the node went down and those put to it while it was down, how often a failing disk took the node
-- down or kept it from starting, and whether it is cut off from `run`
pub record Extra : Type 0 where
  pub armed : Option Armed
  pub lost : List ℕ
  pub failures : ℕ
  pub is_cut : Bool

pub record Server : Type 0 where
  pub state : NodeState
  pub extra : Extra

-- a server after an act, what was said, and what was sent
pub record Moved : Type 0 where
  pub server : Server
  pub said : List Said
  pub packets : List (Packet LogEntry)

-- ---- what the disks do

-- no disk fails, or one does: before a thing is stored, or while things are
pub data Fault : Type 0 where
  NoFault : Fault
  Reading : Fault
  Storing : Fault

-- what the disks do in a step: whether one fails, and how many of the things stand that were broken off
pub record Course : Type 0 where
  pub fault : Fault
  pub stands : ℕ

-- no disk fails
abbrev pub whole : Course
whole = record { fault = NoFault; stands = 0 }

-- changing calls: four for each frame, eight for a replaced base
abbrev pub calls_for : StoredRecord LogEntry → ℕ
calls_for (Vote term vote) = 4
calls_for (Splice from entries) = 4
calls_for (Boot boot) = 4
calls_for (Replace base log) = 8

abbrev pub needed : List (StoredRecord LogEntry) → ℕ
needed [] = 0
needed (item ∷ items) = calls_for item + needed items

-- so many calls pass
abbrev pub passes : Option Armed → ℕ → Bool
passes None calls = true
passes (Some armed) calls = nat_le calls armed.calls

abbrev pub left_after : Option Armed → ℕ → Option Armed
left_after None calls = None
left_after (Some armed) calls = Some (record armed { calls = armed.calls - calls })

-- how an act goes: it is done, a line `stop ID K P` strikes, or a disk fails
pub data Fate : Type 0 where
  Done : Fate
  Struck : Fate
  Failed : Fate

abbrev pub fate_of : Fault → Bool → Fate
fate_of NoFault passing = if passing then Done else Struck
fate_of Reading passing = Failed
fate_of Storing passing = Failed

-- an act that stores nothing is always done
abbrev pub fate : Course → Option Armed → List (StoredRecord LogEntry) → Fate
fate course armed [] = Done
fate course armed (item ∷ items) = fate_of course.fault (passes armed (needed (item ∷ items)))

-- ---- acts

-- an ask is said to be put before its rule, also where that is broken off
abbrev pub puts : NodeId → Act → List Said
puts i (Ask number timeout op) = Put number i op ∷ []
puts i Elect = []
puts i Beat = []
puts i Flush = []
puts i Apply = []
puts i Compact = []
puts i (Deliver k) = []
puts i Tick = []
puts i Idle = []

-- the node goes down in this act with all that waits there, and the line `stop ID K P` is spent
abbrev pub gone_down : Extra → Node → Act → Extra
gone_down extra n a = record extra { armed = None; lost = extra.lost ++ (all_waiting n ++ asked_numbers a) }

module _ (first : List Member) where
  -- a turn of a running node, by its fate
  abbrev pub ended : Fate → Course → NodeId → Act → Extra → Node → Turn → Moved
  ended Done course i a extra n t = record {
    server = record { state = world.Running t.node; extra = record extra { armed = left_after extra.armed (needed t.stored) } };
    said = puts i a ++ gave (place_of first n a) t.answers;
    packets = t.packets;
  }
  ended Struck course i a extra n t = record {
    server = record { state = world.Down (persistent_after (persistent_of n) (take course.stands t.stored)) []; extra = gone_down extra n a };
    said = puts i a ++ Down i ∷ [];
    packets = [];
  }
  ended Failed course i a extra n t = record {
    server = record { state = world.Down (persistent_of n) t.stored; extra = record (gone_down extra n a) { failures = extra.failures + 1 } };
    said = puts i a ++ Down i ∷ [];
    packets = [];
  }

  -- an act at a server: where it is down nothing happens, and an ask is lost
  abbrev pub moves : Course → NodeId → Act → (Node → Turn) → Extra → NodeState → Moved
  moves course i a rule extra (world.Running n) = ended (fate course extra.armed (rule n).stored) course i a extra n (rule n)
  moves course i a rule extra (world.Down kept rest) = record {
    server = record { state = world.Down kept rest; extra = record extra { lost = extra.lost ++ asked_numbers a } };
    said = puts i a;
    packets = [];
  }

  -- the event of the world that this is
  abbrev pub event_by : Fate → Course → NodeId → Act → Event
  event_by Done course i a = world.At i a
  event_by Struck course i a = world.Stop i a course.stands
  event_by Failed course i a = world.Fail i a

  abbrev pub event_of : Course → NodeId → Act → (Node → Turn) → Extra → NodeState → Event
  event_of course i a rule extra (world.Running n) = event_by (fate course extra.armed (rule n).stored) course i a
  event_of course i a rule extra (world.Down kept rest) = world.At i a

  -- ---- starts

  -- what the files show, where this course says how much of the rest stands
  abbrev pub shows_files : Course → Persistent LogEntry → List (StoredRecord LogEntry) → Persistent LogEntry
  shows_files course kept rest = persistent_after kept (take course.stands rest)

  abbrev pub failed_once : Extra → Extra
  failed_once extra = record extra { failures = extra.failures + 1 }

  -- the files of a server that is down are opened, and its node starts with what they show
  abbrev pub opens : Fault → Course → NodeId → Extra → Persistent LogEntry → List (StoredRecord LogEntry) → Server × List Said
  opens NoFault course i extra kept rest =
      let t = started first i (shows_files course kept rest) in (record { state = world.Running t.node; extra = extra }, Up i t.node ∷ [])
  opens Reading course i extra kept rest = (record { state = world.Down kept rest; extra = failed_once extra }, Down i ∷ [])
  opens Storing course i extra kept rest =
      let shown = shows_files course kept rest in (record { state = world.Down shown (started first i shown).stored; extra = failed_once extra }, Down i ∷ [])

  -- the event of the world that this is; none where the files couldn't be read
  abbrev pub opening : Fault → Course → NodeId → Option Event
  opening NoFault course i = Some (world.Start i course.stands)
  opening Reading course i = None
  opening Storing course i = Some (world.FailStart i course.stands)
