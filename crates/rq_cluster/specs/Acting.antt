-- What the events of a server are in the program.
use Rattle.std.specs.Prelude.{◌≡◌, ℕ, Bool, IsTrue, List, [], ◌∷◌, ◌++◌, Option, Some, None}
use Rattle.rq_outside.specs.declared.pair.DiskPair.{DiskPair}
use Rattle.rq_outside.specs.declared.pair.Arm.{Arm}
use Rattle.rq_outside.specs.declared.pair.Arm.TheVariants.{Off, Struck}
use Rattle.rq_outside.specs.declared.pair.FileNo.{FileNo}
use Rattle.rq_outside.specs.Disk.{DiskMeaning, Only}
use Rattle.rq_outside.specs.Pair.{arm_of, disk_at}
use Rattle.rq_node.specs.declared.node.Node.{Node as RunningNode}
use Rattle.rq_node.specs.Node.{Node, Turn}
use Rattle.rq_node.specs.declared.event.Event.{Event}
use Rattle.rq_node.specs.Events.{rule, asked}
use Rattle.rq_script.specs.Cluster.{Server, Course, happens_at, starts, stops, numbers}
use Rattle.rq_script.specs.ScriptText.{show_text, show_down_text}
use Rattle.rq_cluster.specs.declared.arming.Arming.{Arming}
use Rattle.rq_cluster.specs.declared.host.Host.{Host}

-- what an event makes of a server, and what it writes, by what the disks do
abbrev pub Act : Type 0
Act = Course → Server → Server × List ℕ

-- the ask of an event, if it has one
abbrev pub asked_of : Option ℕ → List ℕ
asked_of None = []
asked_of (Some number) = number ∷ []

-- a rule of the node, for asks of these numbers
abbrev pub event : (Node → Turn) → List ℕ → Act
event by numbers course s = happens_at course s by numbers

-- what an event of the node makes of a server
abbrev pub turn : Event → Act
turn e = event (rule e) (asked_of (asked e))

-- nothing happens where it can't be done
abbrev pub or_nothing : Server → Option (Server × List ℕ) → Server × List ℕ
or_nothing s None = (s, [])
or_nothing s (Some t) = t

-- the node of a server that is down starts
abbrev pub start : Act
start course s = or_nothing s (starts course s)

-- a running node stops at once
abbrev pub stop : Act
stop course s = or_nothing s (stops s)

-- a running node goes down within an event to come
abbrev pub arm : ℕ → ℕ → Act
arm calls pick course s = (record s { armed = Some (record { calls = calls; pick = pick }) }, [])

-- ---- a node that goes down

-- a line `stop ID K P` has struck
abbrev pub HasStruck : Arm → Option Arming → Type 0
HasStruck arm None = ⊥
HasStruck arm (Some arming) = arm ≡ Struck

-- both disks crashed
pub record Crashed {D F : Type 0} (told : Bool) (means : D → DiskMeaning) (old new : DiskPair D F) : Type 0 where
  pub image : IsTrue told → (file : FileNo) → (means (disk_at old file)).images (means (disk_at new file)).content
  pub stable : IsTrue told → (file : FileNo) → Only (means (disk_at new file)).content (means (disk_at new file)).images
  pub faults : (file : FileNo) → (means (disk_at new file)).faults ≡ (means (disk_at old file)).faults
  pub arm : arm_of new ≡ Off

-- ---- events that touch no disk

-- the node was printed
abbrev pub shown_at : List ℕ → Option RunningNode → List ℕ
shown_at id (Some node) = show_text node.state
shown_at id None = show_down_text id

abbrev pub ShownAs : Host → List ℕ → List ℕ → Type 0
ShownAs host before after = after ≡ before ++ shown_at host.id host.node

-- the asks of a host that have no answer
abbrev pub waiting_in : Option RunningNode → List ℕ
waiting_in (Some node) = numbers node.state.waiting
waiting_in None = []

abbrev pub pending_at : Host → List ℕ
pending_at host = host.lost.items ++ waiting_in host.node
