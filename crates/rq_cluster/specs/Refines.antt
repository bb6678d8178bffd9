-- Which cluster the running program and its pairs refine.
use Rattle.std.specs.Prelude.{◌≡◌, ◌⊎◌, ◌<◌, ◌-◌, ◌^◌, ◌++◌, ℕ, Bool, IsTrue, List, [], length, slice_get, Option, Some, None, ⊤}
use Rattle.std.specs.Option.{option_map}
use Rattle.rq_outside.specs.declared.pair.DiskPair.{DiskPair}
use Rattle.rq_outside.specs.declared.pair.Arm.TheVariants.{Passes, Struck}
use Rattle.rq_outside.specs.Disk.{DiskMeaning}
use Rattle.rq_outside.specs.Pair.{arm_of}
use Rattle.rq_node.specs.declared.node.Node.{Node as RunningNode}
use Rattle.rq_node.specs.Recovery.{IsOpen, Stands, CanBeRead}
use Rattle.rq_statement.specs.declared.item.Item.{Item}
use Rattle.rq_script.specs.Cluster.{Stand, Running, Down, Armed, Server, Cluster, Course, Steps, MayReach, named, done, whole}
use Rattle.rq_script.specs.Preparing.{statements, AreRead}
use Rattle.rq_script.specs.ScriptLine.{Line}
use Rattle.rq_cluster.specs.Acting.{Act, pending_at}
use Rattle.rq_cluster.specs.declared.arming.Arming.{Arming}
use Rattle.rq_cluster.specs.declared.host.Host.{Host}
use Rattle.rq_cluster.specs.declared.world.World.{World}
use Rattle.rq_cluster.specs.Recovery.{IsNew, Rises, ServerStands}

abbrev pub armed_of : Option Arming → Option Armed
armed_of = option_map (λ (a : Arming). record { calls = a.calls; pick = a.pick })

-- in one of its ways the line leads to this cluster, and writes this
abbrev pub Leads : Cluster → Line → List ℕ → Cluster → Type 0
Leads c line written next = (items : List Item) × (course : Course) × AreRead (statements line) items × (done items course c line ≡ Some (next, written))

-- the cluster of this server, with so many asks
abbrev pub with_host : Host → ℕ → World
with_host host asks = record { host = Some host; asks = asks }

-- the asks without an answer
abbrev pub pending_in : Option Host → List ℕ
pending_in None = []
pending_in (Some host) = pending_at host

module _ {D F : Type 0} (told : Bool) (means : D → DiskMeaning) where
  -- a running node has its file
  abbrev pub NodeReady : DiskPair D F → Option RunningNode → Type 0
  NodeReady pair None = ⊤
  NodeReady pair (Some node) = IsOpen told means pair node

  abbrev pub HostReady : DiskPair D F → Host → Type 0
  HostReady pair host = NodeReady pair host.node

  abbrev pub ServerReady : DiskPair D F → Option Host → Type 0
  ServerReady pair None = ⊤
  ServerReady pair (Some host) = HostReady pair host

  pub record IsReady (pairs : List (DiskPair D F)) (world : World) : Type 0 where
    pub count : length pairs ≡ 9
    pub first : (pair : DiskPair D F) → slice_get pairs 0 ≡ Some pair → ServerReady pair world.host

  -- the pair passes what the line `stop ID K P` has left, and all where none strikes
  abbrev pub IsArmed : DiskPair D F → Option Armed → Type 0
  IsArmed pair None = arm_of pair ≡ Struck → ⊥
  IsArmed pair (Some armed) = arm_of pair ≡ Passes armed.calls

  -- the same, where an event is about to begin
  abbrev pub LetsPass : DiskPair D F → Option Armed → Type 0
  LetsPass pair None = arm_of pair ≡ Passes (2 ^ 64 - 1)
  LetsPass pair (Some armed) = arm_of pair ≡ Passes armed.calls

  -- the node runs, with its file; or it is down, and whatever a crash now leaves can be opened again
  abbrev pub RefinesStand : DiskPair D F → List ℕ → Option RunningNode → Stand → Type 0
  RefinesStand pair id (Some node) (Running n) = (node.state ≡ n) × (n.id ≡ id) × IsOpen told means pair node
  RefinesStand pair id None (Down kept rest) = Stands told means pair id kept rest × CanBeRead kept rest
  RefinesStand pair id (Some node) (Down kept rest) = ⊥
  RefinesStand pair id None (Running n) = ⊥

  -- the host and its pair refine this server, where the disks tell what they hold
  pub record RefinesServer (start pair : DiskPair D F) (host : Host) (s : Server) : Type 0 where
    pub tells : IsTrue told
    pub id : s.id ≡ host.id
    pub lost : s.lost ≡ host.lost.items
    pub failures : s.failures ≡ host.failures
    pub armed : s.armed ≡ armed_of host.armed
    pub arm : IsArmed pair s.armed
    pub rises : Rises told means s.failures start pair
    pub stand : RefinesStand pair s.id host.node s.stand
    pub spent : host.node ≡ None → s.armed ≡ None

  abbrev pub RefinesHost : DiskPair D F → DiskPair D F → Option Host → Option Server → Type 0
  RefinesHost start pair None None = IsTrue told × IsNew told means pair × Rises told means 0 start pair
  RefinesHost start pair (Some host) (Some s) = RefinesServer start pair host s
  RefinesHost start pair None (Some s) = ⊥
  RefinesHost start pair (Some host) None = ⊥

  abbrev pub RefinesCluster : DiskPair D F → DiskPair D F → World → Cluster → Type 0
  RefinesCluster start pair world c = (c.asks ≡ world.asks) × RefinesHost start pair world.host c.server

  -- the program and its nine pairs refine this cluster
  pub record Refines (start pairs : List (DiskPair D F)) (world : World) (c : Cluster) : Type 0 where
    pub tells : IsTrue told
    pub began : length start ≡ 9
    pub count : length pairs ≡ 9
    pub first : (before now : DiskPair D F) → slice_get start 0 ≡ Some before → slice_get pairs 0 ≡ Some now → RefinesCluster before now world c
    pub others : (k : ℕ) → 0 < k → slice_get pairs k ≡ slice_get start k

  -- ---- events

  -- the event was done: in one of its courses it has led to the server that is refined, and its text was written
  abbrev pub Goes : Act → DiskPair D F → DiskPair D F → Host → Host → List ℕ → List ℕ → Type 0
  Goes act old new from to before after =
      (start : DiskPair D F) (s : Server) → RefinesServer start old from s → (course : Course) × RefinesServer start new to (act course s).0 × (after ≡ before ++ (act course s).1)

  -- want of memory broke the event off: the pair stands for the server as it was, or as the event leaves it
  abbrev pub BreaksOff : Act → DiskPair D F → DiskPair D F → Host → Type 0
  BreaksOff act old new from =
      (start : DiskPair D F) (s : Server) → RefinesServer start old from s
      → (reached : Server) × ((reached ≡ s) ⊎ ((course : Course) × (reached ≡ (act course s).0))) × ServerStands told means start new (Some reached)

  -- a line was done
  abbrev pub DoesLine : Line → DiskPair D F → DiskPair D F → World → World → List ℕ → List ℕ → Type 0
  DoesLine line old new from to before after =
      (start : DiskPair D F) (c : Cluster) → RefinesCluster start old from c
      → (next : Cluster) × (written : List ℕ) × Leads c line written next × (after ≡ before ++ written) × RefinesCluster start new to next

  -- it can't stand here
  abbrev pub IsOutsideHere : Line → DiskPair D F → World → Type 0
  IsOutsideHere line old from = (start : DiskPair D F) (c : Cluster) → RefinesCluster start old from c → done [] whole c line ≡ None

  -- want of memory broke it off
  abbrev pub BreaksLine : Line → DiskPair D F → DiskPair D F → World → Type 0
  BreaksLine line old new from =
      (start : DiskPair D F) (c : Cluster) → RefinesCluster start old from c
      → (reached : Cluster) × ((reached ≡ c) ⊎ (named c line ≡ Some reached) ⊎ ((written : List ℕ) × Leads c line written reached)) × ServerStands told means start new reached.server

  -- the same of the bytes that spell it
  abbrev pub Does : List ℕ → DiskPair D F → DiskPair D F → World → World → List ℕ → List ℕ → Type 0
  Does bytes old new from to before after =
      (start : DiskPair D F) (c : Cluster) → RefinesCluster start old from c
      → (next : Cluster) × (written : List ℕ) × Steps c bytes written next × (after ≡ before ++ written) × RefinesCluster start new to next

  abbrev pub Breaks : List ℕ → DiskPair D F → DiskPair D F → World → Type 0
  Breaks bytes old new from =
      (start : DiskPair D F) (c : Cluster) → RefinesCluster start old from c → (reached : Cluster) × MayReach c bytes reached × ServerStands told means start new reached.server
