-- What the pairs of log files of a script's servers stand for, and how often their disks have failed.
use Rattle.std.specs.Prelude.{◌≡◌, ◌⊎◌, ◌≤◌, ◌<◌, ◌+◌, ◌-◌, ◌^◌, ℕ, Bool, IsTrue, List, [], length, slice_get, All, Option, Some, None}
use Rattle.rq_outside.specs.declared.pair.DiskPair.{DiskPair}
use Rattle.rq_outside.specs.declared.pair.Arm.TheVariants.{Off}
use Rattle.rq_outside.specs.declared.pair.FileNo.TheVariants.{One, Two}
use Rattle.rq_outside.specs.Disk.{DiskMeaning}
use Rattle.rq_outside.specs.Pair.{arm_of, disk_at}
use Rattle.rq_wal.specs.Current.{AreClosed}
use Rattle.rq_node.specs.Node.{persistent_of}
use Rattle.rq_node.specs.Recovery.{Stands}
use Rattle.rq_script.specs.Cluster.{Stand, Running, Down, Server, Cluster}

module _ {D F : Type 0} (told : Bool) (means : D → DiskMeaning) where
  -- a pair that isn't armed, in which no log stands, whatever a crash leaves
  pub record IsNew (pair : DiskPair D F) : Type 0 where
    pub unarmed : arm_of pair ≡ Off
    pub closed : IsTrue told → (one two : List ℕ) → (means (disk_at pair One)).images one → (means (disk_at pair Two)).images two → AreClosed one two

  -- Since the start no count of the two disks fell, and together they rose so often, unless one stands at its last value
  pub record Rises (k : ℕ) (start pair : DiskPair D F) : Type 0 where
    pub one : (means (disk_at start One)).faults ≤ (means (disk_at pair One)).faults
    pub two : (means (disk_at start Two)).faults ≤ (means (disk_at pair Two)).faults
    pub rose : (k + ((means (disk_at start One)).faults + (means (disk_at start Two)).faults) ≤ (means (disk_at pair One)).faults + (means (disk_at pair Two)).faults)
        ⊎ (2 ^ 64 - 1 ≤ (means (disk_at pair One)).faults) ⊎ (2 ^ 64 - 1 ≤ (means (disk_at pair Two)).faults)

  -- Each image of the pair stands for what the server keeps. Where a failing disk broke a write off, and the files weren't
  -- opened since, how much of it stands isn't settled.
  abbrev pub StandsAs : DiskPair D F → List ℕ → Stand → Type 0
  StandsAs pair id (Running n) = Stands told means pair id (persistent_of n) []
  StandsAs pair id (Down kept rest) = Stands told means pair id kept rest

  -- the pair of the one server: new until the server is there
  abbrev pub ServerStands : DiskPair D F → DiskPair D F → Option Server → Type 0
  ServerStands start pair None = IsNew pair × Rises 0 start pair
  ServerStands start pair (Some s) = StandsAs pair s.id s.stand × Rises s.failures start pair

  -- nine pairs: the first is the one server's, and the others are as they were
  pub record Holds (start pairs : List (DiskPair D F)) (c : Cluster) : Type 0 where
    pub count : length pairs ≡ 9
    pub first : (before now : DiskPair D F) → slice_get start 0 ≡ Some before → slice_get pairs 0 ≡ Some now → ServerStands before now c.server
    pub others : (k : ℕ) → 0 < k → slice_get pairs k ≡ slice_get start k

  -- nine new pairs
  pub record AreNew (pairs : List (DiskPair D F)) : Type 0 where
    pub count : length pairs ≡ 9
    pub fresh : All IsNew pairs
