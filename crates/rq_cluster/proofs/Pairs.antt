-- What a pair keeps where only its arming changes, and how its counts rise.
use Rattle.std.proofs.Common.{◌≡◌, ◌⊎◌, inl, inr, ◌≤◌, ◌+◌, ◌-◌, ◌^◌, ℕ, Bool, List, [], take, Option, Some, None, Result, Ok, nat_le, true, false, refl, sym, ap, subst, arith}
use Rattle.rq_outside.specs.declared.pair.DiskPair.{DiskPair}
use Rattle.rq_outside.specs.declared.pair.FileNo.{FileNo}
use Rattle.rq_outside.specs.declared.pair.FileNo.TheVariants.{One, Two}
use Rattle.rq_outside.specs.Counts.{Rose}
use Rattle.rq_outside.specs.Disk.{DiskMeaning}
use Rattle.rq_outside.specs.Pair.{disk_at, other}
use Rattle.rq_wal.specs.declared.base.Base.{Base}
use Rattle.rq_wal.specs.declared.base.Stored.{Stored}
use Rattle.rq_wal.specs.declared.error.OpenError.{OpenError}
use Rattle.rq_wal.specs.declared.file.WalFile.{WalFile}
use Rattle.rq_wal.specs.Current.{EachImage, IsCurrent}
use Rattle.rq_wal.specs.Gate.{IsAtRest}
use Rattle.rq_wal.specs.Spends.{Spends, DeviceRose}
use Rattle.rq_wal.specs.Log.{IsLog}
use Rattle.rq_wal.specs.WalFile.{wal_file, wal_end, wal_generation}
use Rattle.rq_node.specs.declared.node.Node.{Node as RunningNode}
use Rattle.rq_node.specs.Files.{first_base, stored_of}
use Rattle.rq_node.specs.Node.{Persistent, StoredRecord, persistent_of}
use Rattle.rq_node.specs.Recovery.{Stands, HasFile, IsOpen, IsSomeOf}
use Rattle.rq_cluster.specs.Recovery.{Rises}

-- both disks are as before
abbrev pub SameDisks : {D F : Type 0} → DiskPair D F → DiskPair D F → Type 0
SameDisks old new = (disk_at new One ≡ disk_at old One) × (disk_at new Two ≡ disk_at old Two)

rose_more : (old new : ℕ) → Rose old new → (old + 1 ≤ new) ⊎ (2 ^ 64 - 1 ≤ new)
rose_more old new rose = by (nat_le (old + 1) (2 ^ 64 - 1)) refl
  where
    by : (b : Bool) → nat_le (old + 1) (2 ^ 64 - 1) ≡ b → (old + 1 ≤ new) ⊎ (2 ^ 64 - 1 ≤ new)
    by true below = inl (grind (arith, rose, below))
    by false above = inr (grind (arith, rose, above))

-- an open file's log stands in each image
abbrev pub LogsStand : {D : Type 0} (F : Type 0) → (D → DiskMeaning) → Type 0
LogsStand {D} F means = (first : Base) (pair : DiskPair D F) (wal : WalFile) (stored : Stored) → IsCurrent means first pair wal stored → EachImage means first pair (λ reading. reading ≡ Ok stored)

module _ {D F : Type 0} (told : Bool) (means : D → DiskMeaning) where
  pub each_same : (first : Base) (old new : DiskPair D F) (P : Result Stored OpenError → Type 0) → SameDisks old new → EachImage means first old P → EachImage means first new P
  each_same first old new P (one, two) each = λ a b in_one in_two.
      each a b (subst (λ (d : D). (means d).images a) one in_one) (subst (λ (d : D). (means d).images b) two in_two)

  pub stands_same : (old new : DiskPair D F) (id : List ℕ) (kept : Persistent) (items : List StoredRecord) → SameDisks old new → Stands told means old id kept items → Stands told means new id kept items
  stands_same old new id kept items same stands = λ tells. each_same (first_base id) old new (IsSomeOf id kept items) same (stands tells)

  current_same : (first : Base) (old new : DiskPair D F) (wal : WalFile) (stored : Stored) → ((file : FileNo) → disk_at old file ≡ disk_at new file) → IsCurrent means first old wal stored → IsCurrent means first new wal stored
  current_same first old new wal stored same current =
      record {
        log = subst (λ (d : D). IsLog first (wal_generation wal) stored (take (wal_end wal) (means d).content)) (same (wal_file wal)) current.log;
        at_rest = subst (λ (d : D). IsAtRest (means d) (wal_end wal)) (same (wal_file wal)) current.at_rest;
        behind = λ c image. current.behind c (subst (λ (d : D). (means d).images c) (sym (same (other (wal_file wal)))) image);
      }

  at_files : (old new : DiskPair D F) → SameDisks old new → (file : FileNo) → disk_at old file ≡ disk_at new file
  at_files old new (one, two) One = sym one
  at_files old new (one, two) Two = sym two

  file_same : (old new : DiskPair D F) (id : List ℕ) (kept : Persistent) (file : Option WalFile) → SameDisks old new → HasFile told means old id kept file → HasFile told means new id kept file
  file_same old new id kept None same has = has
  file_same old new id kept (Some wal) same has = λ tells. current_same (first_base id) old new wal (stored_of id kept) (at_files old new same) (has tells)

  pub open_same : (old new : DiskPair D F) (node : RunningNode) → SameDisks old new → IsOpen told means old node → IsOpen told means new node
  open_same old new node same has = file_same old new node.state.id (persistent_of node.state) node.file same has

  file_stands : LogsStand F means → (pair : DiskPair D F) (id : List ℕ) (kept : Persistent) (file : Option WalFile) → HasFile told means pair id kept file → Stands told means pair id kept []
  file_stands law pair id kept None has = absurd has
  file_stands law pair id kept (Some wal) has = λ tells a b in_one in_two. (0, law (first_base id) pair wal (stored_of id kept) (has tells) a b in_one in_two)

  pub open_stands : LogsStand F means → (pair : DiskPair D F) (node : RunningNode) → IsOpen told means pair node → Stands told means pair node.state.id (persistent_of node.state) []
  open_stands law pair node opened = file_stands law pair node.state.id (persistent_of node.state) node.file opened

  -- ---- counts

  -- no count of the two disks fell
  pub record NoFewer (old new : DiskPair D F) : Type 0 where
    pub one : (means (disk_at old One)).faults ≤ (means (disk_at new One)).faults
    pub two : (means (disk_at old Two)).faults ≤ (means (disk_at new Two)).faults

  pub fewer_spent : (most : ℕ) (failed : Bool) (old new : DiskPair D F) → Spends means most failed old new → NoFewer old new
  fewer_spent most failed old new spent = record { one = spent.one; two = spent.two }

  pub fewer_same : (old new : DiskPair D F) → SameDisks old new → NoFewer old new
  fewer_same old new (one, two) =
      let e : (means (disk_at new One)).faults ≡ (means (disk_at old One)).faults = ap (λ (d : D). (means d).faults) one in
      let f : (means (disk_at new Two)).faults ≡ (means (disk_at old Two)).faults = ap (λ (d : D). (means d).faults) two in
      record { one = omega (arith, e); two = omega (arith, f) }

  pub rises_on : (k : ℕ) (start old new : DiskPair D F) → Rises told means k start old → NoFewer old new → Rises told means k start new
  rises_on k start old new rises later = record {
    one = let a = rises.one in let b = later.one in omega (arith, a, b);
    two = let a = rises.two in let b = later.two in omega (arith, a, b);
    rose = at rises.rose;
  }
    where
      at : (k + ((means (disk_at start One)).faults + (means (disk_at start Two)).faults) ≤ (means (disk_at old One)).faults + (means (disk_at old Two)).faults)
          ⊎ (2 ^ 64 - 1 ≤ (means (disk_at old One)).faults) ⊎ (2 ^ 64 - 1 ≤ (means (disk_at old Two)).faults)
          → (k + ((means (disk_at start One)).faults + (means (disk_at start Two)).faults) ≤ (means (disk_at new One)).faults + (means (disk_at new Two)).faults)
          ⊎ (2 ^ 64 - 1 ≤ (means (disk_at new One)).faults) ⊎ (2 ^ 64 - 1 ≤ (means (disk_at new Two)).faults)
      at (inl so) = inl (let a = later.one in let b = later.two in omega (arith, a, b, so))
      at (inr (inl one)) = inr (inl (let a = later.one in omega (arith, a, one)))
      at (inr (inr two)) = inr (inr (let b = later.two in omega (arith, b, two)))

  -- a device's count rose: one failure more
  pub rises_more : (k : ℕ) (start old new : DiskPair D F) → Rises told means k start old → NoFewer old new → DeviceRose means old new → Rises told means (k + 1) start new
  rises_more k start old new rises later device = record {
    one = let a = rises.one in let b = later.one in omega (arith, a, b);
    two = let a = rises.two in let b = later.two in omega (arith, a, b);
    rose = at rises.rose device;
  }
    where
      Goal : Type 0
      Goal = (k + 1 + ((means (disk_at start One)).faults + (means (disk_at start Two)).faults) ≤ (means (disk_at new One)).faults + (means (disk_at new Two)).faults)
          ⊎ (2 ^ 64 - 1 ≤ (means (disk_at new One)).faults) ⊎ (2 ^ 64 - 1 ≤ (means (disk_at new Two)).faults)

      So : Type 0
      So = k + ((means (disk_at start One)).faults + (means (disk_at start Two)).faults) ≤ (means (disk_at old One)).faults + (means (disk_at old Two)).faults

      first : So → ((means (disk_at old One)).faults + 1 ≤ (means (disk_at new One)).faults) ⊎ (2 ^ 64 - 1 ≤ (means (disk_at new One)).faults) → Goal
      first so (inl more) = inl (let b = later.two in omega (arith, so, more, b))
      first so (inr most) = inr (inl most)

      second : So → ((means (disk_at old Two)).faults + 1 ≤ (means (disk_at new Two)).faults) ⊎ (2 ^ 64 - 1 ≤ (means (disk_at new Two)).faults) → Goal
      second so (inl more) = inl (let b = later.one in omega (arith, so, more, b))
      second so (inr most) = inr (inr most)

      at : So ⊎ (2 ^ 64 - 1 ≤ (means (disk_at old One)).faults) ⊎ (2 ^ 64 - 1 ≤ (means (disk_at old Two)).faults) → DeviceRose means old new → Goal
      at (inr (inl one)) device = inr (inl (let a = later.one in omega (arith, a, one)))
      at (inr (inr two)) device = inr (inr (let b = later.two in omega (arith, b, two)))
      at (inl so) (inl one) = first so (rose_more (means (disk_at old One)).faults (means (disk_at new One)).faults one)
      at (inl so) (inr two) = second so (rose_more (means (disk_at old Two)).faults (means (disk_at new Two)).faults two)
