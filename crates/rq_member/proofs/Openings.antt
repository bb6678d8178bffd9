-- Opening a pair, and storing the boot.
use Rattle.std.proofs.Common.{◌≡◌, ◌⊎◌, inl, inr, ◌+◌, ◌-◌, ◌<◌, ◌≤◌, ℕ, zero, suc, Bool, true, false, IsTrue, List, [], ◌∷◌, ◌++◌, length, take, map, Some, None, Option, Result, Ok, Err, IfOk, IfErr, refl, sym, ◌∙◌, ap, subst, arith}
use Rattle.std.specs.Prelude.{All, IsErrOf}
use Rattle.std.proofs.lemmas.List.Elements.{All-append, All-take}
use Rattle.rq_outside.specs.declared.pair.DiskPair.{DiskPair}
use Rattle.rq_outside.specs.Disk.{DiskMeaning}
use Rattle.rq_wal.specs.declared.base.Base.{Base}
use Rattle.rq_wal.specs.declared.base.Stored.{Stored}
use Rattle.rq_wal.specs.declared.error.OpenError.{OpenError}
use Rattle.rq_wal.specs.declared.error.OpenError.TheVariants as opening
use Rattle.rq_wal.specs.declared.file.WalFile.{WalFile}
use Rattle.rq_wal.specs.Current.{IsCurrent, EachImage, EachImageGives, SomeImageGives}
use Rattle.rq_wal.specs.Images.{given_has, images_have}
use Rattle.rq_wal.specs.Stored.{applied, applied_all, started as started_stored, stored_after}
use Rattle.rq_wire.specs.declared.config.Member.{Member}
use Rattle.rq_wire.specs.declared.frame.Frame.{Frame}
use Rattle.rq_wire.specs.declared.frame.Frame.TheVariants as shapes
use Rattle.rq_history.specs.History.{NodeId}
use Rattle.rq_raft.specs.Node.{RaftNode, Persistent, StoredRecord, Vote, Splice, Boot, Replace, persistent_with, persistent_after, started as raft_started}
use Rattle.rq_world.specs.declared.log_entry.LogEntry.{LogEntry}
use Rattle.rq_world.specs.Node.{Node, persistent_of, replica_of}
use Rattle.rq_world.specs.Rules.{started}
use Rattle.rq_member.specs.declared.error.NodeError.{NodeError}
use Rattle.rq_member.specs.declared.error.NodeError.TheVariants as errors
use Rattle.rq_member.specs.Files.{stored_entry, IsEntryReadable, AreReadable, IsRecordReadable, CanBeRead, first_base, stored_of, IsSomeOf, Stands, HasFile}
use Rattle.rq_member.specs.declared.turn_error.TurnError.{TurnError}
use Rattle.rq_member.specs.declared.turn_error.TurnError.TheVariants as failures
use Rattle.rq_member.specs.Held.{IsOpen}
use Rattle.rq_member.specs.Opening.{most_boots, refusal_of, disk_failed, IsRefusal, IsStart, FailedOpening}
use Rattle.rq_member.specs.Storing.{FilesAre, SpentStoring}
use Rattle.rq_member.proofs.Turning.{Reads, reads_after}
use Rattle.rq_wal.specs.Spends.{SpendsMost}
use Rattle.rq_wal.proofs.Spending.{within}

-- ---- bases

base_stays : (stored : Stored) (frames : List Frame) → (applied_all stored frames).base ≡ stored.base
base_stays stored [] = refl
base_stays stored (frame ∷ frames) = base_stays (applied stored frame) frames ∙ same stored frame
  where
    same : (stored : Stored) (frame : Frame) → (applied stored frame).base ≡ stored.base
    same stored (shapes.Vote term vote) = refl
    same stored (shapes.Splice from more) = refl
    same stored (shapes.Boot boot) = refl

-- the base of what stands in a current file
pub current_base : {D F : Type 0} (means : D → DiskMeaning) (pair : DiskPair D F) (first : Base) (wal : WalFile) (stored : Stored) → IsCurrent means first pair wal stored → stored.base ≡ first
current_base means pair first wal stored current = sym (ap (λ (s : Stored). s.base) current.log.folds) ∙ base_stays (started_stored first) current.log.frames

-- ---- opening

no_refusal : (first : List Member) (kept : Persistent LogEntry) (records : List (StoredRecord LogEntry)) (e : OpenError) → IsSomeOf first kept records (Err e) → ⊥
no_refusal first kept records e some = let is = some.2 in absurd (cc)

stored_is : (first : List Member) (kept : Persistent LogEntry) (records : List (StoredRecord LogEntry)) (stored : Stored) (some : IsSomeOf first kept records (Ok stored)) → stored ≡ stored_of first (persistent_after kept (take some.0 records))
stored_is first kept records stored some = let is = some.2 in cc

-- which of the records stand, by what was read
pub record Taken (first : List Member) (kept : Persistent LogEntry) (records : List (StoredRecord LogEntry)) (stored : Stored) : Type 0 where
  pub k : ℕ
  pub few : k ≤ length records
  pub base : (persistent_after kept (take k records)).base ≡ 0
  pub readable : AreReadable (persistent_after kept (take k records)).log
  pub is : stored ≡ stored_of first (persistent_after kept (take k records))

pub taken : (first : List Member) (kept : Persistent LogEntry) (records : List (StoredRecord LogEntry)) (stored : Stored) → CanBeRead kept records → IsSomeOf first kept records (Ok stored) → Taken first kept records stored
taken first kept records stored can some =
    let has = reads_after kept (take some.0 records) (record { base = can.base; log = can.log }) (All-take IsRecordReadable some.0 records can.all) in
    record { k = some.0; few = some.1; base = has.base; readable = has.log; is = stored_is first kept records stored some }

module _ {D F : Type 0} (first : List Member) (told : Bool) (means : D → DiskMeaning) (kept : Persistent LogEntry) (records : List (StoredRecord LogEntry)) where
  -- what an opened pair stands for
  pub stands_still : (old new : DiskPair D F) → Stands first told means old kept records
      → (IsTrue told → EachImage means (first_base first) new (SomeImageGives means (first_base first) old)) → Stands first told means new kept records
  stands_still old new stands now = λ tells. images_have means (first_base first) old (IsSomeOf first kept records) (stands tells) new (now tells)

  pub opened_some : (old : DiskPair D F) (reading : Result Stored OpenError) → IsTrue told → Stands first told means old kept records → SomeImageGives means (first_base first) old reading → IsSomeOf first kept records reading
  opened_some old reading tells stands given = given_has means (first_base first) old (IsSomeOf first kept records) (stands tells) reading given

  pub not_refused : (old : DiskPair D F) (e : OpenError) → IsTrue told → Stands first told means old kept records → (e ≡ opening.Disk) ⊎ (e ≡ opening.NoMemory) ⊎ SomeImageGives means (first_base first) old (Err e) → (e ≡ opening.Disk) ⊎ (e ≡ opening.NoMemory)
  not_refused old e tells stands (inl disk) = inl disk
  not_refused old e tells stands (inr (inl memory)) = inr memory
  not_refused old e tells stands (inr (inr given)) = absurd (no_refusal first kept records e (opened_some old (Err e) tells stands given))

  -- where the first of these records stand and no more, some of them stand
  pub some_given : (new : DiskPair D F) (k : ℕ) → k ≤ length records → (IsTrue told → EachImageGives means (first_base first) new (stored_of first (persistent_after kept (take k records)))) → Stands first told means new kept records
  some_given new k few gives = λ tells one two i1 i2. (k, few, gives tells one two i1 i2)

  -- what a boot that failed leaves
  pub failed_boot : (new : DiskPair D F) (stored : Stored) → CanBeRead kept records → (IsTrue told → IsSomeOf first kept records (Ok stored))
      → ((now : Persistent LogEntry) → now.base ≡ 0 → AreReadable now.log → stored ≡ stored_of first now → Stands first told means new now (Boot (now.boot + 1) ∷ []))
      → FailedOpening first told means new kept records
  failed_boot new stored can some stands = by_told told refl
    where
      by_told : (b : Bool) → told ≡ b → FailedOpening first told means new kept records
      by_told true is =
          let has = taken first kept records stored can (some is) in
          inr (has.k, stands (persistent_after kept (take has.k records)) has.base has.readable has.is)
      by_told false is = inl (λ tells. absurd (cc))

pub err_is : (T : Type 0) (x y : NodeError) → IsErrOf {T = T} (Err x) y → x ≡ y
err_is T x y is = cc

-- why a boot wasn't stored, and how that is told
abbrev pub IsTold : TurnError → NodeError → Type 0
IsTold e f = ((e ≡ failures.Disk) × (f ≡ errors.Disk)) ⊎ ((e ≡ failures.NoMemory) × (f ≡ errors.NoMemory))

module _ {D F : Type 0} (first : List Member) (told : Bool) (means : D → DiskMeaning) (kept : Persistent LogEntry) (records : List (StoredRecord LogEntry)) where
  pub boot_broken : (e : TurnError) (f : NodeError) (pair : DiskPair D F) (file : Option WalFile) → IsTold e f → f ≡ errors.Disk → FilesAre first told means kept records pair file (Some e) → Stands first told means pair kept records
  boot_broken e f pair file (inl disk) is files = (subst (λ (x : TurnError). FilesAre first told means kept records pair file (Some x)) disk.0 files).1
  boot_broken e f pair file (inr none) is files = absurd (cc)

  pub boot_starved : (e : TurnError) (f : NodeError) (pair : DiskPair D F) (file : Option WalFile) → IsTold e f → f ≡ errors.NoMemory → FilesAre first told means kept records pair file (Some e) → HasFile first told means pair kept file
  boot_starved e f pair file (inl disk) is files = absurd (cc)
  boot_starved e f pair file (inr none) is files = subst (λ (x : TurnError). FilesAre first told means kept records pair file (Some x)) none.0 files

pub boot_spent : {D F : Type 0} (T : Type 0) (means : D → DiskMeaning) (a b : DiskPair D F) (e : TurnError) (f : NodeError) → IsTold e f → SpentStoring means 1 a b (Some e) → SpendsMost means 4 (disk_failed {T = T} (Err f)) a b
boot_spent T means a b e f (inl disk) spent =
    subst (λ (x : NodeError). SpendsMost means 4 (disk_failed {T = T} (Err x)) a b) (sym disk.1) (within means 4 4 true a b (subst (λ (x : TurnError). SpentStoring means 1 a b (Some x)) disk.0 spent).1 (omega arith))
boot_spent T means a b e f (inr none) spent =
    subst (λ (x : NodeError). SpendsMost means 4 (disk_failed {T = T} (Err x)) a b) (sym none.1) (within means 0 4 false a b (subst (λ (x : TurnError). SpentStoring means 1 a b (Some x)) none.0 spent) (omega arith))

-- the file over whose content a node is started
pub started_file : {D F : Type 0} (first : List Member) (told : Bool) (means : D → DiskMeaning) (pair : DiskPair D F) (wal : WalFile) (stored : Stored) (kept : Persistent LogEntry) → (IsTrue told → IsCurrent means (first_base first) pair wal stored)
    → (IsTrue told → stored ≡ stored_of first kept) → HasFile first told means pair kept (Some wal)
started_file first told means pair wal stored kept current is = λ tells. subst (λ (s : Stored). IsCurrent means (first_base first) pair wal s) (is tells) (current tells)

-- the boot makes what the started node keeps
pub booted : (first : List Member) (id : NodeId) (kept : Persistent LogEntry) → kept.base ≡ 0 → persistent_with kept (Boot (started first id kept).node.boot) ≡ persistent_of (started first id kept).node
booted first id kept base = refl

pub ok_more : {T E : Type 0} (r : Result T E) (P Q : T → Type 0) → ((x : T) → P x → Q x) → IfOk r P → IfOk r Q
ok_more (Ok x) P Q more has = more x has
ok_more (Err e) P Q more has = tt

abbrev pub IsRefused : Type 0 → NodeError → Type 0
IsRefused S e = (e ≡ errors.Disk) ⊎ (S × ((e ≡ errors.NoMemory) ⊎ ((boot : ℕ) × (e ≡ errors.Ended boot))))

abbrev refuses : {T : Type 0} → NodeError → Result T NodeError
refuses e = Err e

pub boot_refused : {T : Type 0} (r : Result T NodeError) (S : Type 0) → IfErr r (λ e. (e ≡ errors.Disk) ⊎ (e ≡ errors.NoMemory)) → (r ≡ Err errors.NoMemory → S) → IfErr r (IsRefused S)
boot_refused (Ok x) S refused stands = tt
boot_refused (Err e) S (inl disk) stands = inl disk
boot_refused {T} (Err e) S (inr none) stands = inr (stands (ap (refuses {T = T}) none), inl none)

pub files_refused : (S : Type 0) (e : NodeError) → S → (e ≡ errors.Disk) ⊎ (e ≡ errors.NoMemory) → IsRefused S e
files_refused S e stands (inl disk) = inl disk
files_refused S e stands (inr none) = inr (stands, inl none)

-- whatever else may have been the cause
pub refuses_more : {T : Type 0} (r : Result T NodeError) (P : NodeError → Type 0) → IfErr r (λ e. (e ≡ errors.Disk) ⊎ (e ≡ errors.NoMemory)) → IfErr r (λ e. (e ≡ errors.Disk) ⊎ (e ≡ errors.NoMemory) ⊎ P e)
refuses_more (Ok x) P refused = tt
refuses_more (Err e) P (inl disk) = inl disk
refuses_more (Err e) P (inr none) = inr (inl none)

pub state_refused : (reading : Result Stored OpenError) (stored : Stored) (e : NodeError) → reading ≡ Ok stored → (e ≡ errors.NoMemory) ⊎ IsRefusal (Ok stored) e → (e ≡ errors.Disk) ⊎ (e ≡ errors.NoMemory) ⊎ IsRefusal reading e
state_refused reading stored e is (inl none) = inr (inl none)
state_refused reading stored e is (inr refusal) = inr (inr (subst (λ (r : Result Stored OpenError). IsRefusal r e) (sym is) refusal))

pub files_refuse : (reading : Result Stored OpenError) (refused : OpenError) (e : NodeError) → e ≡ refusal_of refused → (refused ≡ opening.Disk) ⊎ (refused ≡ opening.NoMemory) ⊎ (reading ≡ Err refused) → (e ≡ errors.Disk) ⊎ (e ≡ errors.NoMemory) ⊎ IsRefusal reading e
files_refuse reading refused e told (inl disk) = inl (told ∙ ap refusal_of disk)
files_refuse reading refused e told (inr (inl none)) = inr (inl (told ∙ ap refusal_of none))
files_refuse reading refused e told (inr (inr is)) = inr (inr (subst (λ (r : Result Stored OpenError). IsRefusal r e) (sym is) told))

-- ---- the node that starts

-- what is stored, with this log
abbrev pub kept_in : Stored → List LogEntry → Persistent LogEntry
kept_in stored log = record { term = stored.term; vote = stored.vote; boot = stored.boot; base = 0; log = log }

pub started_as : (first : List Member) (id : NodeId) (stored : Stored) (log : List LogEntry) (core : RaftNode LogEntry) (node : Node) → core ≡ raft_started id (record { term = stored.term; vote = stored.vote; boot = 0; base = 0; log = log })
    → node ≡ record { raft = core; boot = stored.boot + 1; waiting = []; pending_reads = []; queue = []; last = 0; replica = replica_of first [] } → node ≡ (started first id (kept_in stored log)).node
started_as first id stored log core node is made =
    made ∙ ap (λ (r : RaftNode LogEntry). record { raft = r; boot = stored.boot + 1; waiting = []; pending_reads = []; queue = []; last = 0; replica = replica_of first [] }) is

pub stored_as : (first : List Member) (stored : Stored) (log : List LogEntry) → stored.entries ≡ map stored_entry log → stored.base ≡ first_base first → stored ≡ stored_of first (kept_in stored log)
stored_as first stored log entries base = λ i. record { base = base i; term = stored.term; vote = stored.vote; boot = stored.boot; entries = entries i }

pub kept_as : (first : List Member) (stored : Stored) (log : List LogEntry) (kept : Persistent LogEntry) → stored ≡ stored_of first kept → kept.base ≡ 0 → log ≡ kept.log → kept_in stored log ≡ kept
kept_as first stored log kept is base same = λ i. record { term = (is i).term; vote = (is i).vote; boot = (is i).boot; base = sym base i; log = same i }

-- what a node is that starts over what is stored
abbrev pub IsFrom : List Member → NodeId → Stored → Node → Type 0
IsFrom first id stored node =
    (kept : Persistent LogEntry) × (node ≡ (started first id kept).node) × (kept.base ≡ 0) × (stored.base ≡ first_base first → stored ≡ stored_of first kept) × AreReadable kept.log × (kept.boot < most_boots)

pub ok_both : {T E : Type 0} (r : Result T E) (P S Q : T → Type 0) → ((x : T) → P x → S x → Q x) → IfOk r P → IfOk r S → IfOk r Q
ok_both (Ok x) P S Q both one two = both x one two
ok_both (Err e) P S Q both one two = tt

-- the running node's file, where it has what the started node keeps
pub opened_file : {D F : Type 0} (first : List Member) (told : Bool) (means : D → DiskMeaning) (pair : DiskPair D F) (id : NodeId) (kept : Persistent LogEntry) (node : Node) (file : Option WalFile) → node ≡ (started first id kept).node → kept.base ≡ 0
    → AreReadable kept.log → HasFile first told means pair (persistent_of node) file → IsOpen first told means pair node file
opened_file first told means pair id kept node file is base readable has = record {
  has = has;
  base = ap (λ (n : Node). n.raft.base) is ∙ base;
  readable = subst (λ (n : Node). AreReadable n.raft.log) (sym is) readable;
}

abbrev pub reads_as : Stored → Result Stored OpenError
reads_as stored = Ok stored

pub starts : (first : List Member) (id : NodeId) (reading : Result Stored OpenError) (stored : Stored) (from : Node) (node : Node) → reading ≡ Ok stored → stored.base ≡ first_base first → IsFrom first id stored from → node ≡ from → IsStart first id reading node
starts first id reading stored from node gives base is same = record {
  kept = is.0;
  is = gives ∙ ap reads_as (is.3 base);
  base = is.2;
  readable = is.4;
  boots = is.5;
  node_is = same ∙ is.1;
}

-- the boot makes what the started node keeps, by whatever name it goes
pub booted_as : (first : List Member) (id : NodeId) (kept : Persistent LogEntry) (node : Node) → kept.base ≡ 0 → node ≡ (started first id kept).node → persistent_with kept (Boot node.boot) ≡ persistent_of node
booted_as first id kept node base is = subst (λ (n : Node). persistent_with kept (Boot n.boot) ≡ persistent_of n) (sym is) (booted first id kept base)
