-- Opening a pair, and storing the boot.
use Rattle.std.proofs.Common.{◌≡◌, ◌⊎◌, inl, inr, ◌+◌, ℕ, Bool, true, false, IsTrue, List, [], ◌∷◌, take, Some, Result, Ok, Err, IfOk, IfErr, refl, sym, ◌∙◌, ap, subst}
use Rattle.rq_outside.specs.declared.pair.DiskPair.{DiskPair}
use Rattle.rq_outside.specs.Disk.{DiskMeaning}
use Rattle.rq_wal.specs.declared.base.Stored.{Stored}
use Rattle.rq_wal.specs.declared.error.OpenError.{OpenError}
use Rattle.rq_wal.specs.declared.error.OpenError.TheVariants as opening
use Rattle.rq_wal.specs.declared.file.WalFile.{WalFile}
use Rattle.rq_wal.specs.Current.{IsCurrent, EachImage, EachImageGives, SomeImageGives}
use Rattle.rq_wal.specs.Images.{given_has, images_have}
use Rattle.rq_node.specs.Files.{first_base, stored_of}
use Rattle.rq_node.specs.declared.error.NodeError.{NodeError}
use Rattle.rq_node.specs.declared.error.NodeError.TheVariants as errors
use Rattle.rq_node.specs.Node.{Node, Persistent, StoredRecord, Boot, persistent_of, persistent_with, persistent_after}
use Rattle.rq_node.specs.Opened.{refusal_of, IsRefusal}
use Rattle.rq_node.specs.Rules.{started}
use Rattle.rq_node.specs.Sound.{AreReadable}
use Rattle.rq_node.specs.Recovery.{HasFile, IsSomeOf, Stands, CanBeRead, FailedOpening}
use Rattle.rq_node.proofs.Persistent.{base_is}
use Rattle.rq_node.proofs.Readable.{some_readable}

no_refusal : (id : List ℕ) (kept : Persistent) (items : List StoredRecord) (e : OpenError) → IsSomeOf id kept items (Err e) → ⊥
no_refusal id kept items e some = let is = some.1 in absurd (cc)

stored_is : (id : List ℕ) (kept : Persistent) (items : List StoredRecord) (stored : Stored) (some : IsSomeOf id kept items (Ok stored)) → stored ≡ stored_of id (persistent_after kept (take some.0 items))
stored_is id kept items stored some = let is = some.1 in cc

-- which of them stand, by what was read
pub record Taken (id : List ℕ) (kept : Persistent) (items : List StoredRecord) (stored : Stored) : Type 0 where
  pub k : ℕ
  pub readable : AreReadable (persistent_after kept (take k items)).log
  pub is : stored ≡ stored_of id (persistent_after kept (take k items))

pub taken : (id : List ℕ) (kept : Persistent) (items : List StoredRecord) (stored : Stored) → CanBeRead kept items → IsSomeOf id kept items (Ok stored) → Taken id kept items stored
taken id kept items stored can some = record { k = some.0; readable = some_readable kept items some.0 can; is = stored_is id kept items stored some }

module _ {D F : Type 0} (told : Bool) (means : D → DiskMeaning) (id : List ℕ) (kept : Persistent) (items : List StoredRecord) where
  -- what an opened pair stands for
  pub stands_still : (old new : DiskPair D F) → Stands told means old id kept items
      → (IsTrue told → EachImage means (first_base id) new (SomeImageGives means (first_base id) old)) → Stands told means new id kept items
  stands_still old new stands now = λ tells. images_have means (first_base id) old (IsSomeOf id kept items) (stands tells) new (now tells)

  pub opened_some : (old : DiskPair D F) (reading : Result Stored OpenError) → IsTrue told → Stands told means old id kept items → SomeImageGives means (first_base id) old reading → IsSomeOf id kept items reading
  opened_some old reading tells stands given = given_has means (first_base id) old (IsSomeOf id kept items) (stands tells) reading given

  pub not_refused : (old : DiskPair D F) (e : OpenError) → IsTrue told → Stands told means old id kept items → (e ≡ opening.Disk) ⊎ (e ≡ opening.NoMemory) ⊎ SomeImageGives means (first_base id) old (Err e) → (e ≡ opening.Disk) ⊎ (e ≡ opening.NoMemory)
  not_refused old e tells stands (inl disk) = inl disk
  not_refused old e tells stands (inr (inl memory)) = inr memory
  not_refused old e tells stands (inr (inr given)) = absurd (no_refusal id kept items e (opened_some old (Err e) tells stands given))

  -- where the first of these things stand and no more, some of them stand
  pub some_given : (new : DiskPair D F) (k : ℕ) → (IsTrue told → EachImageGives means (first_base id) new (stored_of id (persistent_after kept (take k items)))) → Stands told means new id kept items
  some_given new k gives = λ tells one two i1 i2. (k, gives tells one two i1 i2)

  -- what a boot that failed leaves
  pub failed_boot : (new : DiskPair D F) (stored : Stored) → CanBeRead kept items → (IsTrue told → IsSomeOf id kept items (Ok stored))
      → ((now : Persistent) → AreReadable now.log → stored ≡ stored_of id now → Stands told means new id now (Boot (now.boot + 1) ∷ []))
      → FailedOpening told means new id kept items
  failed_boot new stored can some stands = by_told told refl
    where
      by_told : (b : Bool) → told ≡ b → FailedOpening told means new id kept items
      by_told true is =
          let has = taken id kept items stored can (some is) in
          inr (has.k, stands (persistent_after kept (take has.k items)) has.readable has.is)
      by_told false is = inl (λ tells. absurd (cc))

-- the base of what stands in a current file
pub current_base : {D F : Type 0} (means : D → DiskMeaning) (pair : DiskPair D F) (id : List ℕ) (wal : WalFile) (stored : Stored) → IsCurrent means (first_base id) pair wal stored → stored.base ≡ first_base id
current_base means pair id wal stored current = base_is (first_base id) current.log.frames stored current.log.folds

-- the state that is started over what stands in the file
module _ {D F : Type 0} (told : Bool) (means : D → DiskMeaning) (pair : DiskPair D F) (id : List ℕ) (wal : WalFile) (stored : Stored) (current : IsTrue told → IsCurrent means (first_base id) pair wal stored)
    (state : Node) (kept : Persistent) (same : state ≡ (started id kept).node) (is : IsTrue told → stored ≡ stored_of id kept) where
  pub started_file : HasFile told means pair state.id kept (Some wal)
  started_file = λ tells.
      subst (λ (n : Node). IsCurrent means (first_base n.id) pair wal (stored_of n.id kept)) (sym same)
      (subst (λ (s : Stored). IsCurrent means (first_base id) pair wal s) (is tells) (current tells))

pub booted : (id : List ℕ) (kept : Persistent) (state : Node) → state ≡ (started id kept).node → persistent_with kept (Boot state.boot) ≡ persistent_of state
booted id kept state same = ap (λ (n : Node). persistent_with kept (Boot n.boot)) same ∙ sym (ap (λ (n : Node). persistent_of n) same)

pub ok_more : {T E : Type 0} (r : Result T E) (P Q : T → Type 0) → ((x : T) → P x → Q x) → IfOk r P → IfOk r Q
ok_more (Ok x) P Q more has = more x has
ok_more (Err e) P Q more has = tt

abbrev pub IsRefused : Type 0 → NodeError → Type 0
IsRefused S e = (e ≡ errors.Disk) ⊎ (S × ((e ≡ errors.NoMemory) ⊎ ((boot : ℕ) × (e ≡ errors.Ended boot))))

abbrev refuses : {T : Type 0} → NodeError → Result T NodeError
refuses e = Err e

pub boot_refused : {T : Type 0} (r : Result T NodeError) (S : Type 0) → IfErr r (λ e. (e ≡ errors.Disk) ⊎ (e ≡ errors.NoMemory)) → (r ≡ Err errors.NoMemory → S) → IfErr r (IsRefused S)
boot_refused (Ok x) S refused stands = tt
boot_refused (Err e) S (inl disk) stands = inl disk
boot_refused {T} (Err e) S (inr none) stands = inr (stands (ap (refuses {T = T}) none), inl none)

pub files_refused : (S : Type 0) (e : NodeError) → S → (e ≡ errors.Disk) ⊎ (e ≡ errors.NoMemory) → IsRefused S e
files_refused S e stands (inl disk) = inl disk
files_refused S e stands (inr none) = inr (stands, inl none)

-- whatever else may have been the cause
pub refuses_more : {T : Type 0} (r : Result T NodeError) (P : NodeError → Type 0) → IfErr r (λ e. (e ≡ errors.Disk) ⊎ (e ≡ errors.NoMemory)) → IfErr r (λ e. (e ≡ errors.Disk) ⊎ (e ≡ errors.NoMemory) ⊎ P e)
refuses_more (Ok x) P refused = tt
refuses_more (Err e) P (inl disk) = inl disk
refuses_more (Err e) P (inr none) = inr (inl none)

pub state_refused : (reading : Result Stored OpenError) (stored : Stored) (e : NodeError) → reading ≡ Ok stored → (e ≡ errors.NoMemory) ⊎ IsRefusal (Ok stored) e → (e ≡ errors.Disk) ⊎ (e ≡ errors.NoMemory) ⊎ IsRefusal reading e
state_refused reading stored e is (inl none) = inr (inl none)
state_refused reading stored e is (inr refusal) = inr (inr (subst (λ (r : Result Stored OpenError). IsRefusal r e) (sym is) refusal))

pub files_refuse : (reading : Result Stored OpenError) (refused : OpenError) (e : NodeError) → e ≡ refusal_of refused → (refused ≡ opening.Disk) ⊎ (refused ≡ opening.NoMemory) ⊎ (reading ≡ Err refused) → (e ≡ errors.Disk) ⊎ (e ≡ errors.NoMemory) ⊎ IsRefusal reading e
files_refuse reading refused e told (inl disk) = inl (told ∙ ap refusal_of disk)
files_refuse reading refused e told (inr (inl none)) = inr (inl (told ∙ ap refusal_of none))
files_refuse reading refused e told (inr (inr is)) = inr (inr (subst (λ (r : Result Stored OpenError). IsRefusal r e) (sym is) told))
