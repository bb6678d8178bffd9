-- A turn of a node that stores nothing.
use Rattle.std.proofs.Common.{◌≡◌, ◌≢◌, ◌⊎◌, inl, inr, ◌+◌, ◌-◌, ◌<◌, ◌≤◌, ◌&&◌, not, ℕ, zero, suc, Bool, true, false, cond, IsTrue, List, [], ◌∷◌, ◌++◌, length, take, Some, None, Option, Result, Ok, Err, refl, sym, ◌∙◌, ap, subst, arith, IfOk, IfErr, OnOk, OnErr}
use Rattle.std.specs.Prelude.{◌==◌, nat_le, All}
use Rattle.std.specs.Cmp.Lexicographic.{bytes_decides}
use Rattle.std.proofs.lemmas.Bool.Decides.{nat_tests}
use Rattle.rq_outside.specs.declared.pair.DiskPair.{DiskPair}
use Rattle.rq_outside.specs.Disk.{DiskMeaning}
use Rattle.rq_wal.specs.declared.base.Base.{Base}
use Rattle.rq_wal.specs.declared.base.Stored.{Stored}
use Rattle.rq_wal.specs.declared.file.WalFile.{WalFile}
use Rattle.rq_wal.specs.Current.{IsCurrent, OnlyRoom, EachSinceGives}
use Rattle.rq_wire.specs.declared.config.Member.{Member}
use Rattle.rq_history.specs.History.{NodeId}
use Rattle.rq_raft.specs.Node.{RaftNode, RaftTurn, StoredRecord, Vote, persistent_after, all_stored, same_vote}
use Rattle.rq_raft.specs.Node as raft
use Rattle.rq_world.specs.declared.log_entry.LogEntry.{LogEntry}
use Rattle.rq_world.specs.Node.{Node, Turn, persistent_of, unchanged}
use Rattle.rq_member.specs.declared.event.Effects.{Effects}
use Rattle.rq_member.specs.declared.turn_error.TurnError.{TurnError}
use Rattle.rq_member.specs.declared.turn_error.TurnError.TheVariants as errors
use Rattle.rq_member.specs.Files.{IsRecordReadable}
use Rattle.rq_member.specs.Held.{Held, IsOpen}
use Rattle.rq_member.specs.Turned.{Brings, Did}
use Rattle.rq_member.proofs.Turning.{did_nothing, did_refuse}

-- a refusal for which no disk was asked
abbrev pub IsOwn : TurnError → Type 0
IsOwn e = (e ≡ errors.NoMemory) ⊎ (e ≡ errors.Engine)

pub own_is_no_disk : (e : TurnError) → IsOwn e → e ≢ errors.Disk
own_is_no_disk e (inl is) = λ disk. absurd (cc)
own_is_no_disk e (inr is) = λ disk. absurd (cc)

none_all : (l : List (StoredRecord LogEntry)) → l ≡ [] → All IsRecordReadable l
none_all l none = subst (λ (m : List (StoredRecord LogEntry)). All IsRecordReadable m) (sym none) (λ k d less. absurd (omega arith))

module _ {D F : Type 0} (first : List Member) (told : Bool) (means : D → DiskMeaning) where
  pub did_rest : (IsTrue told → (base : Base) (old new : DiskPair D F) (wal : WalFile) (stored : Stored) → IsCurrent means base old wal stored → OnlyRoom means old new wal → EachSinceGives means base old new stored)
      → (t : Turn) (pair : DiskPair D F) (n node : Node) (file : Option WalFile) (result : Result Effects TurnError) → IsOpen first told means pair n file → t.stored ≡ [] → persistent_of t.node ≡ persistent_of n
      → OnOk result (node ≡ t.node) → IfOk result (Brings t) → OnErr result (node ≡ n) → IfErr result IsOwn
      → Did first told means t pair pair n node file result
  did_rest law t pair n node file (Ok effects) opened none same is brings back own = did_nothing first told means law t pair n node file effects opened none same is brings
  did_rest law t pair n node file (Err e) opened none same is brings back own =
      did_refuse first told means law t pair n node file e opened (same ∙ sym (ap (λ (l : List (StoredRecord LogEntry)). persistent_after (persistent_of n) l) none)) (none_all t.stored none) back (own_is_no_disk e own)

-- ---- a rule of consensus that stores nothing

same_number : (n : ℕ) → (n == n) ≡ true
same_number n = grind (arith, nat_tests)

same_voted : (v : Option NodeId) → same_vote v v ≡ true
same_voted None = refl
same_voted (Some v) = (bytes_decides v v).1 refl

pub stores_none : (n : RaftNode LogEntry) (t : RaftTurn LogEntry) → t.node.term ≡ n.term → t.node.vote ≡ n.vote → t.stored ≡ [] → all_stored n t ≡ []
stores_none n t term vote none =
    ap (λ (k : ℕ). cond ((n.term == k) && same_vote n.vote t.node.vote) t.stored (Vote t.node.term t.node.vote ∷ t.stored)) term
    ∙ ap (λ (v : Option NodeId). cond ((n.term == n.term) && same_vote n.vote v) t.stored (Vote t.node.term t.node.vote ∷ t.stored)) vote
    ∙ (λ i. cond (same_number n.term i && same_voted n.vote i) t.stored (Vote t.node.term t.node.vote ∷ t.stored))
    ∙ none

pub own_of : {T : Type 0} (r : Result T TurnError) → IfErr r (λ e. e ≡ errors.NoMemory) → IfErr r IsOwn
own_of (Ok value) own = tt
own_of (Err e) own = inl own

module _ {D F : Type 0} (first : List Member) (told : Bool) (means : D → DiskMeaning) where
  -- what the state of a node did by itself
  pub did_state : (IsTrue told → (base : Base) (old new : DiskPair D F) (wal : WalFile) (stored : Stored) → IsCurrent means base old wal stored → OnlyRoom means old new wal → EachSinceGives means base old new stored)
      → (t : Turn) (pair : DiskPair D F) (h new : Held) (file : Option WalFile) (result : Result Effects TurnError) → IsOpen first told means pair h.node file → t.stored ≡ [] → persistent_of t.node ≡ persistent_of h.node
      → OnOk result (new ≡ record h { node = t.node }) → IfOk result (Brings t) → OnErr result (new ≡ h) → IfErr result (λ e. e ≡ errors.NoMemory)
      → Did first told means t pair pair h.node new.node file result
  did_state law t pair h new file (Ok effects) opened none same is brings back own =
      did_rest first told means law t pair h.node new.node file (Ok effects) opened none same (ap (λ (k : Held). k.node) is) brings tt tt
  did_state law t pair h new file (Err e) opened none same is brings back own =
      did_rest first told means law t pair h.node new.node file (Err e) opened none same tt tt (ap (λ (k : Held). k.node) back) (inl own)
