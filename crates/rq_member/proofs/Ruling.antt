-- A rule of consensus at a node over its files, and what a turn answers.
use Rattle.std.proofs.Common.{◌≡◌, ◌≢◌, ◌⊎◌, inl, inr, ℕ, ◌+◌, ◌-◌, ◌<◌, ◌≤◌, ◌^◌, ◌&&◌, not, Bool, true, false, cond, IsTrue, List, [], ◌∷◌, length, Option, Some, None, Result, Ok, Err, IfErr, refl, sym, ap, ◌∙◌, subst, arith}
use Rattle.std.specs.Prelude.{nat_le, IsErrOf}
use Rattle.std.proofs.lemmas.Bool.Decides.{nat_tests}
use Rattle.rq_outside.specs.declared.pair.DiskPair.{DiskPair}
use Rattle.rq_outside.specs.Disk.{DiskMeaning}
use Rattle.rq_wal.specs.declared.base.Base.{Base}
use Rattle.rq_wal.specs.declared.base.Stored.{Stored}
use Rattle.rq_wal.specs.declared.file.WalFile.{WalFile}
use Rattle.rq_wal.specs.Current.{IsCurrent, OnlyRoom, EachSinceGives}
use Rattle.rq_wire.specs.declared.config.Member.{Member}
use Rattle.rq_raft.specs.Node.{RaftTurn, is_leader}
use Rattle.rq_world.specs.declared.log_entry.LogEntry.{LogEntry}
use Rattle.rq_world.specs.Node.{Node, Turn, unchanged}
use Rattle.rq_world.specs.Rules.{raft_turn, steps_down, stays_on}
use Rattle.rq_member.specs.declared.event.Event.{Event}
use Rattle.rq_member.specs.declared.event.Event.TheVariants as event
use Rattle.rq_member.specs.declared.event.Effects.{Effects}
use Rattle.rq_member.specs.declared.turn_error.TurnError.{TurnError}
use Rattle.rq_member.specs.declared.turn_error.TurnError.TheVariants as errors
use Rattle.rq_member.specs.Held.{IsOpen}
use Rattle.rq_member.specs.Keeping.{IsKeeping}
use Rattle.rq_member.specs.Turned.{Did, IfDone, IsFault, IsCause, ended}
use Rattle.rq_member.proofs.Turning.{kept_all, all_readable, did_refuse, did_unchanged}

abbrev pub fails : TurnError → Result Effects TurnError
fails e = Err e

pub no_memory_is_no_disk : errors.NoMemory ≢ errors.Disk
no_memory_is_no_disk is = absurd (cc)

-- ---- a rule of consensus

module _ {D F : Type 0} (first : List Member) (told : Bool) (means : D → DiskMeaning) where
  pub did_rule : (rule t : RaftTurn LogEntry) (n m : Node) (old new : DiskPair D F) (node : Node) (file : Option WalFile) (result : Result Effects TurnError) → t ≡ rule → m ≡ n
      → Did first told means (raft_turn m t) old new m node file result → Did first told means (raft_turn n rule) old new n node file result
  did_rule rule t n m old new node file result given same did =
      subst (λ (k : Node). Did first told means (raft_turn k rule) old new k node file result) same (subst (λ (u : RaftTurn LogEntry). Did first told means (raft_turn m u) old new m node file result) given did)

  pub did_rule_at : (before : List Member) (rule t : RaftTurn LogEntry) (n m : Node) (old new : DiskPair D F) (node : Node) (file : Option WalFile) (result : Result Effects TurnError) → before ≡ first → t ≡ rule → m ≡ n
      → Did before told means (raft_turn m t) old new m node file result → Did first told means (raft_turn n rule) old new n node file result
  did_rule_at before rule t n m old new node file result firsts given same did =
      did_rule rule t n m old new node file result given same (subst (λ (f : List Member). Did f told means (raft_turn m t) old new m node file result) firsts did)

  pub did_not_rule : (IsTrue told → (base : Base) (old new : DiskPair D F) (wal : WalFile) (stored : Stored) → IsCurrent means base old wal stored → OnlyRoom means old new wal → EachSinceGives means base old new stored)
      → (rule : RaftTurn LogEntry) (pair : DiskPair D F) (n node : Node) (file : Option WalFile) (e : TurnError) → IsOpen first told means pair n file → IsKeeping n.raft rule → node ≡ n → e ≢ errors.Disk
      → Did first told means (raft_turn n rule) pair pair n node file (Err e)
  did_not_rule law rule pair n node file e opened keeps same other = by (is_leader n.raft.role && not (is_leader rule.node.role))
    where
      by : (b : Bool) → Did first told means (cond b (steps_down n rule) (stays_on n rule)) pair pair n node file (Err e)
      by true = did_refuse first told means law (steps_down n rule) pair n node file e opened (kept_all n rule keeps) (all_readable n.raft rule keeps) same other
      by false = did_refuse first told means law (stays_on n rule) pair n node file e opened (kept_all n rule keeps) (all_readable n.raft rule keeps) same other

  -- no memory was left for it
  pub did_starve_rule : (IsTrue told → (base : Base) (old new : DiskPair D F) (wal : WalFile) (stored : Stored) → IsCurrent means base old wal stored → OnlyRoom means old new wal → EachSinceGives means base old new stored)
      → (rule : RaftTurn LogEntry) (pair : DiskPair D F) (n node : Node) (file had : Option WalFile) (result : Result Effects TurnError) → (e : TurnError) × (result ≡ Err e) × (e ≡ errors.NoMemory) → IsOpen first told means pair n had → file ≡ had
      → IsKeeping n.raft rule → node ≡ n → Did first told means (raft_turn n rule) pair pair n node file result
  did_starve_rule law rule pair n node file had result refused opened same_file keeps same =
      subst (λ (r : Result Effects TurnError). Did first told means (raft_turn n rule) pair pair n node file r) (sym (refused.1 ∙ ap fails refused.2))
      (did_not_rule law rule pair n node file errors.NoMemory (subst (λ (f : Option WalFile). IsOpen first told means pair n f) (sym same_file) opened) keeps same no_memory_is_no_disk)

  -- ---- what a turn answers

  pub if_done : (t : Turn) (old new : DiskPair D F) (n node : Node) (file : Option WalFile) (result : Result Effects TurnError) → Did first told means t old new n node file result → IfDone result (Did first told means t old new n node file result)
  if_done t old new n node file (Ok effects) did = did
  if_done t old new n node file (Err errors.Disk) did = did
  if_done t old new n node file (Err errors.Engine) did = tt
  if_done t old new n node file (Err errors.NoMemory) did = tt
  if_done t old new n node file (Err (errors.Ended count)) did = tt
  if_done t old new n node file (Err (errors.Packet index error)) did = tt
  if_done t old new n node file (Err (errors.Config index)) did = tt

  pub refused_so : (t : Turn) (old new : DiskPair D F) (n node : Node) (file : Option WalFile) (result : Result Effects TurnError) → Did first told means t old new n node file result
      → IfErr result (λ e. (e ≡ errors.Disk) ⊎ Did first told means (unchanged n) old new n node file result)
  refused_so t old new n node file (Ok effects) did = tt
  refused_so t old new n node file (Err e) did = did_unchanged first told means t old new n node file e did

pub fault_cause : (what : Event) (n : Node) (generation : ℕ) (e : TurnError) → IsFault e → IsCause what n generation e
fault_cause what n generation e (inl is) = subst (IsCause what n generation) (sym is) tt
fault_cause what n generation e (inr (inl is)) = subst (IsCause what n generation) (sym is) tt
fault_cause what n generation e (inr (inr is)) = subst (IsCause what n generation) (sym is) tt

-- ---- no count is at its end

pub record IsNearEnd (n : Node) : Type 0 where
  pub log : length n.raft.log < 2 ^ 62
  pub last : n.last < 2 ^ 62

pub not_ended : (n : Node) (generation : ℕ) → ended n generation ≡ None → IsNearEnd n
not_ended n generation is = record {
  log = under (length n.raft.log) (log_test (nat_le (2 ^ 62) (length n.raft.log)) refl);
  last = under n.last (last_test (nat_le (2 ^ 62) (length n.raft.log)) (nat_le (2 ^ 62) n.raft.probe) (nat_le (2 ^ 62) generation) (nat_le (2 ^ 62) n.last) is refl);
}
  where
    under : (count : ℕ) → nat_le (2 ^ 62) count ≡ false → count < 2 ^ 62
    under count fails = grind (arith, nat_tests)

    log_test : (b : Bool) → nat_le (2 ^ 62) (length n.raft.log) ≡ b → nat_le (2 ^ 62) (length n.raft.log) ≡ false
    log_test true t = let e : Some (length n.raft.log) ≡ None = sym (ap (λ (x : Bool). cond x (Some (length n.raft.log)) (cond (nat_le (2 ^ 62) n.raft.probe) (Some n.raft.probe) (cond (nat_le (2 ^ 62) generation) (Some generation) (cond (nat_le (2 ^ 62) n.last) (Some n.last) None)))) t) ∙ is in absurd (cc)
    log_test false t = t

    last_test : (a b c d : Bool) → cond a (Some (length n.raft.log)) (cond b (Some n.raft.probe) (cond c (Some generation) (cond d (Some n.last) None))) ≡ None → nat_le (2 ^ 62) n.last ≡ d → nat_le (2 ^ 62) n.last ≡ false
    last_test true b c d e t = absurd (cc)
    last_test false true c d e t = absurd (cc)
    last_test false false true d e t = absurd (cc)
    last_test false false false true e t = absurd (cc)
    last_test false false false false e t = t
