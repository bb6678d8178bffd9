-- A leader appends an entry, for which some wait.
use Rattle.std.proofs.Common.{◌≡◌, ◌≢◌, ◌⊎◌, inl, inr, ◌+◌, ◌-◌, ◌<◌, ◌≤◌, ◌&&◌, not, ℕ, zero, suc, Bool, true, false, cond, IsTrue, List, [], ◌∷◌, ◌++◌, length, take, Some, None, Option, Result, Ok, Err, refl, sym, ◌∙◌, ap, subst, arith}
use Rattle.rq_outside.specs.declared.pair.DiskPair.{DiskPair}
use Rattle.rq_outside.specs.Disk.{DiskMeaning}
use Rattle.rq_wal.specs.declared.base.Base.{Base}
use Rattle.rq_wal.specs.declared.base.Stored.{Stored}
use Rattle.rq_wal.specs.declared.file.WalFile.{WalFile}
use Rattle.rq_wal.specs.Current.{IsCurrent, OnlyRoom, EachSinceGives}
use Rattle.rq_wire.specs.declared.config.Member.{Member}
use Rattle.rq_raft.specs.Node.{RaftNode, RaftTurn, is_leader, all_stored, unchanged as raft_unchanged}
use Rattle.rq_raft.specs.Lead.{propose, committed, send, appended, followed, is_idle}
use Rattle.rq_world.specs.declared.log_entry.LogEntry.{LogEntry}
use Rattle.rq_world.specs.declared.waiting.Waiting.{Waiting}
use Rattle.rq_world.specs.Node.{Node, QueuedWrite, Turn, log_entries, persistent_of}
use Rattle.rq_world.specs.Rules.{raft_turn, steps_down, stays_on, appends, batch_entry}
use Rattle.rq_member.specs.declared.event.Effects.{Effects}
use Rattle.rq_member.specs.declared.turn_error.TurnError.{TurnError}
use Rattle.rq_member.specs.declared.turn_error.TurnError.TheVariants as errors
use Rattle.rq_member.specs.Files.{IsReadable}
use Rattle.rq_member.specs.Held.{IsOpen}
use Rattle.rq_member.specs.Turned.{Brings, Turned, Did}
use Rattle.rq_member.proofs.Rules.{propose_keeps}
use Rattle.rq_member.proofs.Turning.{kept_all, all_readable, did_refuse}

append_none : {T : Type 0} (l : List T) → l ++ [] ≡ l
append_none [] = refl
append_none (x ∷ l) = ap (λ m. x ∷ m) (append_none l)

append_last : {T : Type 0} (a b c : List T) → (a ++ b) ++ c ≡ a ++ (b ++ c)
append_last [] b c = refl
append_last (x ∷ a) b c = ap (λ m. x ∷ m) (append_last a b c)

taken_back : {T : Type 0} (a b : List T) → take (length a) (a ++ b) ≡ a
taken_back [] b = refl
taken_back (x ∷ a) b = ap (λ m. x ∷ m) (taken_back a b)

abbrev fails : TurnError → Result Effects TurnError
fails e = Err e

no_memory_is_no_disk : errors.NoMemory ≢ errors.Disk
no_memory_is_no_disk is = absurd (cc)

and_false : (b : Bool) → (b && false) ≡ false
and_false true = refl
and_false false = refl

module _ (first : List Member) where
  keeps_role : (n : RaftNode LogEntry) (e : LogEntry) → (propose log_entries first n e).node.role ≡ n.role
  keeps_role n e = by (is_leader n.role)
    where
      by : (b : Bool) → (cond b (committed log_entries first (send log_entries first (λ p. is_idle p.flight) (appended (followed log_entries first n e) e))) (raft_unchanged n)).node.role ≡ n.role
      by true = refl
      by false = refl

  -- it leads on
  pub appends_is : (n : Node) (e : LogEntry) → is_leader n.raft.role ≡ true → raft_turn n (propose log_entries first n.raft e) ≡ appends first n e [] n.queue
  appends_is n e leads =
      let t = propose log_entries first n.raft e in
      let on : is_leader t.node.role ≡ true = ap is_leader (keeps_role n.raft e) ∙ leads in
      let stays : (is_leader n.raft.role && not (is_leader t.node.role)) ≡ false = ap (λ (b : Bool). is_leader n.raft.role && not b) on ∙ and_false (is_leader n.raft.role) in
      ap (λ (b : Bool). cond b (steps_down n t) (stays_on n t)) stays
      ∙ (λ i. record { node = record n { raft = t.node; waiting = sym (append_none n.waiting) i }; stored = all_stored n.raft t; packets = t.packets; answers = [] })

  module _ {D F : Type 0} (told : Bool) (means : D → DiskMeaning) where
    pub did_append : (n : Node) (e : LogEntry) (t : RaftTurn LogEntry) (m : Node) (old new : DiskPair D F) (node : Node) (file : Option WalFile) (result : Result Effects TurnError) → is_leader n.raft.role ≡ true → t ≡ propose log_entries first n.raft e → m ≡ n
        → Did first told means (raft_turn m t) old new m node file result → Did first told means (appends first n e [] n.queue) old new n node file result
    did_append n e t m old new node file result leads given same did =
        subst (λ (u : Turn). Did first told means u old new n node file result) (appends_is n e leads)
        (subst (λ (k : Node). Did first told means (raft_turn k (propose log_entries first n.raft e)) old new k node file result) same
        (subst (λ (u : RaftTurn LogEntry). Did first told means (raft_turn m u) old new m node file result) given did))

    -- nothing was appended
    pub did_not_append : (IsTrue told → (base : Base) (old new : DiskPair D F) (wal : WalFile) (stored : Stored) → IsCurrent means base old wal stored → OnlyRoom means old new wal → EachSinceGives means base old new stored)
        → (n : Node) (entry : LogEntry) (waits : List Waiting) (queue : List QueuedWrite) (pair : DiskPair D F) (node : Node) (file : Option WalFile) (e : TurnError) → IsOpen first told means pair n file → IsReadable entry.command → node ≡ n → e ≢ errors.Disk
        → Did first told means (appends first n entry waits queue) pair pair n node file (Err e)
    did_not_append law n entry waits queue pair node file e opened readable same other =
        let t = propose log_entries first n.raft entry in
        let keeps = propose_keeps first n.raft entry readable in
        did_refuse first told means law (appends first n entry waits queue) pair n node file e opened (kept_all n t keeps) (all_readable n.raft t keeps) same other

    -- what waits was put there before
    pub did_wait : (n : Node) (entry : LogEntry) (waits : List Waiting) (queue : List QueuedWrite) (old new : DiskPair D F) (m node end : Node) (file : Option WalFile) (effects : Effects) → m ≡ record n { waiting = n.waiting ++ waits }
        → Did first told means (appends first m entry [] m.queue) old new m node file (Ok effects) → end ≡ record node { queue = queue } → Did first told means (appends first n entry waits queue) old new n end file (Ok effects)
    did_wait n entry waits queue old new m node end file effects is did ends =
        let here = record n { waiting = n.waiting ++ waits } in
        let d = subst (λ (k : Node). Did first told means (appends first k entry [] k.queue) old new k node file (Ok effects)) is did in
        let t = appends first n entry waits queue in
        record {
          turned = (
            ends ∙ ap (λ (k : Node). record k { queue = queue }) d.turned.0 ∙ (λ i. record t.node { waiting = append_none (n.waiting ++ waits) i }),
            record { stored = d.turned.1.stored; packets = d.turned.1.packets; answers = d.turned.1.answers },
          );
          kept = d.kept;
          readable = d.readable;
          stored = d.stored;
        }

    pub did_not_wait : (n : Node) (entry : LogEntry) (waits : List Waiting) (queue : List QueuedWrite) (old new : DiskPair D F) (m node end : Node) (file : Option WalFile) (e : TurnError) → m ≡ record n { waiting = n.waiting ++ waits }
        → Did first told means (appends first m entry [] m.queue) old new m node file (Err e) → end ≡ record node { waiting = take (length n.waiting) node.waiting } → Did first told means (appends first n entry waits queue) old new n end file (Err e)
    did_not_wait n entry waits queue old new m node end file e is did ends =
        let d = subst (λ (k : Node). Did first told means (appends first k entry [] k.queue) old new k node file (Err e)) is did in
        record {
          turned = ends ∙ ap (λ (k : Node). record k { waiting = take (length n.waiting) k.waiting }) d.turned ∙ (λ i. record n { waiting = taken_back n.waiting waits i });
          kept = d.kept;
          readable = d.readable;
          stored = d.stored;
        }

    -- no memory was left for it
    pub did_starve : (IsTrue told → (base : Base) (old new : DiskPair D F) (wal : WalFile) (stored : Stored) → IsCurrent means base old wal stored → OnlyRoom means old new wal → EachSinceGives means base old new stored)
        → (n : Node) (entry : LogEntry) (waits : List Waiting) (queue : List QueuedWrite) (pair : DiskPair D F) (node : Node) (file had : Option WalFile) (result : Result Effects TurnError)
        → (e : TurnError) × (result ≡ Err e) × (e ≡ errors.NoMemory) → IsOpen first told means pair n had → file ≡ had → IsReadable entry.command → node ≡ n → Did first told means (appends first n entry waits queue) pair pair n node file result
    did_starve law n entry waits queue pair node file had result refused opened same_file readable same =
        subst (λ (r : Result Effects TurnError). Did first told means (appends first n entry waits queue) pair pair n node file r) (sym (refused.1 ∙ ap fails refused.2))
        (did_not_append law n entry waits queue pair node file errors.NoMemory (subst (λ (f : Option WalFile). IsOpen first told means pair n f) (sym same_file) opened) readable same no_memory_is_no_disk)

    -- the batch's entry is the same whoever waits for it
    pub did_batch : (before : List Member) (n m : Node) (waits : List Waiting) (old new : DiskPair D F) (node : Node) (file : Option WalFile) (effects : Effects) → before ≡ first → m ≡ record n { waiting = n.waiting ++ waits }
        → Did before told means (appends before m (batch_entry before m) [] m.queue) old new m node file (Ok effects) → Did first told means (appends first m (batch_entry first n) [] m.queue) old new m node file (Ok effects)
    did_batch before n m waits old new node file effects firsts is did =
        subst (λ (e : LogEntry). Did first told means (appends first m e [] m.queue) old new m node file (Ok effects)) (ap (λ (k : Node). batch_entry first k) is)
        (subst (λ (f : List Member). Did f told means (appends f m (batch_entry f m) [] m.queue) old new m node file (Ok effects)) firsts did)
