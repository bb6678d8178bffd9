-- A slice of committed entries that is applied.
use Rattle.std.proofs.Common.{◌≡◌, ◌⊎◌, inl, inr, ℕ, zero, suc, ◌+◌, ◌-◌, ◌<◌, ◌≤◌, Bool, true, false, cond, IsTrue, List, [], ◌∷◌, ◌++◌, length, map, take, drop, get_or, slice_get, Option, Some, None, Result, Ok, Err, IfOk, IfErr, refl, sym, ap, ◌∙◌, subst, arith}
use Rattle.std.specs.Prelude.{◌==◌, nat_lt, nat_le, remove, is_none, is_some}
use Rattle.std.proofs.lemmas.Bool.Decides.{nat_tests}
use Rattle.rq_outside.specs.declared.pair.DiskPair.{DiskPair}
use Rattle.rq_outside.specs.Disk.{DiskMeaning}
use Rattle.rq_wal.specs.declared.base.Base.{Base}
use Rattle.rq_wal.specs.declared.base.Stored.{Stored}
use Rattle.rq_wal.specs.declared.file.WalFile.{WalFile}
use Rattle.rq_wal.specs.Current.{IsCurrent, OnlyRoom, EachSinceGives}
use Rattle.rq_wire.specs.declared.config.Member.{Member}
use Rattle.rq_request.specs.declared.say.Answer.{Answer}
use Rattle.rq_request.specs.declared.say.Say.{Say}
use Rattle.rq_request.specs.declared.say.Say.TheVariants.{Results}
use Rattle.rq_statement.specs.declared.res.Res.{Res}
use Rattle.rq_statement.specs.declared.item.Item.{Item}
use Rattle.rq_engine.specs.declared.outcome.Outcome.{Outcome}
use Rattle.rq_engine.specs.Fold.{State, run}
use Rattle.rq_engine.specs.Fold as fold
use Rattle.rq_log.specs.Views.{spell}
use Rattle.rq_raft.specs.Node.{RaftNode, StoredRecord, persistent_after}
use Rattle.rq_world.specs.declared.log_entry.LogEntry.{LogEntry}
use Rattle.rq_world.specs.declared.waiting.Waiting.{Waiting}
use Rattle.rq_world.specs.Node.{Node, PendingRead, Turn, persistent_of, unchanged}
use Rattle.rq_world.specs.Reads.{is_due}
use Rattle.rq_world.specs.Rules.{apply, applied_entry, applied_command, applied_raft, answered, still_waiting, said, say_of, due_answers, not_due, reads}
use Rattle.rq_member.specs.declared.event.Effects.{Effects}
use Rattle.rq_member.specs.declared.turn_error.TurnError.{TurnError}
use Rattle.rq_member.specs.Applied.{AppliedSome, outcome_waits, due_reads}
use Rattle.rq_member.specs.Held.{IsOpen}
use Rattle.rq_member.specs.Turned.{applies, Did, DidApply}
use Rattle.std.proofs.lemmas.List.{map-append}
use Rattle.rq_member.proofs.Answering.{IsPicked, picked_then, picked_else}
use Rattle.rq_member.proofs.Passing.{due_more, due_one, due_none, append_none}
use Rattle.rq_member.proofs.Resting.{IsOwn, did_rest}

-- ---- slices

-- a turn that stores and sends nothing, and leaves what is kept
record Quiet (n : Node) (t : Turn) : Type 0 where
  stored : t.stored ≡ []
  packets : t.packets ≡ []
  kept : persistent_of t.node ≡ persistent_of n

module _ (first : List Member) where
  apply_quiet : (n : Node) → Quiet n (apply first n)
  apply_quiet n = by (nat_lt n.raft.applied n.raft.commit) (slice_get n.raft.log n.raft.applied)
    where
      by : (b : Bool) (e : Option LogEntry) → Quiet n (cond b (applied_entry first n e) (unchanged n))
      by true (Some e) = record { stored = refl; packets = refl; kept = refl }
      by true None = record { stored = refl; packets = refl; kept = refl }
      by false e = record { stored = refl; packets = refl; kept = refl }

  applies_quiet : (k : ℕ) (n : Node) → Quiet n (applies first k n)
  applies_quiet zero n = record { stored = refl; packets = refl; kept = refl }
  applies_quiet (suc k) n =
      let one = applies_quiet k n in
      let two = apply_quiet (applies first k n).node in
      record { stored = λ i. one.stored i ++ two.stored i; packets = λ i. one.packets i ++ two.packets i; kept = two.kept ∙ one.kept }

  pub applied_ok : (most done : ℕ) (n node : Node) (effects : Effects) → done ≤ most → (0 < most → n.raft.applied < n.raft.commit → 0 < done) → node ≡ (applies first done n).node
      → effects.stored ≡ 0 → effects.packets ≡ [] → effects.answers ≡ (applies first done n).answers → AppliedSome first most n node (Ok effects)
  applied_ok most done n node effects few some is none sent told =
      let q = applies_quiet done n in
      record {
        count = done;
        at_most = few;
        some = λ one near _. some one near;
        turned = (is, record { stored = none ∙ sym (ap length q.stored); packets = ap (spell (applies first done n).node.raft.log) sent ∙ sym q.packets; answers = told });
      }

  pub applied_err : (most : ℕ) (n node : Node) (e : TurnError) → node ≡ n → AppliedSome first most n node (Err e)
  applied_err most n node e is = record { count = 0; at_most = omega arith; some = λ one near none. absurd (cc); turned = is }

  pub some_applied : (done : ℕ) (n m : Node) (applied commit : ℕ) → m ≡ (applies first done n).node → applied ≡ m.raft.applied → commit ≡ m.raft.commit → commit ≤ applied → n.raft.applied < n.raft.commit → 0 < done
  some_applied zero n m applied commit is one two no_more near = absurd (omega (arith, one, two, no_more, near, ap (λ (k : Node). k.raft.applied) is, ap (λ (k : Node). k.raft.commit) is))
  some_applied (suc done) n m applied commit is one two no_more near = omega arith

  pub applied_end : (most done : ℕ) (n mid node : Node) (error : TurnError) (result : Result Effects TurnError) (said_ given : List Answer) → done ≤ most → mid ≡ (applies first done n).node → node ≡ mid → given ≡ said_ → said_ ≡ (applies first done n).answers
      → IfOk result (λ effects. (0 < done) × (effects.stored ≡ 0) × (effects.packets ≡ []) × (effects.answers ≡ given)) → IfErr result (λ e. (done ≡ 0) × (e ≡ error)) → AppliedSome first most n node result
  applied_end most done n mid node error (Ok effects) said_ given few is same gave so ok err = applied_ok most done n node effects few (λ _ _. ok.0) (same ∙ is) ok.1 ok.2 (ok.3 ∙ gave ∙ so)
  applied_end most done n mid node error (Err e) said_ given few is same gave so ok err = applied_err most n node e (same ∙ is ∙ ap (λ (k : ℕ). (applies first k n).node) err.0)

  module _ {D F : Type 0} (told : Bool) (means : D → DiskMeaning) where
    pub did_applied : (IsTrue told → (base : Base) (old new : DiskPair D F) (wal : WalFile) (stored : Stored) → IsCurrent means base old wal stored → OnlyRoom means old new wal → EachSinceGives means base old new stored)
        → (most : ℕ) (pair : DiskPair D F) (n node : Node) (file : Option WalFile) (result : Result Effects TurnError) → IsOpen first told means pair n file → AppliedSome first most n node result → IfErr result IsOwn
        → DidApply first told means most pair pair n node file result
    did_applied law most pair n node file (Ok effects) opened some own =
        let q = applies_quiet some.count n in
        record {
          count = some.count;
          at_most = some.at_most;
          some = some.some;
          did = did_rest first told means law (applies first some.count n) pair n node file (Ok effects) opened q.stored q.kept some.turned.0 some.turned.1 tt tt;
        }
    did_applied law most pair n node file (Err e) opened some own =
        let q = applies_quiet some.count n in
        record {
          count = some.count;
          at_most = some.at_most;
          some = some.some;
          did = did_rest first told means law (applies first some.count n) pair n node file (Err e) opened q.stored q.kept tt tt some.turned own;
        }

  -- ---- the next entry

  applied_is : (n : Node) (entry : LogEntry) → n.raft.applied < n.raft.commit → slice_get n.raft.log n.raft.applied ≡ Some entry → apply first n ≡ reads first (applied_command n entry.command)
  applied_is n entry near at =
      let t : nat_lt n.raft.applied n.raft.commit ≡ true = low n.raft.applied n.raft.commit near in
      (λ i. cond (t i) (applied_entry first n (at i)) (unchanged n))
    where
      low : (a b : ℕ) → a < b → nat_lt a b ≡ true
      low a b less = grind (arith, nat_tests)

  pub applied_none : (n : Node) → slice_get n.raft.log n.raft.applied ≡ None → apply first n ≡ unchanged n
  applied_none n at = by (nat_lt n.raft.applied n.raft.commit) ∙ refl
    where
      by : (b : Bool) → cond b (applied_entry first n (slice_get n.raft.log n.raft.applied)) (unchanged n) ≡ unchanged n
      by true = ap (applied_entry first n) at
      by false = refl

  -- the node behind the next entry, by its parts
  pub next_node : (n m : Node) (entry : LogEntry) (outcome : Outcome) (replica : State) → n.raft.applied < n.raft.commit → slice_get n.raft.log n.raft.applied ≡ Some entry → run n.replica entry.command ≡ (replica, outcome)
      → m ≡ record n { raft = applied_raft n; replica = replica; waiting = still_waiting (n.raft.applied + 1) n.waiting }
      → record m { pending_reads = not_due first m m.pending_reads } ≡ (apply first n).node
  next_node n m entry outcome replica near at ran is =
      let t = applied_command n entry.command in
      let same : m ≡ t.node = is ∙ ap (λ (p : State × Outcome). record n { raft = applied_raft n; replica = p.0; waiting = still_waiting (n.raft.applied + 1) n.waiting }) (sym ran) in
      ap (λ (k : Node). record k { pending_reads = not_due first k k.pending_reads }) same ∙ sym (ap (λ (u : Turn). u.node) (applied_is n entry near at))

  pub next_answers : (n m : Node) (entry : LogEntry) (outcome : Outcome) (replica : State) (old mid new : List Answer) → n.raft.applied < n.raft.commit → slice_get n.raft.log n.raft.applied ≡ Some entry → run n.replica entry.command ≡ (replica, outcome)
      → m ≡ record n { raft = applied_raft n; replica = replica; waiting = still_waiting (n.raft.applied + 1) n.waiting }
      → mid ≡ old ++ answered (n.raft.applied + 1) outcome n.waiting → new ≡ mid ++ due_answers first m m.pending_reads → new ≡ old ++ (apply first n).answers
  next_answers n m entry outcome replica old mid new near at ran is said_ due =
      let t = applied_command n entry.command in
      let same : m ≡ t.node = is ∙ ap (λ (p : State × Outcome). record n { raft = applied_raft n; replica = p.0; waiting = still_waiting (n.raft.applied + 1) n.waiting }) (sym ran) in
      let gave : answered (n.raft.applied + 1) outcome n.waiting ≡ t.answers = ap (λ (p : State × Outcome). answered (n.raft.applied + 1) p.1 n.waiting) (sym ran) in
      due ∙ (λ i. said_ i ++ due_answers first (same i) (same i).pending_reads) ∙ append_last old (answered (n.raft.applied + 1) outcome n.waiting) (due_answers first t.node t.node.pending_reads)
      ∙ ap (λ (l : List Answer). old ++ (l ++ due_answers first t.node t.node.pending_reads)) gave
      ∙ sym (ap (λ (u : Turn). old ++ u.answers) (applied_is n entry near at))
    where
      append_last : {T : Type 0} (a b c : List T) → (a ++ b) ++ c ≡ a ++ (b ++ c)
      append_last [] b c = refl
      append_last (x ∷ a) b c = ap (λ l. x ∷ l) (append_last a b c)

-- ---- the reads that become due

module _ (first : List Member) (n : Node) where
  due_first : (l : List PendingRead) (k : ℕ) (x : PendingRead) → slice_get l k ≡ Some x → is_due first n.raft x.pass ≡ true → due_reads first n.raft (drop k l) ≡ x ∷ due_reads first n.raft (drop (k + 1) l)
  due_first [] k x at is = absurd (cc)
  due_first (y ∷ l) zero x at is =
      let same : y ≡ x = cc in
      ap (λ (b : Bool). cond b (y ∷ due_reads first n.raft l) (due_reads first n.raft l)) (ap (λ (r : PendingRead). is_due first n.raft r.pass) same ∙ is) ∙ ap (λ (r : PendingRead). r ∷ due_reads first n.raft l) same
  due_first (y ∷ l) (suc k) x at is =
      let e : suc k + 1 ≡ suc (k + 1) = omega arith in
      due_first l k x at is ∙ ap (λ (m : ℕ). x ∷ due_reads first n.raft (drop m (y ∷ l))) (sym e)

  due_skip : (l : List PendingRead) (k : ℕ) (x : PendingRead) → slice_get l k ≡ Some x → is_due first n.raft x.pass ≡ false → due_reads first n.raft (drop k l) ≡ due_reads first n.raft (drop (k + 1) l)
  due_skip [] k x at is = absurd (cc)
  due_skip (y ∷ l) zero x at is =
      let same : y ≡ x = cc in
      ap (λ (b : Bool). cond b (y ∷ due_reads first n.raft l) (due_reads first n.raft l)) (ap (λ (r : PendingRead). is_due first n.raft r.pass) same ∙ is)
  due_skip (y ∷ l) (suc k) x at is =
      let e : suc k + 1 ≡ suc (k + 1) = omega arith in
      due_skip l k x at is ∙ ap (λ (m : ℕ). due_reads first n.raft (drop m (y ∷ l))) (sym e)

  -- some result is left where a read is due
  pub result_left : (l : List PendingRead) (k : ℕ) (x : PendingRead) (results : List (List Res)) → slice_get l k ≡ Some x → is_due first n.raft x.pass ≡ true
      → results ≡ map (λ (r : PendingRead). fold.answer n.replica r.items) (due_reads first n.raft (drop k l)) → results ≡ fold.answer n.replica x.items ∷ map (λ (r : PendingRead). fold.answer n.replica r.items) (due_reads first n.raft (drop (k + 1) l))
  result_left l k x results at is so = so ∙ ap (map (λ (r : PendingRead). fold.answer n.replica r.items)) (due_first l k x at is)

  pub results_pass : (l : List PendingRead) (k : ℕ) (x : PendingRead) (results : List (List Res)) → slice_get l k ≡ Some x → is_due first n.raft x.pass ≡ false
      → results ≡ map (λ (r : PendingRead). fold.answer n.replica r.items) (due_reads first n.raft (drop k l)) → results ≡ map (λ (r : PendingRead). fold.answer n.replica r.items) (due_reads first n.raft (drop (k + 1) l))
  results_pass l k x results at is so = so ∙ ap (map (λ (r : PendingRead). fold.answer n.replica r.items)) (due_skip l k x at is)

  pub some_left : (results : List (List Res)) (r : List Res) (rest : List (List Res)) → results ≡ r ∷ rest → 0 < length results
  some_left results r rest is = omega (arith, ap length is)

  pub left_rest : (results new : List (List Res)) (r : List Res) (rest : List (List Res)) → results ≡ r ∷ rest → new ≡ remove results 0 → new ≡ rest
  left_rest results new r rest is removed = removed ∙ ap (λ (l : List (List Res)). remove l 0) is

  pub read_answered : (l : List PendingRead) (k : ℕ) (x : PendingRead) (old before new : List Answer) (id : ℕ) (result : List Res) → slice_get l k ≡ Some x → is_due first n.raft x.pass ≡ true → id ≡ x.pass.id → result ≡ fold.answer n.replica x.items
      → before ≡ old ++ due_answers first n (take k l) → new ≡ before ++ record { number = id; say = Results result } ∷ [] → new ≡ old ++ due_answers first n (take (k + 1) l)
  read_answered l k x old before new id result at is number gave so added =
      due_more first n l k x old before new at so (added ∙ (λ i. before ++ record { number = number i; say = Results (gave i) } ∷ []) ∙ ap (λ (m : List Answer). before ++ m) (sym (due_one first n x is)))

  pub read_passed : (l : List PendingRead) (k : ℕ) (x : PendingRead) (old before : List Answer) → slice_get l k ≡ Some x → is_due first n.raft x.pass ≡ false → before ≡ old ++ due_answers first n (take k l) → before ≡ old ++ due_answers first n (take (k + 1) l)
  read_passed l k x old before at is so =
      due_more first n l k x old before before at so (sym (append_none before) ∙ ap (λ (m : List Answer). before ++ m) (sym (due_none first n x is)))

pub head_is : (results : List (List Res)) (r result : List Res) (rest : List (List Res)) → results ≡ r ∷ rest → result ≡ get_or results 0 result → result ≡ r
head_is results r result rest is at = at ∙ ap (λ (l : List (List Res)). get_or l 0 result) is

-- ---- the queries of the reads that become due

module _ (first : List Member) (n : RaftNode LogEntry) where
  picks_due_reads : IsPicked (due_reads first n) (λ r. is_due first n r.pass) (λ r. r)
  picks_due_reads = record { none = refl; more = λ r l. refl }

  pub due_taken : {B : Type 0} (queries : B → List Item) (due new : List B) (b : B) (l : List PendingRead) (k : ℕ) (x : PendingRead) → slice_get l k ≡ Some x → is_due first n x.pass ≡ true → queries b ≡ x.items
      → map queries due ≡ map (λ (r : PendingRead). r.items) (due_reads first n (take k l)) → new ≡ due ++ b ∷ [] → map queries new ≡ map (λ (r : PendingRead). r.items) (due_reads first n (take (k + 1) l))
  due_taken queries due new b l k x at holds same so is =
      ap (map queries) is ∙ map-append queries due (b ∷ []) ∙ (λ i. so i ++ same i ∷ []) ∙ sym (map-append (λ (r : PendingRead). r.items) (due_reads first n (take k l)) (x ∷ []))
      ∙ sym (ap (map (λ (r : PendingRead). r.items)) (picked_then (due_reads first n) _ _ picks_due_reads l k x at holds))

  pub due_passed : {B : Type 0} (queries : B → List Item) (due : List B) (l : List PendingRead) (k : ℕ) (x : PendingRead) → slice_get l k ≡ Some x → is_due first n x.pass ≡ false
      → map queries due ≡ map (λ (r : PendingRead). r.items) (due_reads first n (take k l)) → map queries due ≡ map (λ (r : PendingRead). r.items) (due_reads first n (take (k + 1) l))
  due_passed queries due l k x at fails_ so = so ∙ sym (ap (map (λ (r : PendingRead). r.items)) (picked_else (due_reads first n) _ _ picks_due_reads l k x at fails_))

fused : {A B C : Type 0} (g : B → C) (f : A → B) (l : List A) → map (λ a. g (f a)) l ≡ map g (map f l)
fused g f [] = refl
fused g f (a ∷ l) = ap (λ m. g (f a) ∷ m) (fused g f l)

pub answers_due : {B : Type 0} (queries : B → List Item) (s : State) (due slice : List B) (reads_ : List PendingRead) (results : List (List Res)) → results ≡ map (λ b. fold.answer s (queries b)) slice → slice ≡ due
    → map queries due ≡ map (λ (r : PendingRead). r.items) reads_ → results ≡ map (λ (r : PendingRead). fold.answer s r.items) reads_
answers_due queries s due slice reads_ results gave same so =
    gave ∙ ap (map (λ b. fold.answer s (queries b))) same ∙ fused (fold.answer s) queries due ∙ ap (map (fold.answer s)) so ∙ sym (fused (fold.answer s) (λ (r : PendingRead). r.items) reads_)
