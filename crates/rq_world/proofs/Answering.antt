-- Where each answer with results or a sequence number comes from, and each ask that waits.
use Rattle.std.proofs.Common.{◌≡◌, ◌⊎◌, ◌<◌, ℕ, zero, suc, ◌+◌, ◌==◌, ◌&&◌, not, List, [], ◌∷◌, ◌++◌, length, slice_get, Bool, true, false, if◌then◌else◌, Option, Some, None, refl, sym, ◌∙◌, ap, subst, inl, inr, ⊎_elim, arith}
use Rattle.std.specs.Prelude.{nat_lt, nat_le, bytes_eq, drop, map, ⊤}
use Rattle.rq_statement.specs.Statements.{Statements}
use Rattle.rq_wire.specs.declared.config.Member.{Member}
use Rattle.rq_statement.specs.declared.item.Item.{Item}
use Rattle.rq_request.specs.declared.say.Say.{Say}
use Rattle.rq_request.specs.declared.say.Say.TheVariants.{Results, Queued, Loaded, Backup, Nodes, Ready, Changed, Moved, Refused}
use Rattle.rq_request.specs.declared.say.NodeRefusal.TheVariants.{NoLeader, Lost, Timeout, Stale, EntryTooLarge, QueuedTooLarge, QueueFull}
use Rattle.rq_request.specs.declared.say.Answer.{Answer}
use Rattle.rq_statement.specs.Bytes.{command_bytes}
use Rattle.rq_engine.specs.declared.outcome.Outcome.{Outcome}
use Rattle.rq_engine.specs.Fold.{answer, run}
use Rattle.rq_raft.specs.declared.role.Role.{Role}
use Rattle.rq_raft.specs.declared.role.Role.TheVariants.{Follower, Candidate, Leader}
use Rattle.rq_history.specs.History.{NodeId}
use Rattle.rq_raft.specs.Node.{RaftNode, Message, VoteAsk, VoteSay, Append, AppendSay, Install, InstallSay, Packet, RaftTurn, is_leader}
use Rattle.rq_raft.specs.Vote as vote
use Rattle.rq_raft.specs.Lead as lead
use Rattle.rq_raft.specs.Deliver as deliver
use Rattle.rq_raft.specs.Laws.{LeadOn, Installed}
use Rattle.rq_raft.specs.Install as install
use Rattle.rq_world.specs.declared.log_entry.LogEntry.{LogEntry}
use Rattle.rq_statement.specs.declared.command.Command.{Command}
use Rattle.rq_statement.specs.declared.command.Command.TheVariants.{Execute, StrongQuery}
use Rattle.rq_request.specs.declared.ask.Level.{Level}
use Rattle.rq_request.specs.declared.ask.Level.TheVariants as level
use Rattle.rq_world.specs.declared.waiting.Waiting.{Waiting}
use Rattle.rq_world.specs.Node.{QueuedWrite, PendingRead, Node, log_entries, Turn, unchanged, says, replica_of}
use Rattle.rq_world.specs.Reads.{pass_of, begin, is_due, is_stale, limit_of}
use Rattle.rq_world.specs.Rules.{max_command_bytes, inserted, by_number, lost_all, is_expired, expired_waiting, expired_reads, queued_is_expired, expired_queued, live_waiting, live_reads, live_queue, tick, max_queued_bytes, queue_capacity, max_batch, immediate_answer, enqueued, if_not_full, if_not_too_large, enqueue, batch, batch_waits, flushed, flush, said, waiting_numbers, answered, still_waiting, steps_down, stays_on, raft_turn, reads, counts, with_reads, restored, due_answers, not_due, receive, appended_for, proposed, if_leads, query, begun, read, applied_command, applied_entry, apply, write_command}
use Rattle.rq_world.specs.World.{Op, Write, Queue, Read, Note, Asked, Answered, Act, Ask, Elect, Beat, Flush, Apply, Compact, Deliver, Tick, Idle, act, note_of, place_of, at_place}
use Rattle.rq_world.specs.Promise.{HasResults, HasSequence}
use Rattle.rq_world.proofs.Tests.{if_case, and_true, eq_true, lt_true}
use Rattle.rq_world.proofs.Given.{Given}
use Rattle.rq_world.proofs.Histories.{places_both}

pub note_both : (a b : List Note) (k : ℕ) (q : Note) → slice_get (a ++ b) k ≡ Some q → (slice_get a k ≡ Some q) ⊎ ((m : ℕ) × (k ≡ length a + m) × (slice_get b m ≡ Some q))
note_both [] b k q e = inr (k, omega arith, e)
note_both (x ∷ a) b zero q e = inl e
note_both (x ∷ a) b (suc k) q e = ⊎_elim (λ (o : slice_get a k ≡ Some q). inl o) (λ (n : (m : ℕ) × (k ≡ length a + m) × (slice_get b m ≡ Some q)). inr (n.0, omega (arith, n.1), n.2)) (note_both a b k q e)

abbrev pub HasReading : PendingRead → List PendingRead → Type 0
HasReading r [] = Prim.⊥
HasReading r (x ∷ xs) = (x ≡ r) ⊎ HasReading r xs

abbrev pub HasWaiting : Waiting → List Waiting → Type 0
HasWaiting w [] = Prim.⊥
HasWaiting w (x ∷ xs) = (x ≡ w) ⊎ HasWaiting w xs

reading_both : (r : PendingRead) (a b : List PendingRead) → HasReading r (a ++ b) → HasReading r a ⊎ HasReading r b
reading_both r [] b h = inr h
reading_both r (x ∷ a) b (inl e) = inl (inl e)
reading_both r (x ∷ a) b (inr h) = ⊎_elim (λ (o : HasReading r a). inl (inr o)) (λ (n : HasReading r b). inr n) (reading_both r a b h)

waiting_both : (w : Waiting) (a b : List Waiting) → HasWaiting w (a ++ b) → HasWaiting w a ⊎ HasWaiting w b
waiting_both w [] b h = inr h
waiting_both w (x ∷ a) b (inl e) = inl (inl e)
waiting_both w (x ∷ a) b (inr h) = ⊎_elim (λ (o : HasWaiting w a). inl (inr o)) (λ (n : HasWaiting w b). inr n) (waiting_both w a b h)

waiting_left : (w : Waiting) (index : ℕ) (ws : List Waiting) → HasWaiting w (still_waiting index ws) → HasWaiting w ws
waiting_left w index [] = λ h. h
waiting_left w index (x ∷ ws) = if_case (λ (l : List Waiting). HasWaiting w l → HasWaiting w (x ∷ ws)) (x.index == index) (still_waiting index ws) (x ∷ ws) (λ _ h. inr (waiting_left w index ws h)) (λ _ h. h)

pub has_at : (w : Waiting) (ws : List Waiting) (k : ℕ) → slice_get ws k ≡ Some w → HasWaiting w ws
has_at w [] k e = absurd (cc)
has_at w (x ∷ ws) zero e = inl (some x w e)
  where
    some : (x y : Waiting) → Some x ≡ Some y → x ≡ y
    some x y e = cc
has_at w (x ∷ ws) (suc k) e = inr (has_at w ws k e)

-- what is answered where it is asked: a read, at level weak by a leader, and a queued write that doesn't wait
abbrev pub IsQuick : Node → Op → Type 0
IsQuick n (Write list mixed) = Prim.⊥
IsQuick n (Queue list wait) = wait ≡ false
IsQuick n (Read items level.None limit) = ⊤
IsQuick n (Read items level.Weak limit) = n.raft.role ≡ Leader
IsQuick n (Read items level.Linearizable limit) = Prim.⊥
IsQuick n (Read items level.Strong limit) = Prim.⊥

-- ---- results and sequence numbers, and lists of answers without them

abbrev pub Counts : Say → Type 0
Counts (Results results) = ⊤
Counts (Queued sequence) = ⊤
Counts Loaded = Prim.⊥
Counts (Backup sql) = Prim.⊥
Counts (Nodes servers) = Prim.⊥
Counts Ready = Prim.⊥
Counts Changed = Prim.⊥
Counts (Moved address) = Prim.⊥
Counts (Refused refusal) = Prim.⊥

pub results_count : (say : Say) → HasResults say → Counts say
results_count (Results results) h = tt
results_count (Queued sequence) h = absurd h
results_count Loaded h = absurd h
results_count (Backup sql) h = absurd h
results_count (Nodes servers) h = absurd h
results_count Ready h = absurd h
results_count Changed h = absurd h
results_count (Moved address) h = absurd h
results_count (Refused refusal) h = absurd h

pub sequence_counts : (say : Say) → HasSequence say → Counts say
sequence_counts (Results results) h = absurd h
sequence_counts (Queued sequence) h = tt
sequence_counts Loaded h = absurd h
sequence_counts (Backup sql) h = absurd h
sequence_counts (Nodes servers) h = absurd h
sequence_counts Ready h = absurd h
sequence_counts Changed h = absurd h
sequence_counts (Moved address) h = absurd h
sequence_counts (Refused refusal) h = absurd h

abbrev NoResults : List Answer → Type 0
NoResults [] = ⊤
NoResults (a ∷ more) = (Counts a.say → Prim.⊥) × NoResults more

none_put : (a : Answer) (bs : List Answer) → (Counts a.say → Prim.⊥) → NoResults bs → NoResults (inserted a bs)
none_put a [] f all = (f, tt)
none_put a (b ∷ bs) f (one, rest) = if_case NoResults (nat_lt a.number b.number) (a ∷ b ∷ bs) (b ∷ inserted a bs) (λ _. (f, (one, rest))) (λ _. (one, none_put a bs f rest))

none_lost : (term now : ℕ) (ks : List ℕ) → NoResults (lost_all term now ks)
none_lost term now [] = tt
none_lost term now (k ∷ ks) = none_put (record { number = k; say = Refused (Lost term now) }) (lost_all term now ks) (λ h. h) (none_lost term now ks)

none_both : (one two : List Answer) → NoResults one → NoResults two → NoResults (one ++ two)
none_both [] two none all = all
none_both (a ∷ one) two (f, rest) all = (f, none_both one two rest all)

none_in_order : (l : List Answer) → NoResults l → NoResults (by_number l)
none_in_order [] all = tt
none_in_order (a ∷ l) (f, rest) = none_put a (by_number l) f (none_in_order l rest)

none_waiting : (now : ℕ) (ws : List Waiting) → NoResults (expired_waiting now ws)
none_waiting now [] = tt
none_waiting now (w ∷ ws) = if_case NoResults (is_expired now w.asked w.timeout) (record { number = w.number; say = Refused (Timeout w.asked now) } ∷ expired_waiting now ws) (expired_waiting now ws) (λ _. ((λ h. h), none_waiting now ws)) (λ _. none_waiting now ws)

none_readings : (now : ℕ) (rs : List PendingRead) → NoResults (expired_reads now rs)
none_readings now [] = tt
none_readings now (r ∷ rs) = if_case NoResults (is_expired now r.asked r.timeout) (record { number = r.pass.id; say = Refused (Timeout r.asked now) } ∷ expired_reads now rs) (expired_reads now rs) (λ _. ((λ h. h), none_readings now rs)) (λ _. none_readings now rs)

none_queued : (now : ℕ) (qs : List QueuedWrite) → NoResults (expired_queued now qs)
none_queued now [] = tt
none_queued now (q ∷ qs) = if_case NoResults (queued_is_expired now q) (record { number = q.number; say = Refused (Timeout q.asked now) } ∷ expired_queued now qs) (expired_queued now qs) (λ _. ((λ h. h), none_queued now qs)) (λ _. none_queued now qs)

waiting_late : (w : Waiting) (now : ℕ) (ws : List Waiting) → HasWaiting w (live_waiting now ws) → HasWaiting w ws
waiting_late w now [] = λ h. h
waiting_late w now (x ∷ ws) = if_case (λ (l : List Waiting). HasWaiting w l → HasWaiting w (x ∷ ws)) (is_expired now x.asked x.timeout) (live_waiting now ws) (x ∷ live_waiting now ws)
    (λ _ h. inr (waiting_late w now ws h)) (λ _ h. ⊎_elim (λ (e : x ≡ w). inl e) (λ (k : HasWaiting w (live_waiting now ws)). inr (waiting_late w now ws k)) h)

reading_late : (r : PendingRead) (now : ℕ) (rs : List PendingRead) → HasReading r (live_reads now rs) → HasReading r rs
reading_late r now [] = λ h. h
reading_late r now (x ∷ rs) = if_case (λ (l : List PendingRead). HasReading r l → HasReading r (x ∷ rs)) (is_expired now x.asked x.timeout) (live_reads now rs) (x ∷ live_reads now rs)
    (λ _ h. inr (reading_late r now rs h)) (λ _ h. ⊎_elim (λ (e : x ≡ r). inl e) (λ (k : HasReading r (live_reads now rs)). inr (reading_late r now rs k)) h)

none_get : (first : List Member) (place : ℕ) (l : List Answer) (m number at : ℕ) (say : Say) → Counts say → NoResults l → slice_get (at_place first place l) m ≡ Some (Answered number say at) → Prim.⊥
none_get first place [] m number at say c all e = cc
none_get first place (a ∷ l) zero number at say c (f, all) e = f (subst Counts (sym (ap said_in e)) c)
  where
    said_in : Option Note → Say
    said_in None = a.say
    said_in (Some (Asked j home o)) = a.say
    said_in (Some (Answered j x p)) = x
none_get first place (a ∷ l) (suc m) number at say c (f, all) e = none_get first place l m number at say c all e

-- ---- the queue

abbrev pub numbers : List QueuedWrite → List ℕ
numbers qs = map (λ (q : QueuedWrite). q.number) qs

numbers_late : (now : ℕ) (qs : List QueuedWrite) → numbers (live_queue now qs) ≡ numbers qs
numbers_late now [] = refl
numbers_late now (q ∷ qs) = if_case (λ (x : QueuedWrite). x.number ∷ numbers (live_queue now qs) ≡ q.number ∷ numbers qs) (queued_is_expired now q) (record q { waits = false }) q
    (λ _. ap (λ (l : List ℕ). q.number ∷ l) (numbers_late now qs)) (λ _. ap (λ (l : List ℕ). q.number ∷ l) (numbers_late now qs))

numbers_both : (a b : List QueuedWrite) → numbers (a ++ b) ≡ numbers a ++ numbers b
numbers_both [] b = refl
numbers_both (q ∷ a) b = ap (λ (l : List ℕ). q.number ∷ l) (numbers_both a b)

numbers_drop : (k : ℕ) (qs : List QueuedWrite) → numbers (drop k qs) ≡ drop k (numbers qs)
numbers_drop zero qs = refl
numbers_drop (suc k) [] = refl
numbers_drop (suc k) (q ∷ qs) = numbers_drop k qs

module _ (g : Given) where
  -- this act begins its pass
  pub record IsBegun (n : Node) (a : Act) (r : PendingRead) : Type 0 where
    pub limit : Option ℕ
    pub act : a ≡ Ask r.pass.id r.timeout (Read r.items level.Linearizable limit)
    pub leads : n.raft.role ≡ Leader
    pub pass : r.pass ≡ pass_of n.raft r.pass.id

  -- this act appends its entry
  pub record IsTaken (n : Node) (a : Act) (w : Waiting) : Type 0 where
    pub op : Op
    pub act : a ≡ Ask w.number w.timeout op
    pub leads : n.raft.role ≡ Leader
    pub index : w.index ≡ length n.raft.log + 1
    pub position : w.position ≡ 0

  -- this act appends its batch
  pub record IsFlushed (n : Node) (a : Act) (w : Waiting) : Type 0 where
    pub act : a ≡ Flush
    pub leads : n.raft.role ≡ Leader
    pub index : w.index ≡ length n.raft.log + 1
    pub held : QueuedWrite
    pub found : slice_get (batch g.first n) w.position ≡ Some held
    pub number_is : held.number ≡ w.number
    pub sequence : w.sequence ≡ Some held.sequence

  -- this act puts one more into the queue
  pub record IsPut (n : Node) (a : Act) (qs : List QueuedWrite) : Type 0 where
    pub number : ℕ
    pub timeout : ℕ
    pub list : Statements
    pub wait : Bool
    pub act : a ≡ Ask number timeout (Queue list wait)
    pub goes : numbers qs ≡ numbers n.queue ++ number ∷ []

  -- this act takes the batch from it
  pub record IsDropped (n : Node) (a : Act) (qs : List QueuedWrite) : Type 0 where
    pub act : a ≡ Flush
    pub goes : numbers qs ≡ drop max_batch (numbers n.queue)

  abbrev pub Queues : Node → Act → List QueuedWrite → Type 0
  Queues n a qs = (numbers qs ≡ numbers n.queue) ⊎ (IsPut n a qs ⊎ IsDropped n a qs)

  abbrev pub ReadingFrom : Node → Act → PendingRead → Type 0
  ReadingFrom n a r = HasReading r n.pending_reads ⊎ IsBegun n a r

  abbrev pub WaitingFrom : Node → Act → Waiting → Type 0
  WaitingFrom n a w = HasWaiting w n.waiting ⊎ (IsTaken n a w ⊎ IsFlushed n a w)

  -- the next entry is applied, for which the first asks wait, and this is one of them
  pub record IsNext (n : Node) (a : Act) (x : RaftNode LogEntry) (m number place : ℕ) : Type 0 where
    pub none : (i : NodeId) → note_of g.first i a ≡ []
    pub place_is : place ≡ n.raft.applied + 1
    pub applied : x.applied ≡ n.raft.applied + 1
    pub less : n.raft.applied < n.raft.commit
    pub waiting : Waiting
    pub number_is : waiting.number ≡ number
    pub at : waiting.index ≡ n.raft.applied + 1
    pub found : slice_get n.waiting m ≡ Some waiting

  -- its pass is due
  pub record IsDue (n : Node) (a : Act) (x : RaftNode LogEntry) (number place : ℕ) : Type 0 where
    pub reading : PendingRead
    pub from : ReadingFrom n a reading
    pub number_is : reading.pass.id ≡ number
    pub due : is_due g.first x reading.pass ≡ true
    pub place_is : place ≡ x.applied

  -- it is answered where it is asked
  pub record IsOwn (n : Node) (a : Act) (x : RaftNode LogEntry) (number place : ℕ) : Type 0 where
    pub timeout : ℕ
    pub op : Op
    pub act : a ≡ Ask number timeout op
    pub quick : IsQuick n op
    pub place_is : place ≡ x.applied

  pub data Source (n : Node) (a : Act) (x : RaftNode LogEntry) (m number place : ℕ) : Type 0 where
    Own : IsOwn n a x number place → Source n a x m number place
    Next : IsNext n a x m number place → Source n a x m number place
    Due : IsDue n a x number place → Source n a x m number place

  pub record Gives (n : Node) (a : Act) (t : Turn) : Type 0 where
    pub answers : (m number place : ℕ) (say : Say) → Counts say → slice_get (at_place g.first (place_of g.first n a) t.answers) m ≡ Some (Answered number say place) → Source n a t.node.raft m number place
    pub pending_reads : (r : PendingRead) → HasReading r t.node.pending_reads → ReadingFrom n a r
    pub waitings : (w : Waiting) → HasWaiting w t.node.waiting → WaitingFrom n a w
    pub queue : Queues n a t.node.queue

  leads_yes : (r : Role) → is_leader r ≡ true → r ≡ Leader
  leads_yes Follower e = absurd (cc)
  leads_yes Candidate e = absurd (cc)
  leads_yes Leader e = refl

  quiet_gives : (n : Node) (a : Act) → Gives n a (unchanged n)
  quiet_gives n a = record { answers = λ m number place say c e. absurd (cc); pending_reads = λ r h. inl h; waitings = λ w h. inl h; queue = inl refl }

  -- a refusal
  refusal_gives : (n : Node) (a : Act) (number : ℕ) (say : Say) → (Counts say → Prim.⊥) → Gives n a (says n number say)
  refusal_gives n a number say f = record {
    answers = λ m asked place other c e. absurd (none_get g.first (place_of g.first n a) (record { number = number; say = say } ∷ []) m asked place other c (f, tt) e);
    pending_reads = λ r h. inl h;
    waitings = λ w h. inl h;
    queue = inl refl;
  }

  tick_gives : (now : ℕ) (n : Node) (a : Act) → Gives n a (tick n now)
  tick_gives now n a =
      let late = expired_waiting now n.waiting ++ (expired_reads now n.pending_reads ++ expired_queued now n.queue) in
      record {
        answers = λ m number place say c e. absurd (none_get g.first (place_of g.first n a) (by_number late) m number place say c
            (none_in_order late (none_both (expired_waiting now n.waiting) (expired_reads now n.pending_reads ++ expired_queued now n.queue) (none_waiting now n.waiting) (none_both (expired_reads now n.pending_reads) (expired_queued now n.queue) (none_readings now n.pending_reads) (none_queued now n.queue)))) e);
        pending_reads = λ r h. inl (reading_late r now n.pending_reads h);
        waitings = λ w h. inl (waiting_late w now n.waiting h);
        queue = inl (numbers_late now n.queue);
      }

  query_gives : (n : Node) (number timeout : ℕ) (op : Op) (items : List Item) → IsQuick n op → Gives n (Ask number timeout op) (query g.first n number items)
  query_gives n number timeout op items quick = record {
    answers = λ m asked place say c e. own m asked place say e;
    pending_reads = λ r h. inl h;
    waitings = λ w h. inl h;
    queue = inl refl;
  }
    where
      own : (m asked place : ℕ) (say : Say) → slice_get (Answered number (Results (answer n.replica items)) n.raft.applied ∷ []) m ≡ Some (Answered asked say place) → Source n (Ask number timeout op) n.raft m asked place
      own zero asked place say e = Own (record { timeout = timeout; op = op; act = ap (λ (k : ℕ). Ask k timeout op) (ap number_in e); quick = quick; place_is = sym (ap place_in e) })
        where
          place_in : Option Note → ℕ
          place_in None = 0
          place_in (Some (Asked j home o)) = 0
          place_in (Some (Answered j x p)) = p

          number_in : Option Note → ℕ
          number_in None = 0
          number_in (Some (Asked j home o)) = 0
          number_in (Some (Answered j x p)) = j
      own (suc m) asked place say e = absurd (cc)

  led_gives : (n : Node) (a : Act) (number : ℕ) (t : Turn) → (n.raft.role ≡ Leader → Gives n a t) → Gives n a (if_leads g.first n number t)
  led_gives n a number t f = if_case (Gives n a) (is_leader n.raft.role) t (says n number (Refused (NoLeader n.raft.term))) (λ q. f (leads_yes n.raft.role q)) (λ _. refusal_gives n a number (Refused (NoLeader n.raft.term)) (λ h. h))

  taken_gives : (n : Node) (number moment timeout : ℕ) (op : Op) (entry : LogEntry) → n.raft.role ≡ Leader → Gives n (Ask number timeout op) (appended_for g.first n number moment timeout entry)
  taken_gives n number moment timeout op entry leads = record {
    queue = inl refl;
    answers = λ m asked place say c e. absurd (cc);
    pending_reads = λ r h. inl h;
    waitings = λ w h. ⊎_elim (λ (o : HasWaiting w n.waiting). inl o) (λ (k : HasWaiting w (record { index = length n.raft.log + 1; number = number; asked = moment; timeout = timeout; position = 0; sequence = None } ∷ [])). inr (inl (new w k))) (waiting_both w n.waiting (record { index = length n.raft.log + 1; number = number; asked = moment; timeout = timeout; position = 0; sequence = None } ∷ []) h);
  }
    where
      new : (w : Waiting) → HasWaiting w (record { index = length n.raft.log + 1; number = number; asked = moment; timeout = timeout; position = 0; sequence = None } ∷ []) → IsTaken n (Ask number timeout op) w
      new w (inl e) = record { op = op; act = ap (λ (x : Waiting). Ask x.number x.timeout op) e; leads = leads; index = sym (ap (λ (x : Waiting). x.index) e); position = sym (ap (λ (x : Waiting). x.position) e) }
      new w (inr e) = absurd e

  proposed_gives : (n : Node) (number moment timeout : ℕ) (op : Op) (command : Command) (size : ℕ) → n.raft.role ≡ Leader → Gives n (Ask number timeout op) (proposed g.first n number moment timeout command size)
  proposed_gives n number moment timeout op command size leads = if_case (Gives n (Ask number timeout op)) (nat_lt max_command_bytes size) (says n number (Refused (EntryTooLarge size))) (appended_for g.first n number moment timeout (record { term = n.raft.term; command = command }))
      (λ _. refusal_gives n (Ask number timeout op) number (Refused (EntryTooLarge size)) (λ h. h))
      (λ _. taken_gives n number moment timeout op (record { term = n.raft.term; command = command }) leads)

  begun_gives : (n : Node) (number moment timeout : ℕ) (items : List Item) (limit : Option ℕ) (t : RaftTurn LogEntry) → n.raft.role ≡ Leader → Gives n (Ask number timeout (Read items level.Linearizable limit)) (begun g.first n number moment timeout items t)
  begun_gives n number moment timeout items limit t leads = record {
    queue = inl refl;
    answers = λ m asked place say c e. absurd (cc);
    pending_reads = λ r h. ⊎_elim (λ (o : HasReading r n.pending_reads). inl o) (λ (k : HasReading r (record { pass = pass_of n.raft number; items = items; asked = moment; timeout = timeout } ∷ [])). inr (new r k)) (reading_both r n.pending_reads (record { pass = pass_of n.raft number; items = items; asked = moment; timeout = timeout } ∷ []) h);
    waitings = λ w h. inl h;
  }
    where
      new : (r : PendingRead) → HasReading r (record { pass = pass_of n.raft number; items = items; asked = moment; timeout = timeout } ∷ []) → IsBegun n (Ask number timeout (Read items level.Linearizable limit)) r
      new r (inl e) = record {
        limit = limit;
        act = ap (λ (x : PendingRead). Ask x.pass.id x.timeout (Read x.items level.Linearizable limit)) e;
        leads = leads;
        pass = sym (ap (λ (x : PendingRead). x.pass) e) ∙ ap (λ (x : PendingRead). pass_of n.raft x.pass.id) e;
      }
      new r (inr e) = absurd e

  -- ---- queued writes

  put_gives : (n : Node) (number moment timeout : ℕ) (list : Statements) (waits : Bool) → Gives n (Ask number timeout (Queue list waits)) (enqueued g.first n number moment timeout list waits)
  put_gives n number moment timeout list waits = record {
    answers = λ m asked place say c e. own waits m asked place say e;
    pending_reads = λ r h. inl h;
    waitings = λ w h. inl h;
    queue = inr (inl (record { number = number; timeout = timeout; list = list; wait = waits; act = refl; goes = numbers_both n.queue (record { sequence = n.last + 1; number = number; list = list; waits = waits; asked = moment; timeout = timeout } ∷ []) }));
  }
    where
      own : (b : Bool) (m asked place : ℕ) (say : Say) → slice_get (at_place g.first n.raft.applied (immediate_answer g.first b number (n.last + 1))) m ≡ Some (Answered asked say place) → Source n (Ask number timeout (Queue list b)) n.raft m asked place
      own true m asked place say e = absurd (cc)
      own false zero asked place say e = Own (record { timeout = timeout; op = Queue list false; act = ap (λ (k : ℕ). Ask k timeout (Queue list false)) (ap number_in e); quick = refl; place_is = sym (ap place_in e) })
        where
          place_in : Option Note → ℕ
          place_in None = 0
          place_in (Some (Asked j home o)) = 0
          place_in (Some (Answered j x p)) = p

          number_in : Option Note → ℕ
          number_in None = 0
          number_in (Some (Asked j home o)) = 0
          number_in (Some (Answered j x p)) = j
      own false (suc m) asked place say e = absurd (cc)

  queued_gives : (n : Node) (number moment timeout : ℕ) (list : Statements) (waits : Bool) → Gives n (Ask number timeout (Queue list waits)) (enqueue g.first n number moment timeout list waits)
  queued_gives n number moment timeout list waits =
      let a = Ask number timeout (Queue list waits) in
      let size = length (command_bytes (Execute list)) in
      let held = length n.queue in
      let t = enqueued g.first n number moment timeout list waits in
      led_gives n a number (if_not_too_large g.first n number size (if_not_full g.first n number t)) (λ _.
      if_case (Gives n a) (nat_lt max_queued_bytes size) (says n number (Refused (QueuedTooLarge size))) (if_not_full g.first n number t)
      (λ _. refusal_gives n a number (Refused (QueuedTooLarge size)) (λ h. h))
      (λ _. if_case (Gives n a) (nat_le queue_capacity held) (says n number (Refused (QueueFull held))) t (λ _. refusal_gives n a number (Refused (QueueFull held)) (λ h. h)) (λ _. put_gives n number moment timeout list waits)))

  flushed_gives : (n : Node) → n.raft.role ≡ Leader → Gives n Flush (flushed g.first n)
  flushed_gives n leads = record {
    answers = λ m number place say c e. absurd (cc);
    pending_reads = λ r h. inl h;
    waitings = λ w h. ⊎_elim (λ (o : HasWaiting w n.waiting). inl o) (λ (k : HasWaiting w new). inr (inr (of_batch w 0 (batch g.first n) (λ j. let none : 0 + j ≡ j = omega arith in ap (slice_get (batch g.first n)) none) k))) (waiting_both w n.waiting new h);
    queue = inr (inr (record { act = refl; goes = numbers_drop max_batch n.queue }));
  }
    where
      new : List Waiting
      new = batch_waits g.first (length n.raft.log + 1) 0 (batch g.first n)

      of_batch : (w : Waiting) (position : ℕ) (qs : List QueuedWrite) → ((j : ℕ) → slice_get (batch g.first n) (position + j) ≡ slice_get qs j) → HasWaiting w (batch_waits g.first (length n.raft.log + 1) position qs) → IsFlushed n Flush w
      of_batch w position [] at = λ h. absurd h
      of_batch w position (q ∷ qs) at = if_case (λ (l : List Waiting). HasWaiting w l → IsFlushed n Flush w) q.waits
          (record { index = length n.raft.log + 1; number = q.number; asked = q.asked; timeout = q.timeout; position = position; sequence = Some q.sequence } ∷ batch_waits g.first (length n.raft.log + 1) (position + 1) qs) (batch_waits g.first (length n.raft.log + 1) (position + 1) qs)
          (λ _ h. ⊎_elim
          (λ (e : record { index = length n.raft.log + 1; number = q.number; asked = q.asked; timeout = q.timeout; position = position; sequence = Some q.sequence } ≡ w). record {
            act = refl;
            leads = leads;
            index = sym (ap (λ (x : Waiting). x.index) e);
            held = q;
            found = ap (slice_get (batch g.first n)) (sym (ap (λ (x : Waiting). x.position) e)) ∙ here;
            number_is = ap (λ (x : Waiting). x.number) e;
            sequence = sym (ap (λ (x : Waiting). x.sequence) e);
          })
          (λ (k : HasWaiting w (batch_waits g.first (length n.raft.log + 1) (position + 1) qs)). of_batch w (position + 1) qs later k) h)
          (λ _ h. of_batch w (position + 1) qs later h)
        where
          here : slice_get (batch g.first n) position ≡ Some q
          here = let none : position + 0 ≡ position = omega arith in ap (slice_get (batch g.first n)) (sym none) ∙ at 0

          later : (j : ℕ) → slice_get (batch g.first n) (position + 1 + j) ≡ slice_get qs j
          later j = let one : position + 1 + j ≡ position + suc j = omega arith in ap (slice_get (batch g.first n)) one ∙ at (suc j)

  flush_gives : (n : Node) → Gives n Flush (flush g.first n)
  flush_gives n = if_case (Gives n Flush) (is_leader n.raft.role && nat_lt 0 (length n.queue)) (flushed g.first n) (unchanged n)
      (λ e. flushed_gives n (leads_yes n.raft.role ((and_true (is_leader n.raft.role) (nat_lt 0 (length n.queue)) e).0)))
      (λ _. quiet_gives n Flush)

  -- ---- Reads

  due_has : (n m : Node) (a : Act) (place : ℕ) → m.raft.applied ≡ place → (rs : List PendingRead) → ((r : PendingRead) → HasReading r rs → ReadingFrom n a r) → (k number at : ℕ) (say : Say)
      → slice_get (at_place g.first place (due_answers g.first m rs)) k ≡ Some (Answered number say at) → IsDue n a m.raft number at
  due_has n m a place applied [] from k number at say e = absurd (cc)
  due_has n m a place applied (r ∷ rs) from k number at say e = go k (is_due g.first m.raft r.pass) refl e (λ j f. due_has n m a place applied rs (λ x h. from x (inr h)) j number at say f)
    where
      mine : Answer
      mine = record { number = r.pass.id; say = Results (answer m.replica r.items) }

      place_in : Option Note → ℕ
      place_in None = 0
      place_in (Some (Asked j home o)) = 0
      place_in (Some (Answered j x p)) = p

      number_in : Option Note → ℕ
      number_in None = 0
      number_in (Some (Asked j home o)) = 0
      number_in (Some (Answered j x p)) = j

      go : (k : ℕ) (b : Bool) → is_due g.first m.raft r.pass ≡ b → slice_get (at_place g.first place (if b then mine ∷ due_answers g.first m rs else due_answers g.first m rs)) k ≡ Some (Answered number say at)
          → ((j : ℕ) → slice_get (at_place g.first place (due_answers g.first m rs)) j ≡ Some (Answered number say at) → IsDue n a m.raft number at) → IsDue n a m.raft number at
      go zero true q e on = record { reading = r; from = from r (inl refl); number_is = ap number_in e; due = q; place_is = sym (ap place_in e) ∙ sym applied }
      go (suc k) true q e on = on k e
      go k false q e on = on k e

  left_has : (m : Node) (r : PendingRead) (rs : List PendingRead) → HasReading r (not_due g.first m rs) → HasReading r rs
  left_has m r [] = λ h. h
  left_has m r (x ∷ rs) = if_case (λ (l : List PendingRead). HasReading r l → HasReading r (x ∷ rs)) (is_due g.first m.raft x.pass) (not_due g.first m rs) (x ∷ not_due g.first m rs)
      (λ _ h. inr (left_has m r rs h))
      (λ _ h. ⊎_elim (λ (e : x ≡ r). inl e) (λ (k : HasReading r (not_due g.first m rs)). inr (left_has m r rs k)) h)

  reads_gives : (n : Node) (a : Act) (t : Turn) → t.node.raft.applied ≡ place_of g.first n a → Gives n a t → Gives n a (reads g.first t)
  reads_gives n a t applied b = record {
    answers = λ m number place say c e. ⊎_elim
        (λ (o : slice_get (at_place g.first (place_of g.first n a) t.answers) m ≡ Some (Answered number say place)). b.answers m number place say c o)
        (λ (x : (k : ℕ) × (m ≡ length (at_place g.first (place_of g.first n a) t.answers) + k) × (slice_get (at_place g.first (place_of g.first n a) (due_answers g.first t.node t.node.pending_reads)) k ≡ Some (Answered number say place))).
        Due (due_has n t.node a (place_of g.first n a) applied t.node.pending_reads b.pending_reads x.0 number place say x.2))
        (note_both (at_place g.first (place_of g.first n a) t.answers) (at_place g.first (place_of g.first n a) (due_answers g.first t.node t.node.pending_reads)) m (Answered number say place)
        (subst (λ (l : List Note). slice_get l m ≡ Some (Answered number say place)) (places_both g.first (place_of g.first n a) t.answers (due_answers g.first t.node t.node.pending_reads)) e));
    pending_reads = λ r h. b.pending_reads r (left_has t.node r t.node.pending_reads h);
    waitings = b.waitings;
    queue = b.queue;
  }

  -- ---- other rules

  turned_gives : (n : Node) (a : Act) (r : RaftTurn LogEntry) → Gives n a (raft_turn n r)
  turned_gives n a r = if_case (Gives n a) (is_leader n.raft.role && not (is_leader r.node.role)) (steps_down n r) (stays_on n r)
      (λ _. record {
        queue = inl refl;
        answers = λ m number place say c e. absurd (none_get g.first (place_of g.first n a) (lost_all n.raft.term r.node.term (waiting_numbers n)) m number place say c (none_lost n.raft.term r.node.term (waiting_numbers n)) e);
        pending_reads = λ x h. absurd h;
        waitings = λ x h. absurd h;
      })
      (λ _. record { answers = λ m number place say c e. absurd (cc); pending_reads = λ x h. inl h; waitings = λ x h. inl h; queue = inl refl })

  command_gives : (n : Node) (command : Command) → n.raft.applied < n.raft.commit → Gives n Apply (applied_command n command)
  command_gives n command lt = record {
    queue = inl refl;
    answers = λ m number place say c e.
        let k = next (run n.replica command).1 n.waiting m number place say e in
        Next (record { none = λ i. refl; place_is = k.4; applied = refl; less = lt; waiting = k.0; found = k.1; number_is = k.2; at = k.3 });
    pending_reads = λ r h. inl h;
    waitings = λ w h. inl (waiting_left w (n.raft.applied + 1) n.waiting h);
  }
    where
      next : (got : Outcome) (ws : List Waiting) (m number place : ℕ) (say : Say) → slice_get (at_place g.first (n.raft.applied + 1) (answered (n.raft.applied + 1) got ws)) m ≡ Some (Answered number say place)
          → (w : Waiting) × (slice_get ws m ≡ Some w) × (w.number ≡ number) × (w.index ≡ n.raft.applied + 1) × (place ≡ n.raft.applied + 1)
      next got [] m number place say e = absurd (cc)
      next got (w ∷ ws) m number place say e = go m (w.index == n.raft.applied + 1) refl e (λ k f. next got ws k number place say f)
        where
          place_in : Option Note → ℕ
          place_in None = 0
          place_in (Some (Asked j home o)) = 0
          place_in (Some (Answered j x p)) = p

          number_in : Option Note → ℕ
          number_in None = 0
          number_in (Some (Asked j home o)) = 0
          number_in (Some (Answered j x p)) = j

          go : (m : ℕ) (b : Bool) → (w.index == n.raft.applied + 1) ≡ b → slice_get (at_place g.first (n.raft.applied + 1) (if b then record { number = w.number; say = said got w.sequence } ∷ answered (n.raft.applied + 1) got ws else [])) m ≡ Some (Answered number say place)
              → ((k : ℕ) → slice_get (at_place g.first (n.raft.applied + 1) (answered (n.raft.applied + 1) got ws)) k ≡ Some (Answered number say place) → (v : Waiting) × (slice_get ws k ≡ Some v) × (v.number ≡ number) × (v.index ≡ n.raft.applied + 1) × (place ≡ n.raft.applied + 1))
              → (v : Waiting) × (slice_get (w ∷ ws) m ≡ Some v) × (v.number ≡ number) × (v.index ≡ n.raft.applied + 1) × (place ≡ n.raft.applied + 1)
          go zero true q e on = (w, refl, ap number_in e, eq_true w.index (n.raft.applied + 1) q, sym (ap place_in e))
          go (suc m) true q e on = on m e
          go m false q e on = absurd (cc)

  module _ (lead_on : LeadOn log_entries g.first) where
    read_gives : (n : Node) (number moment timeout : ℕ) (items : List Item) (l : Level) (limit : Option ℕ) → Gives n (Ask number timeout (Read items l limit)) (read g.first n number moment timeout items l limit)
    read_gives n number moment timeout items level.None limit =
        let op = Read items level.None limit in
        if_case (Gives n (Ask number timeout op)) (is_stale n.raft limit moment) (says n number (Refused (Stale n.raft.contact moment (limit_of limit)))) (query g.first n number items)
        (λ _. refusal_gives n (Ask number timeout op) number (Refused (Stale n.raft.contact moment (limit_of limit))) (λ h. h)) (λ _. query_gives n number timeout op items tt)
    read_gives n number moment timeout items level.Weak limit = led_gives n (Ask number timeout (Read items level.Weak limit)) number (query g.first n number items) (λ leads. query_gives n number timeout (Read items level.Weak limit) items leads)
    read_gives n number moment timeout items level.Linearizable limit =
        let op = Read items level.Linearizable limit in
        let t = begun g.first n number moment timeout items (begin g.first n.raft) in
        led_gives n (Ask number timeout op) number (reads g.first t) (λ leads. reads_gives n (Ask number timeout op) t (lead_on.beats n.raft).0 (begun_gives n number moment timeout items limit (begin g.first n.raft) leads))
    read_gives n number moment timeout items level.Strong limit =
        let op = Read items level.Strong limit in
        let size = length (command_bytes (StrongQuery items)) in
        led_gives n (Ask number timeout op) number (proposed g.first n number moment timeout (StrongQuery items) size) (proposed_gives n number moment timeout op (StrongQuery items) size)

    apply_gives : (n : Node) → Gives n Apply (apply g.first n)
    apply_gives n = if_case (Gives n Apply) (nat_lt n.raft.applied n.raft.commit) (applied_entry g.first n (slice_get n.raft.log n.raft.applied)) (unchanged n)
        (λ lt. entry (lt_true n.raft.applied n.raft.commit lt) (slice_get n.raft.log n.raft.applied)) (λ _. quiet_gives n Apply)
      where
        entry : n.raft.applied < n.raft.commit → (o : Option LogEntry) → Gives n Apply (applied_entry g.first n o)
        entry lt None = quiet_gives n Apply
        entry lt (Some e) = reads_gives n Apply (applied_command n e.command) refl (command_gives n e.command lt)

    restored_gives : (n : Node) (a : Act) (list : List LogEntry) (t : Turn) → Gives n a t → Gives n a (restored g.first n list t)
    restored_gives n a list t b = if_case (Gives n a) (nat_lt n.raft.applied t.node.raft.applied) (record t { node = record t.node { replica = replica_of g.first list } }) t
        (λ _. record { answers = b.answers; pending_reads = b.pending_reads; waitings = b.waitings; queue = b.queue }) (λ _. b)

    -- a reply applies nothing
    reply_gives : (n : Node) (k at : ℕ) (p : Packet LogEntry) (r : RaftTurn LogEntry) → r.node.applied ≡ n.raft.applied → Gives n (Deliver k) (if counts g.first n p at then reads g.first (raft_turn n r) else raft_turn n r)
    reply_gives n k at p r same = if_case (Gives n (Deliver k)) (counts g.first n p at) (reads g.first (raft_turn n r)) (raft_turn n r) (λ _. reads_gives n (Deliver k) (raft_turn n r) applied (turned_gives n (Deliver k) r)) (λ _. turned_gives n (Deliver k) r)
      where
        applied : (raft_turn n r).node.raft.applied ≡ n.raft.applied
        applied = if_case (λ (t : Turn). t.node.raft.applied ≡ n.raft.applied) (is_leader n.raft.role && not (is_leader r.node.role)) (steps_down n r) (stays_on n r) (λ _. same) (λ _. same)

    with_gives : (n : Node) (k : ℕ) (p : Packet LogEntry) (r : RaftTurn LogEntry) (m : Message LogEntry) → (r.node.applied ≡ n.raft.applied) ⊎ Installed log_entries g.first n.raft m r → Gives n (Deliver k) (with_reads g.first n p m (raft_turn n r))
    with_gives n k p r (VoteAsk last_index last_term) on = turned_gives n (Deliver k) r
    with_gives n k p r (VoteSay granted) on = turned_gives n (Deliver k) r
    with_gives n k p r (Append prev prev_term commit probe es) on = turned_gives n (Deliver k) r
    with_gives n k p r (AppendSay ok at probe) (inl same) = reply_gives n k at p r same
    with_gives n k p r (AppendSay ok at probe) (inr x) = absurd x
    with_gives n k p r (Install probe list) on = restored_gives n (Deliver k) list (raft_turn n r) (turned_gives n (Deliver k) r)
    with_gives n k p r (InstallSay at probe) (inl same) = reply_gives n k at p r same
    with_gives n k p r (InstallSay at probe) (inr x) = absurd x

    received_gives : (n : Node) (moment k : ℕ) (o : Option (Packet LogEntry)) → Gives n (Deliver k) (receive g.first n moment o)
    received_gives n moment k None = quiet_gives n (Deliver k)
    received_gives n moment k (Some p) =
        let r = deliver.receive log_entries g.first n.raft moment p in
        if_case (Gives n (Deliver k)) (bytes_eq p.to n.raft.id) (with_reads g.first n p p.message (raft_turn n r)) (unchanged n) (λ _. with_gives n k p r p.message (lead_on.receives n.raft moment p).0) (λ _. quiet_gives n (Deliver k))

    pub act_gives : (sent : List (Packet LogEntry)) (moment : ℕ) (n : Node) (a : Act) → Gives n a (act g.first sent moment n a)
    act_gives sent moment n (Ask number timeout (Write list mixed)) = led_gives n (Ask number timeout (Write list mixed)) number (proposed g.first n number moment timeout (write_command list mixed) (length (command_bytes (write_command list mixed)))) (proposed_gives n number moment timeout (Write list mixed) (write_command list mixed) (length (command_bytes (write_command list mixed))))
    act_gives sent moment n (Ask number timeout (Queue list wait)) = queued_gives n number moment timeout list wait
    act_gives sent moment n (Ask number timeout (Read items level limit)) = read_gives n number moment timeout items level limit
    act_gives sent moment n Elect = turned_gives n Elect (vote.elect log_entries g.first n.raft)
    act_gives sent moment n Beat = turned_gives n Beat (lead.beat log_entries g.first n.raft)
    act_gives sent moment n Flush = flush_gives n
    act_gives sent moment n Apply = apply_gives n
    act_gives sent moment n Compact = turned_gives n Compact (install.compact n.raft)
    act_gives sent moment n (Deliver k) = received_gives n moment k (slice_get sent k)
    act_gives sent moment n Tick = tick_gives moment n Tick
    act_gives sent moment n Idle = quiet_gives n Idle
