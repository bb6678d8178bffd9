-- Each write that was answered has an index of its own.
use Rattle.std.proofs.Common.{◌≡◌, ◌⊎◌, ◌<◌, ◌≤◌, ℕ, zero, suc, ◌+◌, ◌-◌, ◌&&◌, not, List, [], ◌∷◌, ◌++◌, length, take, slice_get, true, false, Option, Some, None, refl, sym, ◌∙◌, ap, subst, inl, inr, ⊎_elim, arith}
use Rattle.std.specs.Prelude.{nat_lt, nat_le, bytes_eq}
use Rattle.rq_statement.specs.declared.item.Item.{Item}
use Rattle.rq_request.specs.declared.say.Say.{Say}
use Rattle.rq_request.specs.declared.say.Say.TheVariants.{Refused}
use Rattle.rq_request.specs.declared.say.NodeRefusal.TheVariants.{NoLeader, Stale, EntryTooLarge, QueuedTooLarge, QueueFull}
use Rattle.rq_statement.specs.Bytes.{command_bytes}
use Rattle.rq_history.specs.History.{NodeId, Node as HistoryNode, Was, WasBefore}
use Rattle.rq_raft.specs.Entries.{voters}
use Rattle.rq_raft.specs.Truth.{role_of, history_node}
use Rattle.rq_raft.specs.declared.role.Role.{Role}
use Rattle.rq_raft.specs.declared.role.Role.TheVariants.{Follower, Candidate, Leader}
use Rattle.rq_raft.specs.Node.{Message, VoteAsk, VoteSay, Append, AppendSay, Install, InstallSay, Packet, RaftTurn, is_leader}
use Rattle.rq_raft.specs.Vote as vote
use Rattle.rq_raft.specs.Lead as lead
use Rattle.rq_raft.specs.Deliver as deliver
use Rattle.rq_raft.specs.Install as install
use Rattle.rq_raft.specs.Laws.{Installed}
use Rattle.rq_world.specs.declared.log_entry.LogEntry.{LogEntry}
use Rattle.rq_statement.specs.declared.command.Command.{Command}
use Rattle.rq_statement.specs.declared.command.Command.TheVariants.{Execute, StrongQuery}
use Rattle.rq_request.specs.declared.ask.Level.{Level}
use Rattle.rq_request.specs.declared.ask.Level.TheVariants as level
use Rattle.rq_world.specs.declared.waiting.Waiting.{Waiting}
use Rattle.rq_world.specs.Node.{PendingRead, Node, log_entries, Turn, unchanged, says, replica_of}
use Rattle.rq_world.specs.Reads.{begin, is_stale, limit_of}
use Rattle.rq_world.specs.Rules.{max_command_bytes, max_queued_bytes, queue_capacity, enqueued, if_not_full, if_not_too_large, batch_entry, flushed, steps_down, stays_on, raft_turn, reads, counts, with_reads, receive, appended_for, proposed, if_leads, query, begun, read, applied_entry, write_command}
use Rattle.rq_world.specs.World.{Op, Write, Queue, Read, Note, Answered, NodeState, Running, Down, World, Act, Ask, Elect, Beat, Flush, Apply, Compact, Deliver, Tick, Idle, Event, Run as Events, First, Then, act, note_of, place_of, at_place, world, IsPast, chosen}
use Rattle.rq_world.specs.Promise.{op_of, number_of, asked_in, IsNew, IsNumbered, IsAcknowledged}
use Rattle.rq_world.proofs.Tests.{if_case, and_true}
use Rattle.rq_world.proofs.Given.{Given}
use Rattle.rq_world.proofs.Waits.{Waits, AllWait, IsRead, AllRead}
use Rattle.rq_world.proofs.Answering.{Counts, results_count, sequence_counts, note_both, HasReading, IsQuick, IsBegun, IsNext, IsDue, Source, Own, Next, Due, act_gives}
use Rattle.rq_world.specs.Laws.{Runs, Leads}
use Rattle.rq_world.proofs.Prefixes.{begins_get, get_within, prefix_begins}
use Rattle.rq_world.proofs.Histories.{RightNote, all_get, right_op, op_kept}
use Rattle.rq_world.proofs.Safety.{here, done, sim_of, was_in, grows}
use Rattle.rq_world.proofs.Simulation.{Choice, before_event, was_at}
use Rattle.rq_world.proofs.Promises.{Serves, Sound, sound, in_chosen, number_is}
use Rattle.rq_world.proofs.Covering.{Acted, Still, kind, t, pr, old_sim, fits_old, runs_next, who_runs, notes_silent}
use Rattle.rq_world.proofs.Passes.{Known}

-- nothing is taken back of what was applied
module _ (g : Given) (known : Known g) where
  abbrev Applies : Node → Turn → Type 0
  Applies n t = n.raft.applied ≤ t.node.raft.applied

  turned_applied : (n : Node) (r : RaftTurn LogEntry) → n.raft.applied ≤ r.node.applied → Applies n (raft_turn n r)
  turned_applied n r e = if_case (Applies n) (is_leader n.raft.role && not (is_leader r.node.role)) (steps_down n r) (stays_on n r) (λ _. omega (arith, e)) (λ _. omega (arith, e))

  led_applied : (n : Node) (number : ℕ) (t : Turn) → (n.raft.role ≡ Leader → Applies n t) → Applies n (if_leads g.first n number t)
  led_applied n number t f = if_case (Applies n) (is_leader n.raft.role) t (says n number (Refused (NoLeader n.raft.term))) (λ q. f (leads n.raft.role q)) (λ _. omega arith)
    where
      leads : (r : Role) → is_leader r ≡ true → r ≡ Leader
      leads Follower e = absurd (cc)
      leads Candidate e = absurd (cc)
      leads Leader e = refl

  proposed_applied : (n : Node) (number moment timeout : ℕ) (command : Command) (size : ℕ) → n.raft.role ≡ Leader → Applies n (proposed g.first n number moment timeout command size)
  proposed_applied n number moment timeout command size leads = if_case (Applies n) (nat_lt max_command_bytes size) (says n number (Refused (EntryTooLarge size))) (appended_for g.first n number moment timeout (record { term = n.raft.term; command = command }))
      (λ _. omega arith) (λ _. omega (arith, (known.lead_on.proposes n.raft (record { term = n.raft.term; command = command }) leads).0))

  read_applied : (n : Node) (number moment timeout : ℕ) (items : List Item) (l : Level) (limit : Option ℕ) → Applies n (read g.first n number moment timeout items l limit)
  read_applied n number moment timeout items level.None limit = if_case (Applies n) (is_stale n.raft limit moment) (says n number (Refused (Stale n.raft.contact moment (limit_of limit)))) (query g.first n number items) (λ _. omega arith) (λ _. omega arith)
  read_applied n number moment timeout items level.Weak limit = led_applied n number (query g.first n number items) (λ _. omega arith)
  read_applied n number moment timeout items level.Linearizable limit = led_applied n number (reads g.first (begun g.first n number moment timeout items (begin g.first n.raft))) (λ _. omega (arith, (known.lead_on.beats n.raft).0))
  read_applied n number moment timeout items level.Strong limit = led_applied n number (proposed g.first n number moment timeout (StrongQuery items) (length (command_bytes (StrongQuery items)))) (proposed_applied n number moment timeout (StrongQuery items) (length (command_bytes (StrongQuery items))))

  act_applied : (sent : List (Packet LogEntry)) (moment : ℕ) (n : Node) (a : Act) → n.raft.applied ≤ n.raft.commit → Applies n (act g.first sent moment n a)
  act_applied sent moment n (Ask number timeout (Write list mixed)) done = led_applied n number (proposed g.first n number moment timeout (write_command list mixed) (length (command_bytes (write_command list mixed)))) (proposed_applied n number moment timeout (write_command list mixed) (length (command_bytes (write_command list mixed))))
  act_applied sent moment n (Ask number timeout (Queue list wait)) done =
      let size = length (command_bytes (Execute list)) in
      let held = length n.queue in
      let t = enqueued g.first n number moment timeout list wait in
      led_applied n number (if_not_too_large g.first n number size (if_not_full g.first n number t)) (λ _.
      if_case (Applies n) (nat_lt max_queued_bytes size) (says n number (Refused (QueuedTooLarge size))) (if_not_full g.first n number t) (λ _. omega arith)
      (λ _. if_case (Applies n) (nat_le queue_capacity held) (says n number (Refused (QueueFull held))) t (λ _. omega arith) (λ _. omega arith)))
  act_applied sent moment n (Ask number timeout (Read items level limit)) done = read_applied n number moment timeout items level limit
  act_applied sent moment n Elect done = turned_applied n (vote.elect log_entries g.first n.raft) (omega (arith, (known.lead_on.elects n.raft).0))
  act_applied sent moment n Beat done = turned_applied n (lead.beat log_entries g.first n.raft) (omega (arith, (known.lead_on.beats n.raft).0))
  act_applied sent moment n Flush done = if_case (Applies n) (is_leader n.raft.role && nat_lt 0 (length n.queue)) (flushed g.first n) (unchanged n)
      (λ e. omega (arith, (known.lead_on.proposes n.raft (batch_entry g.first n) (leads n.raft.role ((and_true (is_leader n.raft.role) (nat_lt 0 (length n.queue)) e).0))).0)) (λ _. omega arith)
    where
      leads : (r : Role) → is_leader r ≡ true → r ≡ Leader
      leads Follower e = absurd (cc)
      leads Candidate e = absurd (cc)
      leads Leader e = refl
  act_applied sent moment n Apply done = if_case (Applies n) (nat_lt n.raft.applied n.raft.commit) (applied_entry g.first n (slice_get n.raft.log n.raft.applied)) (unchanged n)
      (λ _. entry (slice_get n.raft.log n.raft.applied)) (λ _. omega arith)
    where
      entry : (o : Option LogEntry) → Applies n (applied_entry g.first n o)
      entry None = omega arith
      entry (Some e) = omega arith
  act_applied sent moment n Compact done = turned_applied n (install.compact n.raft) (if_case (λ (r : RaftTurn LogEntry). n.raft.applied ≤ r.node.applied) (nat_lt n.raft.base n.raft.applied) (record { node = record n.raft { base = n.raft.applied }; stored = Rattle.rq_raft.specs.Node.Replace n.raft.applied n.raft.log ∷ []; packets = [] }) (Rattle.rq_raft.specs.Node.unchanged n.raft) (λ _. omega arith) (λ _. omega arith))
  act_applied sent moment n (Deliver k) done = delivered (slice_get sent k)
    where
      with_reply : (p : Packet LogEntry) (m : Message LogEntry) (t : Turn) → Applies n t → Applies n (with_reads g.first n p m t)
      with_reply p (VoteAsk last_index last_term) t e = e
      with_reply p (VoteSay granted) t e = e
      with_reply p (Append prev prev_term commit probe es) t e = e
      with_reply p (AppendSay ok at probe) t e = if_case (Applies n) (counts g.first n p at) (reads g.first t) t (λ _. e) (λ _. e)
      with_reply p (Install probe list) t e = if_case (Applies n) (nat_lt n.raft.applied t.node.raft.applied) (record t { node = record t.node { replica = replica_of g.first list } }) t (λ _. e) (λ _. e)
      with_reply p (InstallSay at probe) t e = if_case (Applies n) (counts g.first n p at) (reads g.first t) t (λ _. e) (λ _. e)

      rises : (r : RaftTurn LogEntry) (m : Message LogEntry) → (r.node.applied ≡ n.raft.applied) ⊎ Installed log_entries g.first n.raft m r → n.raft.applied ≤ r.node.applied
      rises r m (inl same) = omega (arith, same)
      rises r (VoteAsk last_index last_term) (inr x) = absurd x
      rises r (VoteSay granted) (inr x) = absurd x
      rises r (Append prev prev_term commit probe es) (inr x) = absurd x
      rises r (AppendSay ok at probe) (inr x) = absurd x
      rises r (Install probe list) (inr x) = omega (arith, x.0, x.1, done)
      rises r (InstallSay at probe) (inr x) = absurd x

      delivered : (o : Option (Packet LogEntry)) → Applies n (receive g.first n moment o)
      delivered None = omega arith
      delivered (Some p) = if_case (Applies n) (bytes_eq p.to n.raft.id) (with_reads g.first n p p.message (raft_turn n (deliver.receive log_entries g.first n.raft moment p))) (unchanged n)
          (λ _. with_reply p p.message (raft_turn n (deliver.receive log_entries g.first n.raft moment p)) (turned_applied n (deliver.receive log_entries g.first n.raft moment p) (rises (deliver.receive log_entries g.first n.raft moment p) p.message (known.lead_on.receives n.raft moment p).0))) (λ _. omega arith)
  act_applied sent moment n Tick done = omega arith
  act_applied sent moment n Idle done = omega arith

pub read_has : (book : List Note) (rs : List PendingRead) (r : PendingRead) → AllRead book rs → HasReading r rs → IsRead book r
read_has book [] r all h = absurd h
read_has book (x ∷ rs) r all (inl e) = subst (IsRead book) e all.0
read_has book (x ∷ rs) r all (inr h) = read_has book rs r all.1 h

pub wait_get : (book : List Note) (log : List LogEntry) (term : ℕ) (ws : List Waiting) (k : ℕ) (w : Waiting) → AllWait book log term ws → slice_get ws k ≡ Some w → Waits book log term w
wait_get book log term [] k w all e = absurd (cc)
wait_get book log term (x ∷ ws) zero w all e = subst (Waits book log term) (some x w e) all.0
  where
    some : (x y : Waiting) → Some x ≡ Some y → x ≡ y
    some x y e = cc
wait_get book log term (x ∷ ws) (suc k) w all e = wait_get book log term ws k w all.1 e

pub ack_counts : (op : Option Op) (say : Say) → IsAcknowledged op say → Counts say
ack_counts None say h = absurd h
ack_counts (Some (Write list mixed)) say h = results_count say h
ack_counts (Some (Queue list true)) say h = sequence_counts say h
ack_counts (Some (Queue list false)) say h = absurd h
ack_counts (Some (Read items l limit)) say h = absurd h

-- what is answered where it is asked isn't acknowledged
quick_not : (n : Node) (op : Op) (say : Say) → IsQuick n op → IsAcknowledged (Some op) say → Prim.⊥
quick_not n (Write list mixed) say quick h = quick
quick_not n (Queue list true) say quick h = cc
quick_not n (Queue list false) say quick h = h
quick_not n (Read items l limit) say quick h = h

module _ (g : Given) (known : Known g) where
  abbrev pub book_of : Events → List Note
  book_of run = (world g.first run).book

  -- note k acknowledges this write at this place
  abbrev pub IsAnswered : Events → ℕ → ℕ → ℕ → Say → Type 0
  IsAnswered run k number place say = (slice_get (book_of run) k ≡ Some (Answered number say place)) × IsAcknowledged (op_of (book_of run) number) say

  -- the entry at the place, and who led its term
  pub record LedOnce (run : Events) (place : ℕ) : Type 0 where
    pub entry : LogEntry
    pub stands : slice_get (chosen g.first run) (place - 1) ≡ Some entry
    pub moment : Events
    pub past : IsPast g.first moment run
    pub who : NodeId
    pub node : Node
    pub leads : Leads g.first moment who entry.term node

  pub record Passed (run : Events) : Type 0 where
    pub leader : (k number place : ℕ) (say : Say) → IsAnswered run k number place say → LedOnce run place
    pub passed : (k number place : ℕ) (say : Say) → IsAnswered run k number place say → (entry : LogEntry) → slice_get (chosen g.first run) (place - 1) ≡ Some entry
        → (i : NodeId) (n : Node) → Runs g.first run i n → n.raft.role ≡ Leader → entry.term ≡ n.raft.term → place ≤ n.raft.applied

  -- what stood in the one log stands there
  pub stands_on : (run : Events) (e : Event) (k : ℕ) (x : LogEntry) → slice_get (chosen g.first run) k ≡ Some x → slice_get (chosen g.first (Then run e)) k ≡ Some x
  stands_on run e k x at = begins_get (chosen g.first run) (chosen g.first (Then run e)) k (prefix_begins (chosen g.first run) (chosen g.first (Then run e)) (grows g run e)) (get_within (chosen g.first run) k x at) ∙ at

  same_entry : (run : Events) (e : Event) (k : ℕ) (x y : LogEntry) → slice_get (chosen g.first run) k ≡ Some x → slice_get (chosen g.first (Then run e)) k ≡ Some y → x ≡ y
  same_entry run e k x y a b = some x y (sym (stands_on run e k x a) ∙ b)
    where
      some : (x y : LogEntry) → Some x ≡ Some y → x ≡ y
      some x y e = cc

  led_on : (run : Events) (e : Event) (place : ℕ) → LedOnce run place → LedOnce (Then run e) place
  led_on run e place l = record { entry = l.entry; stands = stands_on run e (place - 1) l.entry l.stands; moment = l.moment; past = inr l.past; who = l.who; node = l.node; leads = l.leads }

  -- an answer of before was one before
  old_answer : (run : Events) (s : Sound g known.lead_on run) (more : List Note) (k number place : ℕ) (say : Say) → slice_get (book_of run) k ≡ Some (Answered number say place) → IsAcknowledged (op_of (book_of run ++ more) number) say → IsAnswered run k number place say
  old_answer run s more k number place say at op =
      let right = subst (RightNote g.first (chosen g.first run) (book_of run)) at (all_get g.first (chosen g.first run) (book_of run) (book_of run) k s.right) in
      let o = right_op g.first (chosen g.first run) (op_of (book_of run) number) say place right in
      let kept = op_kept (book_of run) more number o.0 o.1 in
      (at, subst (λ (x : Option Op). IsAcknowledged x say) (kept ∙ sym o.1) op)

  pub still_old : (run : Events) (e : Event) (s : Sound g known.lead_on run) (k : Still g known run e) → (i number place : ℕ) (say : Say) → IsAnswered (Then run e) i number place say → IsAnswered run i number place say
  still_old run e s k i number place say w = ⊎_elim
      (λ (o : slice_get (book_of run) i ≡ Some (Answered number say place)). old_answer run s k.more i number place say o (subst (λ (b : List Note). IsAcknowledged (op_of b number) say) k.book w.1))
      (λ (n : (m : ℕ) × (i ≡ length (book_of run) + m) × (slice_get k.more m ≡ Some (Answered number say place))). absurd (k.silent n.0 number place say n.2))
      (note_both (book_of run) k.more i (Answered number say place) (subst (λ (b : List Note). slice_get b i ≡ Some (Answered number say place)) k.book w.0))

  still_passed : (run : Events) (e : Event) → Sound g known.lead_on run → Still g known run e → Passed run → Passed (Then run e)
  still_passed run e s k b = record {
    leader = λ i number place say w. led_on run e place (b.leader i number place say (still_old run e s k i number place say w));
    passed = λ i number place say w entry at j n r lead same.
        let o = still_old run e s k i number place say w in
        let l = b.leader i number place say o in
        let x = same_entry run e (place - 1) l.entry entry l.stands at in
        ⊎_elim (λ (was : Runs g.first run j n). b.passed i number place say o entry (l.stands ∙ ap Some x) j n was lead same) (λ (f : (n.raft.role ≡ Follower) × (n.queue ≡ [])). absurd (follows n f.0 lead)) (k.nodes j n r);
  }
    where
      follows : (n : Node) → n.raft.role ≡ Follower → n.raft.role ≡ Leader → Prim.⊥
      follows n a b = cc

  module _ (run : Events) (e : Event) (s : Sound g known.lead_on run) (a : Acted g known run e) (new : (number timeout : ℕ) (op : Op) → a.act ≡ Ask number timeout op → op_of (book_of run) number ≡ None) (b : Passed run) where
    abbrev pub tt2 : Turn
    tt2 = t g known run e a

    abbrev pub more : List Note
    more = note_of g.first a.who a.act ++ at_place g.first (place_of g.first a.node a.act) tt2.answers

    pub book_is : book_of (Then run e) ≡ book_of run ++ more
    book_is = ap (λ (w : World). w.book) a.next

    pub asks : (number timeout : ℕ) (op : Op) → a.act ≡ Ask number timeout op → op_of (book_of run ++ more) number ≡ Some op
    asks number timeout op is = subst (λ (x : Act). op_of (book_of run ++ (note_of g.first a.who x ++ at_place g.first (place_of g.first a.node a.act) tt2.answers)) number ≡ Some op) (sym is)
        (number_is g known.lead_on (book_of run) number a.who op (at_place g.first (place_of g.first a.node a.act) tt2.answers) (new number timeout op is))

    -- where an answer with results comes from
    pub source_of : (m number place : ℕ) (say : Say) → Counts say → slice_get more m ≡ Some (Answered number say place) → (j : ℕ) × (m ≡ length (note_of g.first a.who a.act) + j) × Source g a.node a.act tt2.node.raft j number place
    source_of m number place say c at = ⊎_elim
        (λ (o : slice_get (note_of g.first a.who a.act) m ≡ Some (Answered number say place)). absurd (notes_silent g known a.who a.act m number place say o))
        (λ (x : (j : ℕ) × (m ≡ length (note_of g.first a.who a.act) + j) × (slice_get (at_place g.first (place_of g.first a.node a.act) tt2.answers) j ≡ Some (Answered number say place))).
        (x.0, x.1, (act_gives g known.lead_on (world g.first run).sent (world g.first run).moment a.node a.act).answers x.0 number place say c x.2))
        (note_both (note_of g.first a.who a.act) (at_place g.first (place_of g.first a.node a.act) tt2.answers) m (Answered number say place) at)

    -- the read that is due was asked so
    pub due_asked : (number place : ℕ) (d : IsDue g a.node a.act tt2.node.raft number place) → (limit : Option ℕ) × (op_of (book_of run ++ more) number ≡ Some (Read d.reading.items level.Linearizable limit))
    due_asked number place d = ⊎_elim
        (λ (h : HasReading d.reading a.node.pending_reads).
        let k = read_has (book_of run) a.node.pending_reads d.reading (s.serve a.who a.node a.runs).pending_reads h in
        (k.limit, ap (op_of (book_of run ++ more)) (sym d.number_is) ∙ op_kept (book_of run) more d.reading.pass.id (Read d.reading.items level.Linearizable k.limit) k.asked))
        (λ (b : IsBegun g a.node a.act d.reading). (b.limit, ap (op_of (book_of run ++ more)) (sym d.number_is) ∙ asks d.reading.pass.id d.reading.timeout (Read d.reading.items level.Linearizable b.limit) b.act))
        d.from

    -- what acknowledges a write is the next entry's
    write_source : (m number place : ℕ) (say : Say) → IsAcknowledged (op_of (book_of run ++ more) number) say → Source g a.node a.act tt2.node.raft m number place → IsNext g a.node a.act tt2.node.raft m number place
    write_source m number place say ack (Own o) = absurd (quick_not a.node o.op say o.quick (subst (λ (x : Option Op). IsAcknowledged x say) (asks number o.timeout o.op o.act) ack))
    write_source m number place say ack (Next n) = n
    write_source m number place say ack (Due d) = let k = due_asked number place d in absurd (subst (λ (x : Option Op). IsAcknowledged x say) k.1 ack)

    -- a new answer: the node leads the entry's term, and the entry stands in the one log
    pub record Fresh (m number place : ℕ) : Type 0 where
      pub place_is : place ≡ a.node.raft.applied + 1
      pub applied : tt2.node.raft.applied ≡ a.node.raft.applied + 1
      pub waiting : Waiting
      pub found : slice_get a.node.waiting m ≡ Some waiting
      pub number_is : waiting.number ≡ number
      pub index : waiting.index ≡ place
      pub waits : Waits (book_of run) a.node.raft.log a.node.raft.term waiting
      pub stands : slice_get (chosen g.first run) (place - 1) ≡ Some waits.entry
      pub less : a.node.raft.applied < a.node.raft.commit
      pub leads : a.node.raft.role ≡ Leader

    fresh : (m number place : ℕ) → IsNext g a.node a.act tt2.node.raft m number place → Fresh m number place
    fresh m number place n =
        let w = wait_get (book_of run) a.node.raft.log a.node.raft.term a.node.waiting m n.waiting serves.waits n.found in
        let k = in_chosen g known.lead_on run a.who a.node (a.node.raft.applied + 1) (s.members_only a.who a.node a.runs) a.runs (omega (arith, n.less)) in
        let index : n.waiting.index - 1 ≡ a.node.raft.applied = omega (arith, n.at) in
        let place1 : place - 1 ≡ a.node.raft.applied = omega (arith, n.place_is) in
        record {
          place_is = n.place_is;
          applied = n.applied;
          waiting = n.waiting;
          found = n.found;
          number_is = n.number_is;
          index = n.at ∙ sym n.place_is;
          waits = w;
          stands = ap (slice_get (chosen g.first run)) place1 ∙ get_same (chosen g.first run) a.node.raft.log a.node.raft.applied k.0 ∙ ap (slice_get a.node.raft.log) (sym index) ∙ w.stands;
          less = n.less;
          leads = by_role a.node.raft.role refl;
        }
      where
        serves : Serves g.first (book_of run) a.node
        serves = s.serve a.who a.node a.runs

        nobody : (a.node.waiting ≡ []) → Prim.⊥
        nobody none = let within = get_within a.node.waiting m n.waiting n.found in omega (arith, within, ap length none)

        by_role : (r : Role) → a.node.raft.role ≡ r → a.node.raft.role ≡ Leader
        by_role Leader e = e
        by_role Follower e = absurd (nobody (serves.idle (λ q. differ e q)).0)
          where
            differ : a.node.raft.role ≡ Follower → a.node.raft.role ≡ Leader → Prim.⊥
            differ x y = cc
        by_role Candidate e = absurd (nobody (serves.idle (λ q. differ e q)).0)
          where
            differ : a.node.raft.role ≡ Candidate → a.node.raft.role ≡ Leader → Prim.⊥
            differ x y = cc

        get_take : (n : ℕ) (l : List LogEntry) (k : ℕ) → k < n → slice_get (take n l) k ≡ slice_get l k
        get_take zero l k lt = absurd (omega arith)
        get_take (suc n) [] k lt = refl
        get_take (suc n) (x ∷ l) zero lt = refl
        get_take (suc n) (x ∷ l) (suc k) lt = get_take n l k (omega arith)

        get_same : (x y : List LogEntry) (k : ℕ) → take (k + 1) x ≡ take (k + 1) y → slice_get x k ≡ slice_get y k
        get_same x y k e = sym (get_take (k + 1) x k (omega arith)) ∙ ap (λ (l : List LogEntry). slice_get l k) e ∙ get_take (k + 1) y k (omega arith)

    -- each answer is an old one, or one of the new ones, in the order of those that waited
    pub kinds : (k number place : ℕ) (say : Say) → IsAnswered (Then run e) k number place say → IsAnswered run k number place say ⊎ ((m : ℕ) × (k ≡ length (book_of run) + m) × Fresh m number place)
    kinds k number place say w =
        let op : IsAcknowledged (op_of (book_of run ++ more) number) say = subst (λ (b : List Note). IsAcknowledged (op_of b number) say) book_is w.1 in
        ⊎_elim
        (λ (o : slice_get (book_of run) k ≡ Some (Answered number say place)). inl (old_answer run s more k number place say o op))
        (λ (n : (m : ℕ) × (k ≡ length (book_of run) + m) × (slice_get more m ≡ Some (Answered number say place))).
        let x = source_of n.0 number place say (ack_counts (op_of (book_of run ++ more) number) say op) n.2 in
        let next = write_source x.0 number place say op x.2 in
        inr (x.0, omega (arith, n.1, x.1, ap length (next.none a.who)), fresh x.0 number place next))
        (note_both (book_of run) more k (Answered number say place) (subst (λ (b : List Note). slice_get b k ≡ Some (Answered number say place)) book_is w.0))

    none : Choice
    none i = 0

    -- who led a term doesn't come to lead it again
    pub comes_once : (term : ℕ) (moment : Events) (who : NodeId) (n : Node) → IsPast g.first moment run → Leads g.first moment who term n → tt2.node.raft.role ≡ Leader → tt2.node.raft.term ≡ term
        → ((a.node.raft.role ≡ Candidate) × (tt2.node.raft.term ≡ a.node.raft.term)) ⊎ (tt2.node.raft.term ≡ a.node.raft.term + 1) → Prim.⊥
    comes_once term moment who n past l lead same comes =
        let h = old_sim g known run e a none in
        let next = sim_of g (Then run e) in
        let here2 : (world g.first (Then run e)).nodes a.who ≡ Running tt2.node = runs_next g known run e a in
        let from : who ≡ a.who = g.one_leader (voters g.first) next.history next.fit.lawful who a.who term (history_node n.raft) (history_node tt2.node.raft)
        (record { was = was_in g (Then run e) moment (inr past) who n l.runs; leads = ap role_of l.role; in_term = l.in_term })
        (record { was = was_in g (Then run e) (Then run e) (here g (Then run e)) a.who tt2.node here2; leads = ap role_of lead; in_term = same }) in
        let was : Was h.history a.who (history_node n.raft) = subst (λ (j : NodeId). Was h.history j (history_node n.raft)) from (was_at g (before_event g.first e none) run moment h past who n l.runs) in
        let f = fits_old g known run e a none in
        let before : WasBefore h.history a.who (history_node n.raft) (history_node a.node.raft) = subst (λ (x : HistoryNode LogEntry). WasBefore h.history a.who (history_node n.raft) x) f.is ((g.moments h.history a.who).2 (history_node n.raft) was) in
        let time = (known.time_goes_on (voters g.first) h.history h.fit.lawful a.who (history_node n.raft) (history_node a.node.raft) before).0 in
        ⊎_elim
        (λ (p : (a.node.raft.role ≡ Candidate) × (tt2.node.raft.term ≡ a.node.raft.term)). known.stand_once (voters g.first) h.history h.fit.lawful a.who (history_node n.raft) (history_node a.node.raft) before (ap role_of l.role) (l.in_term ∙ sym same ∙ p.1) (ap role_of p.0))
        (λ (p : tt2.node.raft.term ≡ a.node.raft.term + 1). absurd (omega (arith, time, l.in_term, same, p)))
        comes

    acted_passed : Passed (Then run e)
    acted_passed = record { leader = leader; passed = passed }
      where
        leader : (k number place : ℕ) (say : Say) → IsAnswered (Then run e) k number place say → LedOnce (Then run e) place
        leader k number place say w = ⊎_elim
            (λ (o : IsAnswered run k number place say). led_on run e place (b.leader k number place say o))
            (λ (n : (m : ℕ) × (k ≡ length (book_of run) + m) × Fresh m number place). record { entry = n.2.waits.entry; stands = stands_on run e (place - 1) n.2.waits.entry n.2.stands; moment = run; past = inr (here g run); who = a.who; node = a.node; leads = record { runs = a.runs; role = n.2.leads; in_term = sym n.2.waits.in_term } })
            (kinds k number place say w)

        -- at the node that acted, of an old answer
        here_passed : (k number place : ℕ) (say : Say) → IsAnswered run k number place say → (entry : LogEntry) → slice_get (chosen g.first run) (place - 1) ≡ Some entry → tt2.node.raft.role ≡ Leader → entry.term ≡ tt2.node.raft.term → place ≤ tt2.node.raft.applied
        here_passed k number place say o entry at lead same =
            let up = act_applied g known (world g.first run).sent (world g.first run).moment a.node a.act (done g run a.who a.node a.runs) in
            ⊎_elim
            (λ (leads : a.node.raft.role ≡ Leader).
            let low = b.passed k number place say o entry at a.who a.node a.runs leads (same ∙ (pr g known run e a).on leads lead) in
            omega (arith, low, up))
            (λ (comes : ((a.node.raft.role ≡ Candidate) × (tt2.node.raft.term ≡ a.node.raft.term)) ⊎ (tt2.node.raft.term ≡ a.node.raft.term + 1)).
            let l = b.leader k number place say o in
            let x : l.entry ≡ entry = one l.entry entry (sym l.stands ∙ at) in
            absurd (comes_once l.entry.term l.moment l.who l.node l.past l.leads lead (sym same ∙ sym (ap (λ (y : LogEntry). y.term) x)) comes))
            ((pr g known run e a).comes lead)
          where
            one : (x y : LogEntry) → Some x ≡ Some y → x ≡ y
            one x y e = cc

        passed : (k number place : ℕ) (say : Say) → IsAnswered (Then run e) k number place say → (entry : LogEntry) → slice_get (chosen g.first (Then run e)) (place - 1) ≡ Some entry
            → (j : NodeId) (m : Node) → Runs g.first (Then run e) j m → m.raft.role ≡ Leader → entry.term ≡ m.raft.term → place ≤ m.raft.applied
        passed k number place say w entry at j m r lead same = ⊎_elim
            (λ (o : IsAnswered run k number place say).
            let l = b.leader k number place say o in
            let x = same_entry run e (place - 1) l.entry entry l.stands at in
            let old_at : slice_get (chosen g.first run) (place - 1) ≡ Some entry = l.stands ∙ ap Some x in
            ⊎_elim
            (λ (p : (j ≡ a.who) × (tt2.node ≡ m)). subst (λ (y : Node). place ≤ y.raft.applied) p.1 (here_passed k number place say o entry old_at (subst (λ (y : Node). y.raft.role ≡ Leader) (sym p.1) lead) (same ∙ sym (ap (λ (y : Node). y.raft.term) p.1))))
            (λ (was : Runs g.first run j m). b.passed k number place say o entry old_at j m was lead same)
            (who_runs g known run e a j m r))
            (λ (n : (m : ℕ) × (k ≡ length (book_of run) + m) × Fresh m number place).
            let x = same_entry run e (place - 1) n.2.waits.entry entry n.2.stands at in
            let term : m.raft.term ≡ a.node.raft.term = sym same ∙ sym (ap (λ (y : LogEntry). y.term) x) ∙ n.2.waits.in_term in
            ⊎_elim
            (λ (p : (j ≡ a.who) × (tt2.node ≡ m)). omega (arith, n.2.place_is, n.2.applied, ap (λ (y : Node). y.raft.applied) p.1))
            (λ (was : Runs g.first run j m). at_leader j m r was lead term n.0 n.2)
            (who_runs g known run e a j m r))
            (kinds k number place say w)
          where
            at_leader : (j : NodeId) (m : Node) → Runs g.first (Then run e) j m → Runs g.first run j m → m.raft.role ≡ Leader → m.raft.term ≡ a.node.raft.term → (d : ℕ) → (n : Fresh d number place) → place ≤ m.raft.applied
            at_leader j m r was lead term d n =
                let h = sim_of g run in
                let ij : j ≡ a.who = g.one_leader (voters g.first) h.history h.fit.lawful j a.who m.raft.term (history_node m.raft) (history_node a.node.raft)
                (record { was = was_in g run run (here g run) j m was; leads = ap role_of lead; in_term = refl })
                (record { was = was_in g run run (here g run) a.who a.node a.runs; leads = ap role_of n.leads; in_term = sym term }) in
                let mt : m ≡ tt2.node = one m tt2.node (sym (subst (λ (k : NodeId). Runs g.first (Then run e) k m) ij r) ∙ runs_next g known run e a) in
                omega (arith, n.place_is, n.applied, ap (λ (y : Node). y.raft.applied) mt)
              where
                one : (x y : Node) → Running x ≡ Running y → x ≡ y
                one x y e = ap node_in e
                  where
                    node_in : NodeState → Node
                    node_in (Running z) = z
                    node_in (Down kept rest) = x

    -- an old answer isn't at the place of a new one
    pub never : (k d number other place : ℕ) (say : Say) → IsAnswered run k number place say → Fresh d other place → Prim.⊥
    never k d number other place say o n =
        let low = b.passed k number place say o n.waits.entry n.stands a.who a.node a.runs n.leads n.waits.in_term in
        omega (arith, low, n.place_is)

  pub new_number : (run : Events) (e : Event) (a : Acted g known run e) → IsNew (book_of run) (asked_in e) → (number timeout : ℕ) (op : Op) → a.act ≡ Ask number timeout op → op_of (book_of run) number ≡ None
  new_number run e a new number timeout op is = subst (IsNew (book_of run)) (a.asked ∙ ap number_of is) new

  pub passed : (run : Events) → IsNumbered g.first run → Passed run
  passed First numbered = record { leader = λ k number place say w. absurd (no k w.0); passed = λ k number place say w. absurd (no k w.0) }
    where
      no : {q : Note} (k : ℕ) → slice_get (book_of First) k ≡ Some q → Prim.⊥
      no k e = cc
  passed (Then run e) numbered =
      let s = sound g known.lead_on run numbered.0 in
      let b = passed run numbered.0 in
      ⊎_elim (λ (a : Acted g known run e). acted_passed run e s a (new_number run e a numbered.1) b) (λ (k : Still g known run e). still_passed run e s k b) (kind g known run e)
