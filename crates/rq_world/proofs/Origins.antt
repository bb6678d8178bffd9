-- Each list of a log was asked: the entry was appended for it, at that index.
use Rattle.std.proofs.Common.{◌≡◌, ◌⊎◌, ◌<◌, ◌≤◌, ℕ, zero, suc, ◌+◌, ◌-◌, ◌==◌, ◌&&◌, Bool, true, false, cond, Option, Some, None, List, [], ◌∷◌, ◌++◌, length, take, map, slice_get, refl, sym, ◌∙◌, ap, subst, inl, inr, ⊎_elim, arith}
use Rattle.std.specs.Prelude.{nat_lt, nat_le, not, bytes_eq, max}
use Rattle.std.proofs.lemmas.List.{length-map}
use Rattle.rq_history.specs.History.{NodeId}
use Rattle.rq_statement.specs.declared.item.Item.{Item}
use Rattle.rq_statement.specs.Statements.{Statements}
use Rattle.rq_statement.specs.Bytes.{command_bytes}
use Rattle.rq_statement.specs.declared.command.Command.{Command}
use Rattle.rq_statement.specs.declared.command.Command.TheVariants.{NoOp, Execute, StrongQuery}
use Rattle.rq_request.specs.declared.ask.Level.TheVariants as level
use Rattle.rq_request.specs.declared.say.Say.TheVariants.{Refused}
use Rattle.rq_request.specs.declared.say.NodeRefusal.TheVariants.{NoLeader, Stale, EntryTooLarge, QueuedTooLarge, QueueFull}
use Rattle.rq_raft.specs.declared.role.Role.{Role}
use Rattle.rq_raft.specs.declared.role.Role.TheVariants.{Follower, Candidate, Leader}
use Rattle.rq_raft.specs.Node.{RaftNode, Message, VoteAsk, VoteSay, Append, AppendSay, Install, InstallSay, Packet, StoredRecord, Vote, Splice, Boot, Replace, Persistent, persistent_after, RaftTurn, is_leader, same_vote, all_stored, one_of}
use Rattle.rq_raft.specs.Node as raft
use Rattle.rq_raft.specs.Truth.{StoresLog}
use Rattle.rq_raft.specs.Vote as vote
use Rattle.rq_raft.specs.Lead as lead
use Rattle.rq_raft.specs.Deliver as deliver
use Rattle.rq_raft.specs.Install as install
use Rattle.rq_world.specs.declared.log_entry.LogEntry.{LogEntry}
use Rattle.rq_world.specs.Node.{QueuedWrite, Node, log_entries, persistent_of, Turn, unchanged, says, members, replica_of}
use Rattle.rq_world.specs.Reads.{begin, is_stale, limit_of}
use Rattle.rq_world.specs.Rules.{max_command_bytes, max_queued_bytes, queue_capacity, write_command, enqueued, if_not_full, if_not_too_large, enqueue, batch, batch_entry, flushed, flush, steps_down, stays_on, raft_turn, reads, counts, with_reads, receive, appended_for, proposed, if_leads, query, query_if_fresh, begun, applied_entry, apply, started, tick}
use Rattle.rq_world.specs.World.{Op, Write, Queue, Read, NodeState, Running, Down, World, Act, Ask, Elect, Beat, Flush, Apply, Compact, Deliver, Tick, Idle, Event, At, Stop, Fail, Start, FailStart, Clock, Run as Events, First, Then, world, act, turn, set_node, happens_at, stops_at, fails_at, starts_at, fails_start}
use Rattle.rq_world.specs.Laws.{Runs}
use Rattle.rq_world.specs.Appends.{Performs, AppendsFor, IsAppended}
use Rattle.rq_world.specs.Origins.{HasListAt, IsAsked, HasAsked, AreAsked, EachListWasAsked}
use Rattle.rq_world.proofs.Tests.{if_case, and_true}
use Rattle.rq_world.proofs.Given.{Given}
use Rattle.rq_world.proofs.Acts.{act_acts}
use Rattle.rq_world.proofs.Safety.{here, fits, fits_in, sim_of}
use Rattle.rq_world.proofs.Passes.{Known}
use Rattle.rq_world.proofs.Sources.{Has, MessageHas, PacketsHave, packets_both, packets_get, Sourced, propose_has, beat_has, elect_has, compact_has, receive_has}

-- in each case the choice is the branch
if_is : {A : Type 0} (P : A → Type 0) (b : Bool) (x y : A) → (b ≡ true → cond b x y ≡ x → P x) → (b ≡ false → cond b x y ≡ y → P y) → P (cond b x y)
if_is P true x y f g = f refl refl
if_is P false x y f g = g refl refl

some_at : {T : Type 0} (xs : List T) (k : ℕ) → k < length xs → (x : T) × (slice_get xs k ≡ Some x)
some_at [] k lt = absurd (omega (arith, lt))
some_at (x ∷ xs) zero lt = (x, refl)
some_at (x ∷ xs) (suc k) lt = some_at xs k (omega (arith, lt))

write_zero : (list : Statements) (mixed : Bool) (p : ℕ) → HasListAt (write_command list mixed) p → p ≡ 0
write_zero list false p h = h
write_zero list true p h = h

module _ (g : Given) (known : Known g) where
  -- ---- a later run

  abbrev appended_on : (run : Events) (e : Event) (number term index position : ℕ) → IsAppended g.first run number term index position → IsAppended g.first (Then run e) number term index position
  appended_on run e number term index position x = record {
    before = x.before;
    event = x.event;
    past = inr x.past;
    who = x.who;
    act = x.act;
    does = x.does;
    node = x.node;
    runs = x.runs;
    brings = x.brings;
    entry = x.entry;
    longer = x.longer;
    of_term = x.of_term;
    at = x.at;
  }

  abbrev From : Events → ℕ → LogEntry → Type 0
  From run k e = IsAsked g.first run (k + 1) e

  from_on : (run : Events) (ev : Event) (k : ℕ) (e : LogEntry) → From run k e → From (Then run ev) k e
  from_on run ev k e from p has = let f = from p has in (f.0, appended_on run ev f.0 e.term (k + 1) p f.1, f.2)

  noop_from : (run : Events) (k term : ℕ) → From run k (record { term = term; command = NoOp })
  noop_from run k term p has = absurd has

  abbrev HasLog : Events → ℕ → List LogEntry → Type 0
  HasLog run = Has g.first (From run) (noop_from run)

  abbrev Packets : Events → List (Packet LogEntry) → Type 0
  Packets run = PacketsHave g.first (From run) (noop_from run)

  log_on : (run : Events) (ev : Event) (at : ℕ) (es : List LogEntry) → HasLog run at es → HasLog (Then run ev) at es
  log_on run ev at es has k e get = from_on run ev (at + k) e (has k e get)

  message_on : (run : Events) (ev : Event) (m : Message LogEntry) → MessageHas g.first (From run) (noop_from run) m → MessageHas g.first (From (Then run ev)) (noop_from (Then run ev)) m
  message_on run ev (VoteAsk last_index last_term) has = tt
  message_on run ev (VoteSay granted) has = tt
  message_on run ev (Append prev prev_term commit probe es) has = log_on run ev prev es has
  message_on run ev (AppendSay ok at probe) has = tt
  message_on run ev (Install probe list) has = log_on run ev 0 list has
  message_on run ev (InstallSay at probe) has = tt

  packets_on : (run : Events) (ev : Event) (ps : List (Packet LogEntry)) → Packets run ps → Packets (Then run ev) ps
  packets_on run ev [] has = tt
  packets_on run ev (p ∷ ps) (here, more) = (message_on run ev p.message here, packets_on run ev ps more)

  -- ---- an act at a running node

  leads_yes : (r : Role) → is_leader r ≡ true → r ≡ Leader
  leads_yes Follower e = absurd (cc)
  leads_yes Candidate e = absurd (cc)
  leads_yes Leader e = refl

  module _ (run : Events) (ev : Event) (who : NodeId) (n : Node) (a : Act) (does : Performs ev who a) (up : Runs g.first run who n) (within : n.raft.commit ≤ length n.raft.log)
      (has : HasLog (Then run ev) 0 n.raft.log) (were : Packets (Then run ev) (world g.first run).sent) where
    abbrev next : Events
    next = Then run ev

    record Good (x : Turn) : Type 0 where
      pub log : HasLog next 0 x.node.raft.log
      pub packets : Packets next x.packets

    abbrev whole : Turn
    whole = turn g.first (world g.first run) n a

    still : (x : Turn) → x.node.raft.log ≡ n.raft.log → x.packets ≡ [] → Good x
    still x same none = record { log = subst (HasLog next 0) (sym same) has; packets = subst (Packets next) (sym none) tt }

    turned : (r : RaftTurn LogEntry) → Sourced g.first (From next) (noop_from next) r → Good (raft_turn n r)
    turned r s = if_case Good (is_leader n.raft.role && not (is_leader r.node.role)) (steps_down n r) (stays_on n r) (λ _. record { log = s.log; packets = s.packets }) (λ _. record { log = s.log; packets = s.packets })

    -- the entry is that of an ask or of a flush
    fresh : (entry : LogEntry) → whole.node.raft.log ≡ n.raft.log ++ entry ∷ [] → ((p : ℕ) → HasListAt entry.command p → (number : ℕ) × AppendsFor g.first n a number p) → From next (length n.raft.log) entry
    fresh entry longer brings p h =
        let b = brings p h in
        (b.0, record { before = run; event = ev; past = inl refl; who = who; act = a; does = does; node = n; runs = up; brings = b.1; entry = entry; longer = longer; of_term = refl; at = refl }, refl)

    -- ---- asks

    led : (number : ℕ) (x : Turn) → whole ≡ if_leads g.first n number x → (n.raft.role ≡ Leader → whole ≡ x → Good x) → Good (if_leads g.first n number x)
    led number x is f = if_is Good (is_leader n.raft.role) x (says n number (Refused (NoLeader n.raft.term))) (λ q e. f (leads_yes n.raft.role q) (is ∙ e)) (λ _ _. still (says n number (Refused (NoLeader n.raft.term))) refl refl)

    proposed_good : (number moment timeout : ℕ) (command : Command) (size : ℕ) → n.raft.role ≡ Leader → whole ≡ proposed g.first n number moment timeout command size → ((p : ℕ) → HasListAt command p → AppendsFor g.first n a number p) → Good (proposed g.first n number moment timeout command size)
    proposed_good number moment timeout command size leads is brings =
        let entry : LogEntry = record { term = n.raft.term; command = command } in
        if_is Good (nat_lt max_command_bytes size) (says n number (Refused (EntryTooLarge size))) (appended_for g.first n number moment timeout entry)
        (λ _ _. still (says n number (Refused (EntryTooLarge size))) refl refl)
        (λ _ e.
        let longer : whole.node.raft.log ≡ n.raft.log ++ entry ∷ [] = ap (λ (x : Turn). x.node.raft.log) (is ∙ e) ∙ (known.lead_on.proposes n.raft entry leads).3 in
        let s = propose_has g.first (From next) (noop_from next) n.raft entry has (fresh entry longer (λ p h. (number, brings p h))) in
        record { log = s.log; packets = s.packets })

    queued_good : (number moment timeout : ℕ) (list : Statements) (waits : Bool) → Good (enqueue g.first n number moment timeout list waits)
    queued_good number moment timeout list waits =
        let size = length (command_bytes (Execute list)) in
        let put = enqueued g.first n number moment timeout list waits in
        if_case Good (is_leader n.raft.role) (if_not_too_large g.first n number size (if_not_full g.first n number put)) (says n number (Refused (NoLeader n.raft.term)))
        (λ _. if_case Good (nat_lt max_queued_bytes size) (says n number (Refused (QueuedTooLarge size))) (if_not_full g.first n number put) (λ _. still (says n number (Refused (QueuedTooLarge size))) refl refl)
        (λ _. if_case Good (nat_le queue_capacity (length n.queue)) (says n number (Refused (QueueFull (length n.queue)))) put (λ _. still (says n number (Refused (QueueFull (length n.queue)))) refl refl) (λ _. still put refl refl)))
        (λ _. still (says n number (Refused (NoLeader n.raft.term))) refl refl)

    fresh_good : (number moment : ℕ) (items : List Item) (limit : Option ℕ) → Good (query_if_fresh g.first n number moment items limit)
    fresh_good number moment items limit = if_case Good (is_stale n.raft limit moment) (says n number (Refused (Stale n.raft.contact moment (limit_of limit)))) (query g.first n number items) (λ _. still (says n number (Refused (Stale n.raft.contact moment (limit_of limit)))) refl refl) (λ _. still (query g.first n number items) refl refl)

    begun_good : (number moment timeout : ℕ) (items : List Item) → Good (reads g.first (begun g.first n number moment timeout items (begin g.first n.raft)))
    begun_good number moment timeout items = let s = beat_has g.first (From next) (noop_from next) n.raft has in record { log = s.log; packets = s.packets }

    -- ---- flush

    batch_brings : a ≡ Flush → (p : ℕ) → HasListAt (batch_entry g.first n).command p → (number : ℕ) × AppendsFor g.first n a number p
    batch_brings is p h =
        let lists = length-map (batch g.first n) (λ (q : QueuedWrite). q.list) in
        let q = some_at (batch g.first n) p (subst (λ (m : ℕ). p < m) lists h) in
        (q.0.number, subst (λ (x : Act). AppendsFor g.first n x q.0.number p) (sym is) (q.0, q.1, refl))

    flush_good : a ≡ Flush → whole ≡ flush g.first n → Good (flush g.first n)
    flush_good act_is is = if_is Good (is_leader n.raft.role && nat_lt 0 (length n.queue)) (flushed g.first n) (unchanged n)
        (λ q e.
        let entry = batch_entry g.first n in
        let longer : whole.node.raft.log ≡ n.raft.log ++ entry ∷ [] = ap (λ (x : Turn). x.node.raft.log) (is ∙ e) ∙ (known.lead_on.proposes n.raft entry (leads_yes n.raft.role ((and_true (is_leader n.raft.role) (nat_lt 0 (length n.queue)) q).0))).3 in
        let s = propose_has g.first (From next) (noop_from next) n.raft entry has (fresh entry longer (batch_brings act_is)) in
        record { log = s.log; packets = s.packets })
        (λ _ _. still (unchanged n) refl refl)

    -- ---- apply and packets

    apply_good : Good (apply g.first n)
    apply_good = if_case Good (nat_lt n.raft.applied n.raft.commit) (applied_entry g.first n (slice_get n.raft.log n.raft.applied)) (unchanged n) (λ _. entry (slice_get n.raft.log n.raft.applied)) (λ _. still (unchanged n) refl refl)
      where
        entry : (o : Option LogEntry) → Good (applied_entry g.first n o)
        entry None = still (unchanged n) refl refl
        entry (Some e) = record { log = has; packets = tt }

    with_good : (p : Packet LogEntry) (m : Message LogEntry) (t : Turn) → Good t → Good (with_reads g.first n p m t)
    with_good p (VoteAsk last_index last_term) t good = good
    with_good p (VoteSay granted) t good = good
    with_good p (Append prev prev_term commit probe es) t good = good
    with_good p (AppendSay ok at probe) t good = if_case Good (counts g.first n p at) (reads g.first t) t (λ _. record { log = good.log; packets = good.packets }) (λ _. good)
    with_good p (Install probe list) t good = if_case Good (nat_lt n.raft.applied t.node.raft.applied) (record t { node = record t.node { replica = replica_of g.first list } }) t (λ _. record { log = good.log; packets = good.packets }) (λ _. good)
    with_good p (InstallSay at probe) t good = if_case Good (counts g.first n p at) (reads g.first t) t (λ _. record { log = good.log; packets = good.packets }) (λ _. good)

    receive_good : (k : ℕ) (o : Option (Packet LogEntry)) → slice_get (world g.first run).sent k ≡ o → Good (receive g.first n (world g.first run).moment o)
    receive_good k None get = still (unchanged n) refl refl
    receive_good k (Some p) get =
        let r = deliver.receive log_entries g.first n.raft (world g.first run).moment p in
        if_case Good (bytes_eq p.to n.raft.id) (with_reads g.first n p p.message (raft_turn n r)) (unchanged n)
        (λ _. with_good p p.message (raft_turn n r) (turned r (receive_has g.first (From next) (noop_from next) n.raft (world g.first run).moment p has within (packets_get g.first (From next) (noop_from next) (world g.first run).sent k p were get))))
        (λ _. still (unchanged n) refl refl)

    -- ---- acts

    asked_good : (number timeout : ℕ) (op : Op) → a ≡ Ask number timeout op → whole ≡ act g.first (world g.first run).sent (world g.first run).moment n (Ask number timeout op) → Good (act g.first (world g.first run).sent (world g.first run).moment n (Ask number timeout op))
    asked_good number timeout (Write list mixed) act_is is =
        let moment = (world g.first run).moment in
        let size = length (command_bytes (write_command list mixed)) in
        led number (proposed g.first n number moment timeout (write_command list mixed) size) is (λ leads e. proposed_good number moment timeout (write_command list mixed) size leads e
        (λ p h. subst (λ (x : Act). AppendsFor g.first n x number p) (sym act_is) (refl, write_zero list mixed p h)))
    asked_good number timeout (Queue list waits) act_is is = queued_good number (world g.first run).moment timeout list waits
    asked_good number timeout (Read items level.None limit) act_is is = fresh_good number (world g.first run).moment items limit
    asked_good number timeout (Read items level.Weak limit) act_is is = led number (query g.first n number items) is (λ leads e. still (query g.first n number items) refl refl)
    asked_good number timeout (Read items level.Linearizable limit) act_is is = led number (reads g.first (begun g.first n number (world g.first run).moment timeout items (begin g.first n.raft))) is (λ leads e. begun_good number (world g.first run).moment timeout items)
    asked_good number timeout (Read items level.Strong limit) act_is is =
        let moment = (world g.first run).moment in
        let size = length (command_bytes (StrongQuery items)) in
        led number (proposed g.first n number moment timeout (StrongQuery items) size) is (λ leads e. proposed_good number moment timeout (StrongQuery items) size leads e
        (λ p h. subst (λ (x : Act). AppendsFor g.first n x number p) (sym act_is) (refl, h)))

    by_act : (x : Act) → a ≡ x → whole ≡ act g.first (world g.first run).sent (world g.first run).moment n x → Good (act g.first (world g.first run).sent (world g.first run).moment n x)
    by_act (Ask number timeout op) act_is is = asked_good number timeout op act_is is
    by_act Elect act_is is = turned (vote.elect log_entries g.first n.raft) (elect_has g.first (From next) (noop_from next) n.raft has)
    by_act Beat act_is is = turned (lead.beat log_entries g.first n.raft) (beat_has g.first (From next) (noop_from next) n.raft has)
    by_act Flush act_is is = flush_good act_is is
    by_act Apply act_is is = apply_good
    by_act Compact act_is is = turned (install.compact n.raft) (compact_has g.first (From next) (noop_from next) n.raft has)
    by_act (Deliver k) act_is is = receive_good k (slice_get (world g.first run).sent k) refl
    by_act Tick act_is is = still (tick n (world g.first run).moment) refl refl
    by_act Idle act_is is = still (unchanged n) refl refl

    turn_has : HasLog next 0 whole.node.raft.log × Packets next whole.packets
    turn_has = let t = by_act a refl refl in (t.log, t.packets)

  -- ---- what is stored

  abbrev LogIs : List LogEntry → List LogEntry → Persistent LogEntry → Type 0
  LogIs old new kept = (kept.log ≡ old) ⊎ (kept.log ≡ new)

  stored_log : (r : RaftTurn LogEntry) (base : ℕ) (old : List LogEntry) → StoresLog base old r → (kept : Persistent LogEntry) → kept.log ≡ old → (k : ℕ) → LogIs old r.node.log (persistent_after kept (take k r.stored))
  stored_log r base old (inl none) kept same k = subst (λ (items : List (StoredRecord LogEntry)). LogIs old r.node.log (persistent_after kept (take k items))) (sym none.0) (by k)
    where
      by : (k : ℕ) → LogIs old r.node.log (persistent_after kept (take k []))
      by zero = inl same
      by (suc k) = inl same
  stored_log r base old (inr (inl splice)) kept same k = subst (λ (items : List (StoredRecord LogEntry)). LogIs old r.node.log (persistent_after kept (take k items))) (sym splice.2) (by k)
    where
      by : (k : ℕ) → LogIs old r.node.log (persistent_after kept (take k (Splice splice.0 splice.1 ∷ [])))
      by zero = inl same
      by (suc zero) = inr (ap (λ (l : List LogEntry). take (splice.0 - 1) l ++ splice.1) same ∙ sym splice.3)
      by (suc (suc k)) = inr (ap (λ (l : List LogEntry). take (splice.0 - 1) l ++ splice.1) same ∙ sym splice.3)
  stored_log r base old (inr (inr replace)) kept same k = subst (λ (items : List (StoredRecord LogEntry)). LogIs old r.node.log (persistent_after kept (take k items))) (sym replace) (by k)
    where
      by : (k : ℕ) → LogIs old r.node.log (persistent_after kept (take k (Replace r.node.base r.node.log ∷ [])))
      by zero = inl same
      by (suc zero) = inr refl
      by (suc (suc k)) = inr refl

  all_log : (n : RaftNode LogEntry) (r : RaftTurn LogEntry) → StoresLog n.base n.log r → (kept : Persistent LogEntry) → kept.log ≡ n.log → (k : ℕ) → LogIs n.log r.node.log (persistent_after kept (take k (all_stored n r)))
  all_log n r stores kept same k = if_case (λ (items : List (StoredRecord LogEntry)). LogIs n.log r.node.log (persistent_after kept (take k items))) ((n.term == r.node.term) && same_vote n.vote r.node.vote) r.stored (Vote r.node.term r.node.vote ∷ r.stored)
      (λ _. stored_log r n.base n.log stores kept same k) (λ _. by k)
    where
      by : (k : ℕ) → LogIs n.log r.node.log (persistent_after kept (take k (Vote r.node.term r.node.vote ∷ r.stored)))
      by zero = inl same
      by (suc k) = stored_log r n.base n.log stores (record kept { term = r.node.term; vote = r.node.vote }) same k

  -- behind the first k things that a turn stores, its node's files have the log of before, or of after
  kept_log : (run : Events) (i : NodeId) (n : Node) (a : Act) → Runs g.first run i n → (k : ℕ) → LogIs n.raft.log (turn g.first (world g.first run) n a).node.raft.log (persistent_after (persistent_of n) (take k (turn g.first (world g.first run) n a).stored))
  kept_log run i n a up k =
      let s = sim_of g run in
      let x = act_acts g s.history i n (world g.first run).sent (world g.first run).moment a s.fit.lawful (fits_in g run i n up) s.fit.packets_are_true in
      let kept = persistent_of n in
      subst (λ (items : List (StoredRecord LogEntry)). LogIs n.raft.log (turn g.first (world g.first run) n a).node.raft.log (persistent_after kept (take k items))) (sym x.is.durable_is)
      (subst (λ (m : RaftNode LogEntry). LogIs n.raft.log m.log (persistent_after kept (take k (all_stored n.raft x.raft)))) (sym x.is.node) (all_log n.raft x.raft x.moves.stores kept refl k))

  -- ---- runs

  abbrev NodeHas : Events → NodeState → Type 0
  NodeHas run (Running n) = HasLog run 0 n.raft.log
  NodeHas run (Down kept rest) = (k : ℕ) → HasLog run 0 (persistent_after kept (take k rest)).log

  record AllHave (run : Events) : Type 0 where
    pub nodes : (i : NodeId) → NodeHas run ((world g.first run).nodes i)
    pub packets : Packets run (world g.first run).sent

  state_on : (run : Events) (ev : Event) (s : NodeState) → NodeHas run s → NodeHas (Then run ev) s
  state_on run ev (Running n) has = log_on run ev 0 n.raft.log has
  state_on run ev (Down kept rest) has = λ k. log_on run ev 0 (persistent_after kept (take k rest)).log (has k)

  -- one place changes
  set_has : (run : Events) (ev : Event) (nodes : NodeId → NodeState) (i : NodeId) (s : NodeState) → ((j : NodeId) → NodeHas run (nodes j)) → NodeHas (Then run ev) s → (j : NodeId) → NodeHas (Then run ev) (set_node g.first nodes i s j)
  set_has run ev nodes i s all here j = if_case (NodeHas (Then run ev)) (bytes_eq j i) s (nodes j) (λ _. here) (λ _. state_on run ev (nodes j) (all j))

  -- the next world, where its nodes and packets have this
  becomes : (run : Events) (ev : Event) (next : World) → world g.first (Then run ev) ≡ next → ((j : NodeId) → NodeHas (Then run ev) (next.nodes j)) → Packets (Then run ev) next.sent → AllHave (Then run ev)
  becomes run ev next is nodes packets = record {
    nodes = λ j. subst (λ (w : World). NodeHas (Then run ev) (w.nodes j)) (sym is) (nodes j);
    packets = subst (λ (w : World). Packets (Then run ev) w.sent) (sym is) packets;
  }

  stays : (run : Events) (ev : Event) (next : World) → world g.first (Then run ev) ≡ next → next.nodes ≡ (world g.first run).nodes → next.sent ≡ (world g.first run).sent → AllHave run → AllHave (Then run ev)
  stays run ev next is nodes sent all = becomes run ev next is (λ j. subst (λ (p : NodeId → NodeState). NodeHas (Then run ev) (p j)) (sym nodes) (state_on run ev ((world g.first run).nodes j) (all.nodes j)))
      (subst (Packets (Then run ev)) (sym sent) (packets_on run ev (world g.first run).sent all.packets))

  module _ (run : Events) (all : AllHave run) where
    node_has : (i : NodeId) (s : NodeState) → (world g.first run).nodes i ≡ s → NodeHas run s
    node_has i s is = subst (NodeHas run) is (all.nodes i)

    acted_has : (ev : Event) (i : NodeId) (n : Node) (a : Act) → Performs ev i a → Runs g.first run i n → HasLog (Then run ev) 0 (turn g.first (world g.first run) n a).node.raft.log × Packets (Then run ev) (turn g.first (world g.first run) n a).packets
    acted_has ev i n a does up = turn_has run ev i n a does up (fits g run run (here g run) i n up) (log_on run ev 0 n.raft.log (node_has i (Running n) up)) (packets_on run ev (world g.first run).sent all.packets)

    kept_has : (ev : Event) (i : NodeId) (n : Node) (a : Act) → Performs ev i a → Runs g.first run i n → (k : ℕ) → HasLog (Then run ev) 0 (persistent_after (persistent_of n) (take k (turn g.first (world g.first run) n a).stored)).log
    kept_has ev i n a does up k = ⊎_elim
        (λ (old : (persistent_after (persistent_of n) (take k (turn g.first (world g.first run) n a).stored)).log ≡ n.raft.log). subst (HasLog (Then run ev) 0) (sym old) (log_on run ev 0 n.raft.log (node_has i (Running n) up)))
        (λ (new : (persistent_after (persistent_of n) (take k (turn g.first (world g.first run) n a).stored)).log ≡ (turn g.first (world g.first run) n a).node.raft.log). subst (HasLog (Then run ev) 0) (sym new) (acted_has ev i n a does up).0)
        (kept_log run i n a up k)

    -- nothing more stands behind what was kept
    settled : (ev : Event) (kept : Persistent LogEntry) → HasLog (Then run ev) 0 kept.log → (k : ℕ) → HasLog (Then run ev) 0 (persistent_after kept (take k [])).log
    settled ev kept has zero = has
    settled ev kept has (suc k) = has

    -- a boot leaves the log
    booted : (ev : Event) (kept : Persistent LogEntry) (boot : ℕ) → HasLog (Then run ev) 0 kept.log → (k : ℕ) → HasLog (Then run ev) 0 (persistent_after kept (take k (Boot boot ∷ []))).log
    booted ev kept boot has zero = has
    booted ev kept boot has (suc zero) = has
    booted ev kept boot has (suc (suc k)) = has

    down_has : (ev : Event) (i : NodeId) (kept : Persistent LogEntry) (rest : List (StoredRecord LogEntry)) → (world g.first run).nodes i ≡ Down kept rest → (k : ℕ) → HasLog (Then run ev) 0 (persistent_after kept (take k rest)).log
    down_has ev i kept rest is k = log_on run ev 0 (persistent_after kept (take k rest)).log (node_has i (Down kept rest) is k)

    old_packets : (ev : Event) → Packets (Then run ev) (world g.first run).sent
    old_packets ev = packets_on run ev (world g.first run).sent all.packets

    set_all : (ev : Event) (i : NodeId) (s : NodeState) → NodeHas (Then run ev) s → (j : NodeId) → NodeHas (Then run ev) (set_node g.first (world g.first run).nodes i s j)
    set_all ev i s = set_has run ev (world g.first run).nodes i s all.nodes

    step : (ev : Event) → AllHave (Then run ev)
    step (At i a) = by ((world g.first run).nodes i) refl
      where
        by : (s : NodeState) → (world g.first run).nodes i ≡ s → AllHave (Then run (At i a))
        by (Running n) is =
            let t = acted_has (At i a) i n a (refl, refl) is in
            becomes run (At i a) (happens_at g.first (world g.first run) i a (Running n)) (ap (happens_at g.first (world g.first run) i a) is) (set_all (At i a) i (Running (turn g.first (world g.first run) n a).node) t.0)
            (packets_both g.first (From (Then run (At i a))) (noop_from (Then run (At i a))) (world g.first run).sent (turn g.first (world g.first run) n a).packets (old_packets (At i a)) t.1)
        by (Down kept rest) is = stays run (At i a) (happens_at g.first (world g.first run) i a (Down kept rest)) (ap (happens_at g.first (world g.first run) i a) is) refl refl all
    step (Stop i a k) = by ((world g.first run).nodes i) refl
      where
        by : (s : NodeState) → (world g.first run).nodes i ≡ s → AllHave (Then run (Stop i a k))
        by (Running n) is =
            let kept = persistent_after (persistent_of n) (take k (turn g.first (world g.first run) n a).stored) in
            becomes run (Stop i a k) (stops_at g.first (world g.first run) i a k (Running n)) (ap (stops_at g.first (world g.first run) i a k) is) (set_all (Stop i a k) i (Down kept []) (settled (Stop i a k) kept (kept_has (Stop i a k) i n a (refl, refl) is k))) (old_packets (Stop i a k))
        by (Down kept rest) is = stays run (Stop i a k) (stops_at g.first (world g.first run) i a k (Down kept rest)) (ap (stops_at g.first (world g.first run) i a k) is) refl refl all
    step (Fail i a) = by ((world g.first run).nodes i) refl
      where
        by : (s : NodeState) → (world g.first run).nodes i ≡ s → AllHave (Then run (Fail i a))
        by (Running n) is = becomes run (Fail i a) (fails_at g.first (world g.first run) i a (Running n)) (ap (fails_at g.first (world g.first run) i a) is) (set_all (Fail i a) i (Down (persistent_of n) (turn g.first (world g.first run) n a).stored) (kept_has (Fail i a) i n a (refl, refl) is)) (old_packets (Fail i a))
        by (Down kept rest) is = stays run (Fail i a) (fails_at g.first (world g.first run) i a (Down kept rest)) (ap (fails_at g.first (world g.first run) i a) is) refl refl all
    step (Start i k) = member (one_of (members g.first) i) refl
      where
        by : (s : NodeState) → (world g.first run).nodes i ≡ s → world g.first (Then run (Start i k)) ≡ starts_at g.first (world g.first run) i k s → AllHave (Then run (Start i k))
        by (Running n) is next = stays run (Start i k) (world g.first run) next refl refl all
        by (Down kept rest) is next = becomes run (Start i k) (starts_at g.first (world g.first run) i k (Down kept rest)) next (set_all (Start i k) i (Running (started g.first i (persistent_after kept (take k rest))).node) (down_has (Start i k) i kept rest is k)) (old_packets (Start i k))

        member : (b : Bool) → one_of (members g.first) i ≡ b → AllHave (Then run (Start i k))
        member true e = by ((world g.first run).nodes i) refl (ap (λ (b : Bool). cond b (starts_at g.first (world g.first run) i k ((world g.first run).nodes i)) (world g.first run)) e)
        member false e = stays run (Start i k) (world g.first run) (ap (λ (b : Bool). cond b (starts_at g.first (world g.first run) i k ((world g.first run).nodes i)) (world g.first run)) e) refl refl all
    step (FailStart i k) = by ((world g.first run).nodes i) refl
      where
        by : (s : NodeState) → (world g.first run).nodes i ≡ s → AllHave (Then run (FailStart i k))
        by (Running n) is = stays run (FailStart i k) (world g.first run) (ap (fails_start g.first (world g.first run) i k) is) refl refl all
        by (Down kept rest) is =
            let full = persistent_after kept (take k rest) in
            becomes run (FailStart i k) (fails_start g.first (world g.first run) i k (Down kept rest)) (ap (fails_start g.first (world g.first run) i k) is) (set_all (FailStart i k) i (Down full (started g.first i full).stored) (booted (FailStart i k) full (full.boot + 1) (down_has (FailStart i k) i kept rest is k))) (old_packets (FailStart i k))
    step (Clock moment) = stays run (Clock moment) (record (world g.first run) { moment = max (world g.first run).moment moment }) refl refl refl all

  all_have : (run : Events) → AllHave run
  all_have First = record { nodes = λ i k. nothing i k; packets = tt }
    where
      nothing : (i : NodeId) (k : ℕ) → HasLog First 0 (persistent_after (Rattle.rq_world.specs.World.new_files g.first) (take k [])).log
      nothing i zero j e get = absurd (cc)
      nothing i (suc k) j e get = absurd (cc)
  all_have (Then run ev) = step run (all_have run) ev

  asked_log : (run : Events) (log : List LogEntry) → HasLog run 0 log → AreAsked g.first run log
  asked_log run log has k e get = let same : 0 + k ≡ k = omega arith in subst (λ (j : ℕ). From run j e) same (has k e get)

  pub each_list : EachListWasAsked g.first
  each_list run i = by ((world g.first run).nodes i) ((all_have run).nodes i)
    where
      by : (s : NodeState) → NodeHas run s → HasAsked g.first run s
      by (Running n) has = asked_log run n.raft.log has
      by (Down kept rest) has = λ k. asked_log run (persistent_after kept (take k rest)).log (has k)
