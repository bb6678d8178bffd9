-- Each ask appends at most one entry, and different asks at different places.
use Rattle.std.proofs.Common.{◌≡◌, ◌⊎◌, ℕ, ◌+◌, List, [], ◌∷◌, ◌++◌, length, ◌&&◌, Bool, true, Some, None, refl, sym, ◌∙◌, ap, subst, inl, inr, ⊎_elim, arith}
use Rattle.std.specs.Prelude.{nat_lt, nat_le, slice_get}
use Rattle.std.proofs.lemmas.List.{length-append, length-take, append_cancel_left}
use Rattle.rq_statement.specs.Statements.{Statements}
use Rattle.rq_statement.specs.declared.item.Item.{Item}
use Rattle.rq_request.specs.declared.say.Say.TheVariants.{Refused}
use Rattle.rq_request.specs.declared.say.NodeRefusal.TheVariants.{NoLeader, Stale, EntryTooLarge, QueuedTooLarge, QueueFull}
use Rattle.rq_statement.specs.Bytes.{command_bytes}
use Rattle.rq_wire.specs.declared.config.Member.{Member}
use Rattle.rq_history.specs.History.{NodeId, Node as HistoryNode, WasBefore}
use Rattle.rq_raft.specs.Entries.{voters}
use Rattle.rq_raft.specs.Truth.{role_of, history_node, Refines}
use Rattle.rq_raft.specs.declared.role.Role.{Role}
use Rattle.rq_raft.specs.declared.role.Role.TheVariants.{Follower, Candidate, Leader}
use Rattle.rq_raft.specs.Node.{RaftTurn, unchanged as raft_quiet, is_leader}
use Rattle.rq_raft.specs.Lead as lead
use Rattle.rq_raft.specs.Laws.{LeadOn}
use Rattle.rq_world.specs.declared.log_entry.LogEntry.{LogEntry}
use Rattle.rq_statement.specs.declared.command.Command.{Command}
use Rattle.rq_statement.specs.declared.command.Command.TheVariants.{Execute, StrongQuery}
use Rattle.rq_request.specs.declared.ask.Level.TheVariants as level
use Rattle.rq_world.specs.Node.{QueuedWrite, Node, log_entries, Turn, unchanged, says}
use Rattle.rq_world.specs.Reads.{begin, is_stale, limit_of}
use Rattle.rq_world.specs.Rules.{max_command_bytes, max_queued_bytes, queue_capacity, enqueued, if_not_full, if_not_too_large, enqueue, batch, batch_entry, flushed, flush, reads, appended_for, proposed, if_leads, query, begun, write_command}
use Rattle.rq_world.specs.World.{Op, Write, Queue, Read, Note, Asked, NodeState, Running, Down, World, Act, Ask, Elect, Beat, Flush, Apply, Compact, Deliver, Tick, Idle, Event, At, Stop, Fail, Start, FailStart, Clock, Run as Events, First, Then, turn, note_of, place_of, at_place, happens_at, stops_at, fails_at, world, IsPast}
use Rattle.rq_world.specs.Laws.{Runs, Leads}
use Rattle.rq_world.specs.Promise.{op_of, asked_in, IsNew, IsNumbered}
use Rattle.rq_world.specs.Appends.{Performs, AppendsFor, IsAppended, EachAskAppendsOnce}
use Rattle.rq_world.proofs.Tests.{if_case, and_true}
use Rattle.rq_world.proofs.Given.{Given}
use Rattle.rq_world.proofs.Safety.{here, sim_of, was_in, fits_in, one_leader}
use Rattle.rq_world.proofs.Histories.{op_kept}
use Rattle.rq_world.proofs.Promises.{sound, number_is}
use Rattle.rq_world.proofs.Passes.{Known}
use Rattle.rq_world.proofs.Covering.{Acted, Still, kind, t, pr, who_runs}
use Rattle.rq_world.proofs.Apart.{new_number, passed, comes_once}
use Rattle.rq_world.proofs.Acknowledged.{book_past, numbered_past}
use Rattle.rq_world.proofs.Queues.{Stands, stands_asked, Took, took_stands, unique, gone, stopped, failed}

module _ (g : Given) where
  past_on : (p q run : Events) → IsPast g.first p q → IsPast g.first q run → IsPast g.first p run
  past_on p q First a b = subst (IsPast g.first p) b a
  past_on p q (Then run e) a (inl b) = subst (IsPast g.first p) b a
  past_on p q (Then run e) a (inr b) = inr (past_on p q run a b)

  past_one : (p : Events) (e : Event) (run : Events) → IsPast g.first (Then p e) run → IsPast g.first p run
  past_one p e run a = past_on p (Then p e) run (inr (here g p)) a

  -- of two moments one is the past of the other
  past_order : (p q run : Events) → IsPast g.first p run → IsPast g.first q run → IsPast g.first p q ⊎ IsPast g.first q p
  past_order p q First a b = inl (subst (IsPast g.first p) (sym b) (subst (λ (x : Events). IsPast g.first p x) a (here g p)))
  past_order p q (Then run e) (inl a) b = inr (subst (IsPast g.first q) (sym a) b)
  past_order p q (Then run e) (inr a) (inl b) = inl (subst (IsPast g.first p) (sym b) (inr a))
  past_order p q (Then run e) (inr a) (inr b) = past_order p q run a b

module _ (g : Given) (lead_on : LeadOn log_entries g.first) where
  -- the log stays, or a leader's gets an entry of its term more
  abbrev Grew : Node → Turn → Type 0
  Grew n t = (t.node.raft.log ≡ n.raft.log)
      ⊎ ((e : LogEntry) × (t.node.raft.log ≡ n.raft.log ++ e ∷ []) × (e.term ≡ n.raft.term) × (n.raft.role ≡ Leader) × (t.node.raft.role ≡ Leader) × (t.node.raft.term ≡ n.raft.term))

  led_grew : (n : Node) (number : ℕ) (t : Turn) → (n.raft.role ≡ Leader → Grew n t) → Grew n (if_leads g.first n number t)
  led_grew n number t f = if_case (Grew n) (is_leader n.raft.role) t (says n number (Refused (NoLeader n.raft.term))) (λ q. f (leads n.raft.role q)) (λ _. inl refl)
    where
      leads : (r : Role) → is_leader r ≡ true → r ≡ Leader
      leads Follower e = absurd (cc)
      leads Candidate e = absurd (cc)
      leads Leader e = refl

  proposed_grew : (n : Node) (number moment timeout : ℕ) (command : Command) (size : ℕ) → n.raft.role ≡ Leader → Grew n (proposed g.first n number moment timeout command size)
  proposed_grew n number moment timeout command size leads = if_case (Grew n) (nat_lt max_command_bytes size) (says n number (Refused (EntryTooLarge size))) (appended_for g.first n number moment timeout (record { term = n.raft.term; command = command }))
      (λ _. inl refl)
      (λ _. let e : LogEntry = record { term = n.raft.term; command = command } in let p = lead_on.proposes n.raft e leads in inr (e, p.3, refl, leads, p.1, p.2))

  begun_grew : (n : Node) (number moment timeout : ℕ) (items : List Item) → n.raft.role ≡ Leader → Grew n (reads g.first (begun g.first n number moment timeout items (begin g.first n.raft)))
  begun_grew n number moment timeout items leads = inl ((lead_on.beats n.raft).1 leads (still leads)).1
    where
      still : n.raft.role ≡ Leader → (begin g.first n.raft).node.role ≡ Leader
      still = if_case (λ (t : RaftTurn LogEntry). n.raft.role ≡ Leader → t.node.role ≡ Leader) (is_leader n.raft.role) (lead.send log_entries g.first (λ p. true) (raft_quiet n.raft)) (raft_quiet n.raft) (λ _ q. q) (λ _ q. q)

  -- a queued ask appends nothing
  pub queued_same : (n : Node) (number moment timeout : ℕ) (list : Statements) (wait : Bool) → (enqueue g.first n number moment timeout list wait).node.raft.log ≡ n.raft.log
  queued_same n number moment timeout list wait =
      let size = length (command_bytes (Execute list)) in
      let held = length n.queue in
      let t = enqueued g.first n number moment timeout list wait in
      if_case (λ (x : Turn). x.node.raft.log ≡ n.raft.log) (is_leader n.raft.role) (if_not_too_large g.first n number size (if_not_full g.first n number t)) (says n number (Refused (NoLeader n.raft.term)))
      (λ _. if_case (λ (x : Turn). x.node.raft.log ≡ n.raft.log) (nat_lt max_queued_bytes size) (says n number (Refused (QueuedTooLarge size))) (if_not_full g.first n number t)
      (λ _. refl)
      (λ _. if_case (λ (x : Turn). x.node.raft.log ≡ n.raft.log) (nat_le queue_capacity held) (says n number (Refused (QueueFull held))) t (λ _. refl) (λ _. refl)))
      (λ _. refl)

  ask_grew : (w : World) (n : Node) (number timeout : ℕ) (op : Op) → Grew n (turn g.first w n (Ask number timeout op))
  ask_grew w n number timeout (Write list mixed) = led_grew n number (proposed g.first n number w.moment timeout (write_command list mixed) (length (command_bytes (write_command list mixed)))) (proposed_grew n number w.moment timeout (write_command list mixed) (length (command_bytes (write_command list mixed))))
  ask_grew w n number timeout (Queue list wait) = inl (queued_same n number w.moment timeout list wait)
  ask_grew w n number timeout (Read items level.None limit) = if_case (Grew n) (is_stale n.raft limit w.moment) (says n number (Refused (Stale n.raft.contact w.moment (limit_of limit)))) (query g.first n number items) (λ _. inl refl) (λ _. inl refl)
  ask_grew w n number timeout (Read items level.Weak limit) = led_grew n number (query g.first n number items) (λ _. inl refl)
  ask_grew w n number timeout (Read items level.Linearizable limit) = led_grew n number (reads g.first (begun g.first n number w.moment timeout items (begin g.first n.raft))) (begun_grew n number w.moment timeout items)
  ask_grew w n number timeout (Read items level.Strong limit) = led_grew n number (proposed g.first n number w.moment timeout (StrongQuery items) (length (command_bytes (StrongQuery items)))) (proposed_grew n number w.moment timeout (StrongQuery items) (length (command_bytes (StrongQuery items))))

  flush_grew : (n : Node) → Grew n (flush g.first n)
  flush_grew n = if_case (Grew n) (is_leader n.raft.role && nat_lt 0 (length n.queue)) (flushed g.first n) (unchanged n)
      (λ q. let leads = leads_yes n.raft.role ((and_true (is_leader n.raft.role) (nat_lt 0 (length n.queue)) q).0) in let e = batch_entry g.first n in let p = lead_on.proposes n.raft e leads in inr (e, p.3, refl, leads, p.1, p.2))
      (λ _. inl refl)
    where
      leads_yes : (r : Role) → is_leader r ≡ true → r ≡ Leader
      leads_yes Follower e = absurd (cc)
      leads_yes Candidate e = absurd (cc)
      leads_yes Leader e = refl

  pub act_grew : (w : World) (n : Node) (a : Act) (number position : ℕ) → AppendsFor g.first n a number position → Grew n (turn g.first w n a)
  act_grew w n (Ask k timeout op) number position b = ask_grew w n k timeout op
  act_grew w n Elect number position b = absurd b
  act_grew w n Beat number position b = absurd b
  act_grew w n Flush number position b = flush_grew n
  act_grew w n Apply number position b = absurd b
  act_grew w n Compact number position b = absurd b
  act_grew w n (Deliver k) number position b = absurd b
  act_grew w n Tick number position b = absurd b
  act_grew w n Idle number position b = absurd b

  -- what is known where an entry was appended
  record Grown (n : Node) (t : Turn) (entry : LogEntry) : Type 0 where
    of_term : entry.term ≡ n.raft.term
    leads : n.raft.role ≡ Leader
    still : t.node.raft.role ≡ Leader
    same : t.node.raft.term ≡ n.raft.term

  grown : (n : Node) (t : Turn) (entry : LogEntry) → t.node.raft.log ≡ n.raft.log ++ entry ∷ [] → Grew n t → Grown n t entry
  grown n t entry longer (inl same) =
      let l : length n.raft.log ≡ length n.raft.log + 1 = ap length (sym same ∙ longer) ∙ length-append n.raft.log (entry ∷ []) in
      absurd (omega (arith, l))
  grown n t entry longer (inr (e, log, of_term, leads, still, same)) =
      let one : entry ∷ [] ≡ e ∷ [] = append_cancel_left n.raft.log (entry ∷ []) (e ∷ []) (sym longer ∙ log) in
      record { of_term = ap (λ (x : LogEntry). x.term) (head e one) ∙ of_term; leads = leads; still = still; same = same }
    where
      head : (e : LogEntry) → entry ∷ [] ≡ e ∷ [] → entry ≡ e
      head e q = cc

-- ---- events in which a node does something

does_asked : (e : Event) (i : NodeId) (number timeout : ℕ) (op : Op) → Performs e i (Ask number timeout op) → asked_in e ≡ Some number
does_asked (At j a) i number timeout op p = ap Rattle.rq_world.specs.Promise.number_of p.1
does_asked (Stop j a k) i number timeout op p = ap Rattle.rq_world.specs.Promise.number_of p.1
does_asked (Fail j a) i number timeout op p = ap Rattle.rq_world.specs.Promise.number_of p.1
does_asked (Start j k) i number timeout op p = absurd p
does_asked (FailStart j k) i number timeout op p = absurd p
does_asked (Clock moment) i number timeout op p = absurd p

does_one : (e : Event) (i j : NodeId) (a b : Act) → Performs e i a → Performs e j b → (i ≡ j) × (a ≡ b)
does_one (At k c) i j a b p q = (sym p.0 ∙ q.0, sym p.1 ∙ q.1)
does_one (Stop k c m) i j a b p q = (sym p.0 ∙ q.0, sym p.1 ∙ q.1)
does_one (Fail k c) i j a b p q = (sym p.0 ∙ q.0, sym p.1 ∙ q.1)
does_one (Start k m) i j a b p q = absurd p
does_one (FailStart k m) i j a b p q = absurd p
does_one (Clock moment) i j a b p q = absurd p

does_kind : (e : Event) (i : NodeId) (a : Act) → Performs e i a → (e ≡ At i a) ⊎ ((k : ℕ) × (e ≡ Stop i a k)) ⊎ (e ≡ Fail i a)
does_kind (At j b) i a p = inl (ap (λ (w : NodeId). At w b) p.0 ∙ ap (At i) p.1)
does_kind (Stop j b k) i a p = inr (inl (k, ap (λ (w : NodeId). Stop w b k) p.0 ∙ ap (λ (c : Act). Stop i c k) p.1))
does_kind (Fail j b) i a p = inr (inr (ap (λ (w : NodeId). Fail w b) p.0 ∙ ap (Fail i) p.1))
does_kind (Start j k) i a p = absurd p
does_kind (FailStart j k) i a p = absurd p
does_kind (Clock moment) i a p = absurd p

module _ (first : List Member) where
  pub record ByAsk (a : Act) (number position : ℕ) : Type 0 where
    pub timeout : ℕ
    pub op : Op
    pub is : a ≡ Ask number timeout op
    pub at : position ≡ 0

  pub record ByFlush (n : Node) (a : Act) (number position : ℕ) : Type 0 where
    pub is : a ≡ Flush
    pub held : QueuedWrite
    pub found : slice_get (batch first n) position ≡ Some held
    pub number_is : held.number ≡ number

  pub brought : (n : Node) (a : Act) (number position : ℕ) → AppendsFor first n a number position → ByAsk a number position ⊎ ByFlush n a number position
  brought n (Ask k timeout op) number position b = inl (record { timeout = timeout; op = op; is = ap (λ (j : ℕ). Ask j timeout op) b.0; at = b.1 })
  brought n Elect number position b = absurd b
  brought n Beat number position b = absurd b
  brought n Flush number position b = inr (record { is = refl; held = b.0; found = b.1; number_is = b.2 })
  brought n Apply number position b = absurd b
  brought n Compact number position b = absurd b
  brought n (Deliver k) number position b = absurd b
  brought n Tick number position b = absurd b
  brought n Idle number position b = absurd b

run_in : Events → Events
run_in First = First
run_in (Then p e) = p

event_in : Event → Events → Event
event_in d First = d
event_in d (Then p e) = e

then_run : (p q : Events) (e f : Event) → Then p e ≡ Then q f → p ≡ q
unfolding run_in
then_run p q e f same = ap run_in same

then_event : (p q : Events) (e f : Event) → Then p e ≡ Then q f → e ≡ f
unfolding event_in
then_event p q e f same = ap (event_in e) same

module _ (g : Given) (known : Known g) where
  abbrev book : Events → List Note
  book run = (world g.first run).book

  -- the ask is noted
  puts_noted : (q : Events) (f : Event) (i : NodeId) (number timeout : ℕ) (op : Op) → Performs f i (Ask number timeout op) → (rest : List Note) × (book (Then q f) ≡ book q ++ (Asked number i op ∷ rest))
  puts_noted q (At j a) i number timeout op p = subst (λ (w : NodeId). (rest : List Note) × (book (Then q (At j a)) ≡ book q ++ (Asked number w op ∷ rest))) p.0 (go ((world g.first q).nodes j) refl)
    where
      go : (s : NodeState) → (world g.first q).nodes j ≡ s → (rest : List Note) × (book (Then q (At j a)) ≡ book q ++ (Asked number j op ∷ rest))
      go (Running n) is =
          let rest = at_place g.first (place_of g.first n a) (turn g.first (world g.first q) n a).answers in
          (rest, ap (λ (w : World). w.book) (ap (happens_at g.first (world g.first q) j a) is) ∙ ap (λ (x : Act). book q ++ (note_of g.first j x ++ rest)) p.1)
      go (Down kept rest) is = ([], ap (λ (w : World). w.book) (ap (happens_at g.first (world g.first q) j a) is) ∙ ap (λ (x : Act). book q ++ note_of g.first j x) p.1)
  puts_noted q (Stop j a k) i number timeout op p = subst (λ (w : NodeId). (rest : List Note) × (book (Then q (Stop j a k)) ≡ book q ++ (Asked number w op ∷ rest))) p.0 (go ((world g.first q).nodes j) refl)
    where
      go : (s : NodeState) → (world g.first q).nodes j ≡ s → (rest : List Note) × (book (Then q (Stop j a k)) ≡ book q ++ (Asked number j op ∷ rest))
      go (Running n) is = ([], ap (λ (w : World). w.book) (ap (stops_at g.first (world g.first q) j a k) is) ∙ ap (λ (x : Act). book q ++ note_of g.first j x) p.1)
      go (Down kept rest) is = ([], ap (λ (w : World). w.book) (ap (stops_at g.first (world g.first q) j a k) is) ∙ ap (λ (x : Act). book q ++ note_of g.first j x) p.1)
  puts_noted q (Fail j a) i number timeout op p = subst (λ (w : NodeId). (rest : List Note) × (book (Then q (Fail j a)) ≡ book q ++ (Asked number w op ∷ rest))) p.0 (go ((world g.first q).nodes j) refl)
    where
      go : (s : NodeState) → (world g.first q).nodes j ≡ s → (rest : List Note) × (book (Then q (Fail j a)) ≡ book q ++ (Asked number j op ∷ rest))
      go (Running n) is = ([], ap (λ (w : World). w.book) (ap (fails_at g.first (world g.first q) j a) is) ∙ ap (λ (x : Act). book q ++ note_of g.first j x) p.1)
      go (Down kept rest) is = ([], ap (λ (w : World). w.book) (ap (fails_at g.first (world g.first q) j a) is) ∙ ap (λ (x : Act). book q ++ note_of g.first j x) p.1)
  puts_noted q (Start j k) i number timeout op p = absurd p
  puts_noted q (FailStart j k) i number timeout op p = absurd p
  puts_noted q (Clock moment) i number timeout op p = absurd p

  new_at : (q : Events) (f : Event) (i : NodeId) (number timeout : ℕ) (op : Op) → Performs f i (Ask number timeout op) → IsNumbered g.first (Then q f) → op_of (book q) number ≡ None
  new_at q f i number timeout op p numbered = subst (IsNew (book q)) (does_asked f i number timeout op p) numbered.1

module _ (g : Given) (known : Known g) (later : Rattle.rq_history.specs.Laws.LaterEntriesCover (Rattle.rq_raft.specs.Entries.entry_view log_entries)) where
  -- an ask isn't put twice
  again : (p r : Events) (e f : Event) (i j : NodeId) (number timeout timeout' : ℕ) (op op' : Op) → IsPast g.first (Then p e) r → IsNumbered g.first (Then r f) → Performs e i (Ask number timeout op) → Performs f j (Ask number timeout' op') → Prim.⊥
  again p r e f i j number timeout timeout' op op' past numbered x y =
      let n = puts_noted g known p e i number timeout op x in
      let first = numbered_past g known later (Then p e) r past numbered.0 in
      let there : op_of (book g known (Then p e)) number ≡ Some op = ap (λ (b : List Note). op_of b number) n.1 ∙ number_is g known.lead_on (book g known p) number i op n.0 (new_at g known p e i number timeout op x first) in
      let l = book_past g known later (Then p e) r past in
      let kept : op_of (book g known r) number ≡ Some op = ap (λ (b : List Note). op_of b number) l.1 ∙ op_kept (book g known (Then p e)) l.0 number op there in
      differ (sym (new_at g known r f j number timeout' op' y numbered) ∙ kept)
    where
      differ : None ≡ Some op → Prim.⊥
      differ e = cc

  asked_once : (run p q : Events) (e f : Event) (i j : NodeId) (number timeout timeout' : ℕ) (op op' : Op) → IsNumbered g.first run → IsPast g.first (Then p e) run → IsPast g.first (Then q f) run → Performs e i (Ask number timeout op) → Performs f j (Ask number timeout' op') → Then p e ≡ Then q f
  asked_once run p q e f i j number timeout timeout' op op' numbered a b x y = ⊎_elim
      (λ (o : IsPast g.first (Then p e) (Then q f)). ⊎_elim
      (λ (same : Then p e ≡ Then q f). same)
      (λ (past : IsPast g.first (Then p e) q). absurd (again p q e f i j number timeout timeout' op op' past (numbered_past g known later (Then q f) run b numbered) x y))
      o)
      (λ (o : IsPast g.first (Then q f) (Then p e)). ⊎_elim
      (λ (same : Then q f ≡ Then p e). sym same)
      (λ (past : IsPast g.first (Then q f) p). absurd (again q p f e j i number timeout' timeout op' op past (numbered_past g known later (Then p e) run a numbered) y x))
      o)
      (past_order g (Then p e) (Then q f) run a b)

  node_of : (n m : Node) → Running n ≡ Running m → n ≡ m
  node_of n m e = ap in_place e
    where
      in_place : NodeState → Node
      in_place (Running x) = x
      in_place (Down kept rest) = n

  grown_at : (run : Events) (number term index position : ℕ) → (x : IsAppended g.first run number term index position) → Grown g known.lead_on x.node (turn g.first (world g.first x.before) x.node x.act) x.entry
  grown_at run number term index position x = grown g known.lead_on x.node (turn g.first (world g.first x.before) x.node x.act) x.entry x.longer (act_grew g known.lead_on (world g.first x.before) x.node x.act number position x.brings)

  abbrev took : (run : Events) (number term index position : ℕ) → (x : IsAppended g.first run number term index position) → ByFlush g.first x.node x.act number position → Took g known later x.before x.event number position
  took run number term index position x f = record {
    who = x.who;
    does = subst (Performs x.event x.who) f.is x.does;
    node = x.node;
    runs = x.runs;
    held = f.held;
    found = f.found;
    number_is = f.number_is;
    entry = x.entry;
    longer = subst (λ (a : Act). (turn g.first (world g.first x.before) x.node a).node.raft.log ≡ x.node.raft.log ++ x.entry ∷ []) f.is x.longer;
  }

  -- one of a node's queue isn't taken twice
  took_once : (run p q : Events) (e f : Event) (number k l : ℕ) → IsNumbered g.first run → IsPast g.first (Then p e) run → IsPast g.first (Then q f) run → Took g known later p e number k → Took g known later q f number l → Then p e ≡ Then q f
  took_once run p q e f number k l numbered a b x y = ⊎_elim
      (λ (o : IsPast g.first (Then p e) (Then q f)). ⊎_elim
      (λ (same : Then p e ≡ Then q f). same)
      (λ (past : IsPast g.first (Then p e) q). let s = took_stands g known later q f number l y in absurd (gone g known later p e number k x q (numbered_past g known later (Then q f) run b numbered).0 past y.who l s.0))
      o)
      (λ (o : IsPast g.first (Then q f) (Then p e)). ⊎_elim
      (λ (same : Then q f ≡ Then p e). sym same)
      (λ (past : IsPast g.first (Then q f) p). let s = took_stands g known later p e number k x in absurd (gone g known later q f number l y p (numbered_past g known later (Then p e) run a numbered).0 past x.who k s.0))
      o)
      (past_order g (Then p e) (Then q f) run a b)

  -- an ask isn't appended both by itself and by a flush
  mixed : (run : Events) → IsNumbered g.first run → (number term index position term' index' position' : ℕ) → (x : IsAppended g.first run number term index position) (y : IsAppended g.first run number term' index' position') → ByAsk g.first x.act number position → ByFlush g.first y.node y.act number position' → Prim.⊥
  mixed run numbered number term index position term' index' position' x y f h =
      let does : Performs x.event x.who (Ask number f.timeout f.op) = subst (Performs x.event x.who) f.is x.does in
      let n = puts_noted g known x.before x.event x.who number f.timeout f.op does in
      let here2 = numbered_past g known later (Then x.before x.event) run x.past numbered in
      let there : op_of (book g known (Then x.before x.event)) number ≡ Some f.op = ap (λ (b : List Note). op_of b number) n.1 ∙ number_is g known.lead_on (book g known x.before) number x.who f.op n.0 (new_at g known x.before x.event x.who number f.timeout f.op does here2) in
      let l = book_past g known later (Then x.before x.event) run x.past in
      let one : op_of (book g known run) number ≡ Some f.op = ap (λ (b : List Note). op_of b number) l.1 ∙ op_kept (book g known (Then x.before x.event)) l.0 number f.op there in
      let np = numbered_past g known later (Then y.before y.event) run y.past numbered in
      let q = stands_asked g known later y.before np.0 y.who position' number (took_stands g known later y.before y.event number position' (took run number term' index' position' y h)).0 in
      let m = book_past g known later y.before run (past_one g y.before y.event run y.past) in
      let two : op_of (book g known run) number ≡ Some (Queue q.0 q.1) = ap (λ (b : List Note). op_of b number) m.1 ∙ op_kept (book g known y.before) m.0 number (Queue q.0 q.1) q.2 in
      let act : x.act ≡ Ask number f.timeout (Queue q.0 q.1) = f.is ∙ ap (Ask number f.timeout) (some f.op (Queue q.0 q.1) (sym one ∙ two)) in
      let same : x.node.raft.log ++ x.entry ∷ [] ≡ x.node.raft.log = sym x.longer ∙ ap (λ (a : Act). (turn g.first (world g.first x.before) x.node a).node.raft.log) act ∙ queued_same g known.lead_on x.node number (world g.first x.before).moment f.timeout q.0 q.1 in
      let len : length x.node.raft.log + 1 ≡ length x.node.raft.log = sym (length-append x.node.raft.log (x.entry ∷ [])) ∙ ap length same in
      absurd (omega (arith, len))
    where
      some : (a b : Op) → Some a ≡ Some b → a ≡ b
      some a b e = cc

  -- in one event
  same_event : (run : Events) (number other term index position term' index' position' : ℕ) → (x : IsAppended g.first run number term index position) (y : IsAppended g.first run other term' index' position') → Then x.before x.event ≡ Then y.before y.event
      → (x.before ≡ y.before) × (x.who ≡ y.who) × (x.act ≡ y.act) × (x.node ≡ y.node) × (term ≡ term') × (index ≡ index')
  same_event run number other term index position term' index' position' x y same =
      let runs : x.before ≡ y.before = then_run x.before y.before x.event y.event same in
      let does : Performs x.event y.who y.act = subst (λ (e : Event). Performs e y.who y.act) (sym (then_event x.before y.before x.event y.event same)) y.does in
      let d = does_one x.event x.who y.who x.act y.act x.does does in
      let here2 : Runs g.first y.before y.who x.node = subst (λ (i : NodeId). Runs g.first y.before i x.node) d.0 (subst (λ (r : Events). Runs g.first r x.who x.node) runs x.runs) in
      let node : x.node ≡ y.node = node_of x.node y.node (sym here2 ∙ y.runs) in
      let gx = grown_at run number term index position x in
      let gy = grown_at run other term' index' position' y in (
        runs,
        d.0,
        d.1,
        node,
        sym x.of_term ∙ gx.of_term ∙ ap (λ (n : Node). n.raft.term) node ∙ sym gy.of_term ∙ y.of_term,
        x.at ∙ ap (λ (n : Node). length n.raft.log + 1) node ∙ sym y.at,
      )

  pub once : (run : Events) → IsNumbered g.first run → (number term index position term' index' position' : ℕ) → IsAppended g.first run number term index position → IsAppended g.first run number term' index' position' → (term ≡ term') × (index ≡ index') × (position ≡ position')
  once run numbered number term index position term' index' position' x y = ⊎_elim
      (λ (f : ByAsk g.first x.act number position). ⊎_elim
      (λ (h : ByAsk g.first y.act number position').
      let same = asked_once run x.before y.before x.event y.event x.who y.who number f.timeout h.timeout f.op h.op numbered x.past y.past (subst (Performs x.event x.who) f.is x.does) (subst (Performs y.event y.who) h.is y.does) in
      let s = same_event run number number term index position term' index' position' x y same in
      (s.4, s.5, f.at ∙ sym h.at))
      (λ (h : ByFlush g.first y.node y.act number position'). absurd (mixed run numbered number term index position term' index' position' x y f h))
      (brought g.first y.node y.act number position' y.brings))
      (λ (f : ByFlush g.first x.node x.act number position). ⊎_elim
      (λ (h : ByAsk g.first y.act number position'). absurd (mixed run numbered number term' index' position' term index position y x h f))
      (λ (h : ByFlush g.first y.node y.act number position').
      let tx = took run number term index position x f in
      let ty = took run number term' index' position' y h in
      let same = took_once run x.before y.before x.event y.event number position position' numbered x.past y.past tx ty in
      let s = same_event run number number term index position term' index' position' x y same in
      let sx = (took_stands g known later x.before x.event number position tx).0 in
      let sy = (took_stands g known later y.before y.event number position' ty).0 in
      let np = numbered_past g known later (Then y.before y.event) run y.past numbered in
      (s.4, s.5, (unique g known later y.before np.0 x.who y.who position position' number (subst (λ (r : Events). Stands g known later r x.who position number) s.0 sx) sy).1))
      (brought g.first y.node y.act number position' y.brings))
      (brought g.first x.node x.act number position x.brings)

  leads_at : (run : Events) (number term index position : ℕ) → (x : IsAppended g.first run number term index position) → Leads g.first x.before x.who term x.node
  leads_at run number term index position x = let k = grown_at run number term index position x in record { runs = x.runs; role = k.leads; in_term = sym k.of_term ∙ x.of_term }

  -- a node that went down while it led a term doesn't lead it again
  module _ (down p : Events) (i : NodeId) (term : ℕ) (n : Node) (led : Leads g.first p i term n) (past : IsPast g.first p down) (nobody : (m : Node) → Runs g.first down i m → Prim.⊥) where
    stays_down : (run : Events) → IsNumbered g.first run → IsPast g.first down run → (m : Node) → Leads g.first run i term m → Prim.⊥
    stays_down First numbered at m lead = nobody m (subst (λ (r : Events). Runs g.first r i m) (sym at) lead.runs)
    stays_down (Then run e) numbered (inl same) m lead = nobody m (subst (λ (r : Events). Runs g.first r i m) (sym same) lead.runs)
    stays_down (Then run e) numbered (inr at) m lead = ⊎_elim
        (λ (a : Acted g known run e). acted_down a (stays_down run numbered.0 at))
        (λ (k : Still g known run e). ⊎_elim
        (λ (o : Runs g.first run i m). stays_down run numbered.0 at m (record { runs = o; role = lead.role; in_term = lead.in_term }))
        (λ (f : (m.raft.role ≡ Follower) × (m.queue ≡ [])). differ f.0 lead.role)
        (k.nodes i m lead.runs))
        (kind g known run e)
      where
        differ : m.raft.role ≡ Follower → m.raft.role ≡ Leader → Prim.⊥
        differ x y = cc

        acted_down : (a : Acted g known run e) → ((m : Node) → Leads g.first run i term m → Prim.⊥) → Prim.⊥
        acted_down a before = ⊎_elim
            (λ (x : (i ≡ a.who) × ((t g known run e a).node ≡ m)).
            let tl : (t g known run e a).node.raft.role ≡ Leader = ap (λ (y : Node). y.raft.role) x.1 ∙ lead.role in
            let tt : (t g known run e a).node.raft.term ≡ term = ap (λ (y : Node). y.raft.term) x.1 ∙ lead.in_term in
            ⊎_elim
            (λ (leads : a.node.raft.role ≡ Leader). before a.node (record { runs = subst (λ (j : NodeId). Runs g.first run j a.node) (sym x.0) a.runs; role = leads; in_term = sym ((pr g known run e a).on leads tl) ∙ tt }))
            (λ (comes : ((a.node.raft.role ≡ Candidate) × ((t g known run e a).node.raft.term ≡ a.node.raft.term)) ⊎ ((t g known run e a).node.raft.term ≡ a.node.raft.term + 1)).
            comes_once g known run e (sound g known.lead_on run numbered.0) a (new_number g known run e a numbered.1) (passed g known run numbered.0) term p i n (past_on g p down run past at) led tl tt comes)
            ((pr g known run e a).comes tl))
            (λ (o : Runs g.first run i m). before m (record { runs = o; role = lead.role; in_term = lead.in_term }))
            (who_runs g known run e a i m lead.runs)

  -- none is appended later at the same term and index
  no_later : (run : Events) → IsNumbered g.first run → (number other term index position position' : ℕ) → (x : IsAppended g.first run number term index position) (y : IsAppended g.first run other term index position') → IsPast g.first (Then x.before x.event) y.before → Prim.⊥
  no_later run numbered number other term index position position' x y past = ⊎_elim
      (λ (at : x.event ≡ At x.who x.act). went_on (subst (λ (e : Event). IsPast g.first (Then x.before e) y.before) at past))
      (λ (cut : ((k : ℕ) × (x.event ≡ Stop x.who x.act k)) ⊎ (x.event ≡ Fail x.who x.act)). ⊎_elim
      (λ (s : (k : ℕ) × (x.event ≡ Stop x.who x.act k)). is_down (λ m r. stopped g known later x.before x.who x.act s.0 x.node m x.runs (subst (λ (e : Event). Runs g.first (Then x.before e) x.who m) s.1 r)))
      (λ (f : x.event ≡ Fail x.who x.act). is_down (λ m r. failed g known later x.before x.who x.act x.node m x.runs (subst (λ (e : Event). Runs g.first (Then x.before e) x.who m) f r)))
      cut)
      (does_kind x.event x.who x.act x.does)
    where
      lx : Leads g.first x.before x.who term x.node
      lx = leads_at run number term index position x

      ly : Leads g.first y.before y.who term y.node
      ly = leads_at run other term index position' y

      y_past : IsPast g.first y.before run
      y_past = past_one g y.before y.event run y.past

      who : x.who ≡ y.who
      who = one_leader g run x.before y.before (past_one g x.before x.event run x.past) y_past x.who y.who term x.node y.node lx ly

      is_down : ((m : Node) → Runs g.first (Then x.before x.event) x.who m → Prim.⊥) → Prim.⊥
      is_down nobody = stays_down (Then x.before x.event) x.before x.who term x.node lx (inr (here g x.before)) nobody y.before (numbered_past g known later y.before run y_past numbered) past y.node (subst (λ (i : NodeId). Leads g.first y.before i term y.node) (sym who) ly)

      went_on : IsPast g.first (Then x.before (At x.who x.act)) y.before → Prim.⊥
      went_on past =
          let tx = turn g.first (world g.first x.before) x.node x.act in
          let up = Rattle.rq_world.proofs.Promises.next_up g known.lead_on x.before x.who x.node x.act x.runs in
          let h = sim_of g y.before in
          let was = was_in g y.before (Then x.before (At x.who x.act)) past x.who tx.node up in
          let f : Refines log_entries h.history x.who y.node.raft = subst (λ (i : NodeId). Refines log_entries h.history i y.node.raft) (sym who) (fits_in g y.before y.who y.node y.runs) in
          let before : WasBefore h.history x.who (history_node tx.node.raft) (history_node y.node.raft) = subst (λ (z : HistoryNode LogEntry). WasBefore h.history x.who (history_node tx.node.raft) z) f.is ((g.moments h.history x.who).2 (history_node tx.node.raft) was) in
          let k = grown_at run number term index position x in
          let first_part = (g.leaders_grow (voters g.first) h.history h.fit.lawful x.who (history_node tx.node.raft) (history_node y.node.raft) before (ap role_of k.still) (ap role_of ly.role) (k.same ∙ lx.in_term ∙ sym ly.in_term)).0 in
          let l : length tx.node.raft.log ≡ length x.node.raft.log + 1 = ap length x.longer ∙ length-append x.node.raft.log (x.entry ∷ []) in
          let le = sym (length-take (length tx.node.raft.log) y.node.raft.log) ∙ ap length first_part in
          omega (arith, l, le, x.at, y.at)

  pub apart : (run : Events) → IsNumbered g.first run → (number other term index position : ℕ) → IsAppended g.first run number term index position → IsAppended g.first run other term index position → number ≡ other
  apart run numbered number other term index position x y = ⊎_elim
      (λ (o : IsPast g.first (Then x.before x.event) (Then y.before y.event)). ⊎_elim
      (λ (same : Then x.before x.event ≡ Then y.before y.event). in_one same)
      (λ (past : IsPast g.first (Then x.before x.event) y.before). absurd (no_later run numbered number other term index position position x y past))
      o)
      (λ (o : IsPast g.first (Then y.before y.event) (Then x.before x.event)). ⊎_elim
      (λ (same : Then y.before y.event ≡ Then x.before x.event). in_one (sym same))
      (λ (past : IsPast g.first (Then y.before y.event) x.before). absurd (no_later run numbered other number term index position position y x past))
      o)
      (past_order g (Then x.before x.event) (Then y.before y.event) run x.past y.past)
    where
      numbers_of : Act → ℕ
      numbers_of (Ask k timeout op) = k
      numbers_of Elect = 0
      numbers_of Beat = 0
      numbers_of Flush = 0
      numbers_of Apply = 0
      numbers_of Compact = 0
      numbers_of (Deliver k) = 0
      numbers_of Tick = 0
      numbers_of Idle = 0

      differ : (k timeout : ℕ) (op : Op) → Ask k timeout op ≡ Flush → Prim.⊥
      differ k timeout op e = cc

      some : (a b : QueuedWrite) → Some a ≡ Some b → a ≡ b
      some a b e = cc

      in_one : Then x.before x.event ≡ Then y.before y.event → number ≡ other
      in_one same =
          let s = same_event run number other term index position term index position x y same in
          ⊎_elim
          (λ (f : ByAsk g.first x.act number position). ⊎_elim
          (λ (h : ByAsk g.first y.act other position). ap numbers_of (sym f.is ∙ s.2 ∙ h.is))
          (λ (h : ByFlush g.first y.node y.act other position). absurd (differ number f.timeout f.op (sym f.is ∙ s.2 ∙ h.is)))
          (brought g.first y.node y.act other position y.brings))
          (λ (f : ByFlush g.first x.node x.act number position). ⊎_elim
          (λ (h : ByAsk g.first y.act other position). absurd (differ other h.timeout h.op (sym h.is ∙ sym s.2 ∙ f.is)))
          (λ (h : ByFlush g.first y.node y.act other position).
          let q : f.held ≡ h.held = some f.held h.held (sym f.found ∙ ap (λ (n : Node). slice_get (batch g.first n) position) s.3 ∙ h.found) in
          sym f.number_is ∙ ap (λ (z : QueuedWrite). z.number) q ∙ h.number_is)
          (brought g.first y.node y.act other position y.brings))
          (brought g.first x.node x.act number position x.brings)

  pub each_ask : EachAskAppendsOnce g.first
  each_ask run numbered = record {
    one = λ node moment act number position b. at_most node (world g.first moment) act number position b;
    once = once run numbered;
    apart = apart run numbered;
  }
    where
      at_most : (n : Node) (w : World) (a : Act) (number position : ℕ) → AppendsFor g.first n a number position → ((turn g.first w n a).node.raft.log ≡ n.raft.log) ⊎ ((entry : LogEntry) × ((turn g.first w n a).node.raft.log ≡ n.raft.log ++ entry ∷ []))
      at_most n w a number position b = ⊎_elim
          (λ (s : (turn g.first w n a).node.raft.log ≡ n.raft.log). inl s)
          (λ (e : (e : LogEntry) × ((turn g.first w n a).node.raft.log ≡ n.raft.log ++ e ∷ []) × (e.term ≡ n.raft.term) × (n.raft.role ≡ Leader) × ((turn g.first w n a).node.raft.role ≡ Leader) × ((turn g.first w n a).node.raft.term ≡ n.raft.term)). inr (e.0, e.1))
          (act_grew g known.lead_on w n a number position b)
