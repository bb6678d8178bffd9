-- What waits for an entry waits for one that its node hasn't applied.
use Rattle.std.proofs.Common.{◌≡◌, ◌⊎◌, ◌<◌, ◌≤◌, ℕ, ◌+◌, ◌==◌, ◌&&◌, true, false, Option, Some, None, List, [], ◌∷◌, length, slice_get, refl, sym, ◌∙◌, ap, subst, inl, inr, ⊎_elim, arith}
use Rattle.std.specs.Prelude.{nat_lt, nat_le, not, bytes_eq}
use Rattle.std.proofs.lemmas.Bool.Decides.{nat_tests}
use Rattle.rq_statement.specs.declared.item.Item.{Item}
use Rattle.rq_statement.specs.Bytes.{command_bytes}
use Rattle.rq_statement.specs.declared.command.Command.{Command}
use Rattle.rq_statement.specs.declared.command.Command.TheVariants.{Execute, StrongQuery}
use Rattle.rq_request.specs.declared.ask.Level.{Level}
use Rattle.rq_request.specs.declared.ask.Level.TheVariants as level
use Rattle.rq_request.specs.declared.say.Say.TheVariants.{Refused}
use Rattle.rq_request.specs.declared.say.NodeRefusal.TheVariants.{NoLeader, Stale, EntryTooLarge, QueuedTooLarge, QueueFull}
use Rattle.rq_history.specs.History.{NodeId}
use Rattle.rq_raft.specs.declared.role.Role.{Role}
use Rattle.rq_raft.specs.declared.role.Role.TheVariants.{Follower, Candidate, Leader}
use Rattle.rq_raft.specs.Node.{RaftNode, Message, VoteAsk, VoteSay, Append, AppendSay, Install, InstallSay, Packet, RaftTurn, is_leader}
use Rattle.rq_raft.specs.Laws.{Installed}
use Rattle.rq_raft.specs.Vote as vote
use Rattle.rq_raft.specs.Lead as lead
use Rattle.rq_raft.specs.Deliver as deliver
use Rattle.rq_raft.specs.Install as install
use Rattle.rq_world.specs.declared.log_entry.LogEntry.{LogEntry}
use Rattle.rq_world.specs.declared.waiting.Waiting.{Waiting}
use Rattle.rq_world.specs.Node.{Node, log_entries, Turn, unchanged, says, replica_of}
use Rattle.rq_world.specs.Reads.{begin, is_stale, limit_of}
use Rattle.rq_world.specs.Rules.{max_command_bytes, max_queued_bytes, queue_capacity, write_command, enqueued, if_not_full, if_not_too_large, flushed, batch_entry, steps_down, stays_on, raft_turn, reads, counts, with_reads, receive, appended_for, proposed, if_leads, query, begun, read, still_waiting, applied_entry}
use Rattle.rq_world.specs.World.{Op, Write, Queue, Read, Act, Ask, Elect, Beat, Flush, Apply, Compact, Deliver, Tick, Idle, Event, Run as Events, First, Then, world, act}
use Rattle.rq_world.specs.Laws.{Runs}
use Rattle.rq_world.specs.Promise.{IsNumbered}
use Rattle.rq_world.specs.Asks.{EachWaitIsAhead}
use Rattle.rq_world.proofs.Tests.{if_case, and_true}
use Rattle.rq_world.proofs.Given.{Given}
use Rattle.rq_world.proofs.Safety.{here, done, fits}
use Rattle.rq_world.proofs.Waits.{Ascends, AllAbove}
use Rattle.rq_world.proofs.Answering.{HasWaiting, has_at, WaitingFrom, act_gives}
use Rattle.rq_world.proofs.Promises.{Sound, sound}
use Rattle.rq_world.proofs.Passes.{Known}
use Rattle.rq_world.proofs.Covering.{Acted, Still, kind, t, who_runs}
use Rattle.rq_world.proofs.Acknowledged.{has_lead}

-- ---- lists of what waits

above_has : (w v : Waiting) (ws : List Waiting) → AllAbove w ws → HasWaiting v ws → w.index ≤ v.index
above_has w v [] all h = absurd h
above_has w v (x ∷ ws) all (inl e) = by (subst (λ (y : Waiting). Rattle.rq_world.proofs.Waits.Above w y) e all.0)
  where
    by : Rattle.rq_world.proofs.Waits.Above w v → w.index ≤ v.index
    by (inl lt) = omega (arith, lt)
    by (inr same) = omega (arith, same.0)
above_has w v (x ∷ ws) all (inr h) = above_has w v ws all.1 h

-- behind an apply what still waits waits for a later entry
still_ahead : (index : ℕ) (w : Waiting) (ws : List Waiting) → Ascends ws → ((v : Waiting) → HasWaiting v ws → index ≤ v.index) → HasWaiting w (still_waiting index ws) → index < w.index
still_ahead index w [] order ahead h = absurd h
still_ahead index w (x ∷ ws) order ahead h =
    if_case (λ (l : List Waiting). HasWaiting w l → index < w.index) (x.index == index) (still_waiting index ws) (x ∷ ws)
    (λ e. still_ahead index w ws order.1 (λ v i. ahead v (inr i)))
    (λ e. later e)
    h
  where
    later : (x.index == index) ≡ false → HasWaiting w (x ∷ ws) → index < w.index
    later e (inl same) = let le = ahead x (inl refl) in let lt : index < x.index = grind (arith, nat_tests, e, le) in subst (λ (y : Waiting). index < y.index) same lt
    later e (inr i) = let le = ahead x (inl refl) in let lt : index < x.index = grind (arith, nat_tests, e, le) in let up = above_has x w ws order.0 i in omega (arith, lt, up)

-- ---- turns that apply nothing

module _ (g : Given) (known : Known g) where
  abbrev Same : Node → Turn → Type 0
  Same n t = t.node.raft.applied ≡ n.raft.applied

  turned_same : (n : Node) (r : RaftTurn LogEntry) → r.node.applied ≡ n.raft.applied → Same n (raft_turn n r)
  turned_same n r e = if_case (Same n) (is_leader n.raft.role && not (is_leader r.node.role)) (steps_down n r) (stays_on n r) (λ _. e) (λ _. e)

  leads_yes : (r : Role) → is_leader r ≡ true → r ≡ Leader
  leads_yes Follower e = absurd (cc)
  leads_yes Candidate e = absurd (cc)
  leads_yes Leader e = refl

  led_same : (n : Node) (number : ℕ) (t : Turn) → (n.raft.role ≡ Leader → Same n t) → Same n (if_leads g.first n number t)
  led_same n number t f = if_case (Same n) (is_leader n.raft.role) t (says n number (Refused (NoLeader n.raft.term))) (λ q. f (leads_yes n.raft.role q)) (λ _. refl)

  proposed_same : (n : Node) (number moment timeout : ℕ) (command : Command) (size : ℕ) → n.raft.role ≡ Leader → Same n (proposed g.first n number moment timeout command size)
  proposed_same n number moment timeout command size leads = if_case (Same n) (nat_lt max_command_bytes size) (says n number (Refused (EntryTooLarge size))) (appended_for g.first n number moment timeout (record { term = n.raft.term; command = command }))
      (λ _. refl) (λ _. (known.lead_on.proposes n.raft (record { term = n.raft.term; command = command }) leads).0)

  read_same : (n : Node) (number moment timeout : ℕ) (items : List Item) (l : Level) (limit : Option ℕ) → Same n (read g.first n number moment timeout items l limit)
  read_same n number moment timeout items level.None limit = if_case (Same n) (is_stale n.raft limit moment) (says n number (Refused (Stale n.raft.contact moment (limit_of limit)))) (query g.first n number items) (λ _. refl) (λ _. refl)
  read_same n number moment timeout items level.Weak limit = led_same n number (query g.first n number items) (λ _. refl)
  read_same n number moment timeout items level.Linearizable limit = led_same n number (reads g.first (begun g.first n number moment timeout items (begin g.first n.raft))) (λ _. (known.lead_on.beats n.raft).0)
  read_same n number moment timeout items level.Strong limit = led_same n number (proposed g.first n number moment timeout (StrongQuery items) (length (command_bytes (StrongQuery items)))) (proposed_same n number moment timeout (StrongQuery items) (length (command_bytes (StrongQuery items))))

  ask_same : (sent : List (Packet LogEntry)) (moment : ℕ) (n : Node) (number timeout : ℕ) (op : Op) → Same n (act g.first sent moment n (Ask number timeout op))
  ask_same sent moment n number timeout (Write list mixed) = led_same n number (proposed g.first n number moment timeout (write_command list mixed) (length (command_bytes (write_command list mixed)))) (proposed_same n number moment timeout (write_command list mixed) (length (command_bytes (write_command list mixed))))
  ask_same sent moment n number timeout (Queue list wait) =
      let size = length (command_bytes (Execute list)) in
      let held = length n.queue in
      let put = enqueued g.first n number moment timeout list wait in
      led_same n number (if_not_too_large g.first n number size (if_not_full g.first n number put)) (λ _.
      if_case (Same n) (nat_lt max_queued_bytes size) (says n number (Refused (QueuedTooLarge size))) (if_not_full g.first n number put) (λ _. refl)
      (λ _. if_case (Same n) (nat_le queue_capacity held) (says n number (Refused (QueueFull held))) put (λ _. refl) (λ _. refl)))
  ask_same sent moment n number timeout (Read items l limit) = read_same n number moment timeout items l limit

  flush_same : (sent : List (Packet LogEntry)) (moment : ℕ) (n : Node) → Same n (act g.first sent moment n Flush)
  flush_same sent moment n = if_case (Same n) (is_leader n.raft.role && nat_lt 0 (length n.queue)) (flushed g.first n) (unchanged n)
      (λ e. (known.lead_on.proposes n.raft (batch_entry g.first n) (leads_yes n.raft.role ((and_true (is_leader n.raft.role) (nat_lt 0 (length n.queue)) e).0))).0) (λ _. refl)

  compact_same : (n : Node) → (install.compact n.raft).node.applied ≡ n.raft.applied
  compact_same n = if_case (λ (r : RaftTurn LogEntry). r.node.applied ≡ n.raft.applied) (nat_lt n.raft.base n.raft.applied) (record { node = record n.raft { base = n.raft.applied }; stored = Rattle.rq_raft.specs.Node.Replace n.raft.applied n.raft.log ∷ []; packets = [] }) (Rattle.rq_raft.specs.Node.unchanged n.raft) (λ _. refl) (λ _. refl)

  -- ---- a packet, at a node that leads behind it

  with_raft : (n : Node) (p : Packet LogEntry) (m : Message LogEntry) (t : Turn) → (with_reads g.first n p m t).node.raft ≡ t.node.raft
  with_raft n p (VoteAsk last_index last_term) t = refl
  with_raft n p (VoteSay granted) t = refl
  with_raft n p (Append prev prev_term commit probe es) t = refl
  with_raft n p (AppendSay ok at probe) t = if_case (λ (x : Turn). x.node.raft ≡ t.node.raft) (counts g.first n p at) (reads g.first t) t (λ _. refl) (λ _. refl)
  with_raft n p (Install probe list) t = if_case (λ (x : Turn). x.node.raft ≡ t.node.raft) (nat_lt n.raft.applied t.node.raft.applied) (record t { node = record t.node { replica = replica_of g.first list } }) t (λ _. refl) (λ _. refl)
  with_raft n p (InstallSay at probe) t = if_case (λ (x : Turn). x.node.raft ≡ t.node.raft) (counts g.first n p at) (reads g.first t) t (λ _. refl) (λ _. refl)

  turned_raft : (n : Node) (r : RaftTurn LogEntry) → (raft_turn n r).node.raft ≡ r.node
  turned_raft n r = if_case (λ (x : Turn). x.node.raft ≡ r.node) (is_leader n.raft.role && not (is_leader r.node.role)) (steps_down n r) (stays_on n r) (λ _. refl) (λ _. refl)

  rises : (n r : RaftNode LogEntry) (m : Message LogEntry) (turn : RaftTurn LogEntry) → turn.node ≡ r → (r.applied ≡ n.applied) ⊎ Installed log_entries g.first n m turn → r.role ≡ Leader → r.applied ≡ n.applied
  rises n r m turn is (inl same) leads = same
  rises n r (VoteAsk last_index last_term) turn is (inr x) leads = absurd x
  rises n r (VoteSay granted) turn is (inr x) leads = absurd x
  rises n r (Append prev prev_term commit probe es) turn is (inr x) leads = absurd x
  rises n r (AppendSay ok at probe) turn is (inr x) leads = absurd x
  rises n r (Install probe list) turn is (inr x) leads = absurd (differ (sym leads ∙ ap (λ (y : RaftNode LogEntry). y.role) (sym is) ∙ x.3))
    where
      differ : Leader ≡ Follower → Prim.⊥
      differ e = cc
  rises n r (InstallSay at probe) turn is (inr x) leads = absurd x

  receive_same : (moment : ℕ) (n : Node) (o : Option (Packet LogEntry)) → (receive g.first n moment o).node.raft.role ≡ Leader → Same n (receive g.first n moment o)
  receive_same moment n None leads = refl
  receive_same moment n (Some p) leads =
      let r = deliver.receive log_entries g.first n.raft moment p in
      if_case (λ (x : Turn). x.node.raft.role ≡ Leader → Same n x) (bytes_eq p.to n.raft.id) (with_reads g.first n p p.message (raft_turn n r)) (unchanged n)
      (λ _ leads.
      let is = with_raft n p p.message (raft_turn n r) ∙ turned_raft n r in
      ap (λ (y : RaftNode LogEntry). y.applied) is ∙ rises n.raft r.node p.message r refl (known.lead_on.receives n.raft moment p).0 (ap (λ (y : RaftNode LogEntry). y.role) (sym is) ∙ leads))
      (λ _ leads. refl)
      leads

  -- ---- acts

  -- at a node that leads behind the act, what waited and waits still waits for a later entry
  act_ahead : (sent : List (Packet LogEntry)) (moment : ℕ) (n : Node) (a : Act) (w : Waiting) → Ascends n.waiting → ((v : Waiting) → HasWaiting v n.waiting → n.raft.applied < v.index) → (act g.first sent moment n a).node.raft.role ≡ Leader
      → HasWaiting w n.waiting → HasWaiting w (act g.first sent moment n a).node.waiting → (act g.first sent moment n a).node.raft.applied < w.index
  act_ahead sent moment n (Ask number timeout op) w order ahead leads h i = let s = ask_same sent moment n number timeout op in omega (arith, s, ahead w h)
  act_ahead sent moment n Elect w order ahead leads h i = let s = turned_same n (vote.elect log_entries g.first n.raft) (known.lead_on.elects n.raft).0 in omega (arith, s, ahead w h)
  act_ahead sent moment n Beat w order ahead leads h i = let s = turned_same n (lead.beat log_entries g.first n.raft) (known.lead_on.beats n.raft).0 in omega (arith, s, ahead w h)
  act_ahead sent moment n Flush w order ahead leads h i = let s = flush_same sent moment n in omega (arith, s, ahead w h)
  act_ahead sent moment n Apply w order ahead leads h i = if_case (λ (x : Turn). HasWaiting w x.node.waiting → x.node.raft.applied < w.index) (nat_lt n.raft.applied n.raft.commit) (applied_entry g.first n (slice_get n.raft.log n.raft.applied)) (unchanged n)
      (λ e. entry (slice_get n.raft.log n.raft.applied)) (λ e j. ahead w h) i
    where
      entry : (o : Option LogEntry) → HasWaiting w (applied_entry g.first n o).node.waiting → (applied_entry g.first n o).node.raft.applied < w.index
      entry None i = ahead w h
      entry (Some e) i = still_ahead (n.raft.applied + 1) w n.waiting order (λ v has. let lt = ahead v has in omega (arith, lt)) i
  act_ahead sent moment n Compact w order ahead leads h i = let s = turned_same n (install.compact n.raft) (compact_same n) in omega (arith, s, ahead w h)
  act_ahead sent moment n (Deliver k) w order ahead leads h i = let s = receive_same moment n (slice_get sent k) leads in omega (arith, s, ahead w h)
  act_ahead sent moment n Tick w order ahead leads h i = ahead w h
  act_ahead sent moment n Idle w order ahead leads h i = ahead w h

  -- ---- runs

  abbrev AreAhead : Events → Type 0
  AreAhead run = (i : NodeId) (n : Node) → Runs g.first run i n → (w : Waiting) → HasWaiting w n.waiting → n.raft.applied < w.index

  module _ (run : Events) (e : Event) (numbered : IsNumbered g.first (Then run e)) (so_far : AreAhead run) where
    abbrev next : Sound g known.lead_on (Then run e)
    next = sound g known.lead_on (Then run e) numbered

    module _ (a : Acted g known run e) where
      abbrev turned : Turn
      turned = act g.first (world g.first run).sent (world g.first run).moment a.node a.act

      from : (w : Waiting) → turned.node.raft.role ≡ Leader → HasWaiting w turned.node.waiting → WaitingFrom g a.node a.act w → turned.node.raft.applied < w.index
      from w leads i (inl h) = act_ahead (world g.first run).sent (world g.first run).moment a.node a.act w ((sound g known.lead_on run numbered.0).serve a.who a.node a.runs).order (λ v has. so_far a.who a.node a.runs v has) leads h i
      from w leads i (inr (inl n)) =
          let s : turned.node.raft.applied ≡ a.node.raft.applied = subst (λ (x : Act). (act g.first (world g.first run).sent (world g.first run).moment a.node x).node.raft.applied ≡ a.node.raft.applied) (sym n.act) (ask_same (world g.first run).sent (world g.first run).moment a.node w.number w.timeout n.op) in
          let d = done g run a.who a.node a.runs in
          let f = fits g run run (here g run) a.who a.node a.runs in
          omega (arith, s, d, f, n.index)
      from w leads i (inr (inr n)) =
          let s : turned.node.raft.applied ≡ a.node.raft.applied = subst (λ (x : Act). (act g.first (world g.first run).sent (world g.first run).moment a.node x).node.raft.applied ≡ a.node.raft.applied) (sym n.act) (flush_same (world g.first run).sent (world g.first run).moment a.node) in
          let d = done g run a.who a.node a.runs in
          let f = fits g run run (here g run) a.who a.node a.runs in
          omega (arith, s, d, f, n.index)

      acted_ahead : AreAhead (Then run e)
      acted_ahead j m up w h = ⊎_elim
          (λ (p : (j ≡ a.who) × (turned.node ≡ m)).
          let leads = has_lead g.first (world g.first (Then run e)).book m (next.serve j m up) w h in
          let has : HasWaiting w turned.node.waiting = subst (λ (y : Node). HasWaiting w y.waiting) (sym p.1) h in
          subst (λ (y : Node). y.raft.applied < w.index) p.1
          (from w (subst (λ (y : Node). y.raft.role ≡ Leader) (sym p.1) leads) has ((act_gives g known.lead_on (world g.first run).sent (world g.first run).moment a.node a.act).waitings w has)))
          (λ (o : Runs g.first run j m). so_far j m o w h)
          (who_runs g known run e a j m up)

    still_are : Still g known run e → AreAhead (Then run e)
    still_are k j m up w h = ⊎_elim
        (λ (o : Runs g.first run j m). so_far j m o w h)
        (λ (f : (m.raft.role ≡ Follower) × (Rattle.rq_world.specs.Node.Node.queue m ≡ [])). absurd (subst (HasWaiting w) ((next.serve j m up).idle (λ q. differ m f.0 q)).0 h))
        (k.nodes j m up)
      where
        differ : (m : Node) → m.raft.role ≡ Follower → m.raft.role ≡ Leader → Prim.⊥
        differ m x y = cc

    step_ahead : AreAhead (Then run e)
    step_ahead = ⊎_elim (λ (a : Acted g known run e). acted_ahead a) (λ (k : Still g known run e). still_are k) (kind g known run e)

  are_ahead : (run : Events) → IsNumbered g.first run → AreAhead run
  are_ahead First numbered i n up w h = absurd (cc)
  are_ahead (Then run e) numbered i n up w h = step_ahead run e numbered (are_ahead run numbered.0) i n up w h

  pub each_wait : EachWaitIsAhead g.first
  each_wait run numbered i n up k w at = are_ahead run numbered i n up w (has_at w n.waiting k at)
