-- Passes cover what was committed before them.
use Rattle.std.proofs.Common.{◌≡◌, ◌⊎◌, ◌≤◌, ℕ, ◌+◌, ◌&&◌, not, List, [], ◌∷◌, length, Bool, slice_get, true, Option, Some, None, refl, sym, ◌∙◌, ap, subst, inl, arith}
use Rattle.std.specs.Prelude.{nat_lt, nat_le, drop, bytes_eq}
use Rattle.rq_statement.specs.Statements.{Statements}
use Rattle.rq_statement.specs.declared.item.Item.{Item}
use Rattle.rq_request.specs.declared.say.Say.TheVariants.{Refused}
use Rattle.rq_request.specs.declared.say.NodeRefusal.TheVariants.{NoLeader, Stale, EntryTooLarge, QueuedTooLarge, QueueFull}
use Rattle.rq_statement.specs.Bytes.{command_bytes}
use Rattle.rq_history.specs.Laws.{LeadersCover, TimeGoesOn, LeadersDontStandAgain}
use Rattle.rq_raft.specs.declared.role.Role.{Role}
use Rattle.rq_raft.specs.declared.role.Role.TheVariants.{Follower, Candidate, Leader}
use Rattle.rq_raft.specs.Entries.{entry_view}
use Rattle.rq_raft.specs.Node.{RaftNode, Message, VoteAsk, VoteSay, Append, AppendSay, Install, InstallSay, Packet, RaftTurn, unchanged as raft_quiet, is_leader}
use Rattle.rq_raft.specs.Lead as lead
use Rattle.rq_raft.specs.Vote as vote
use Rattle.rq_raft.specs.Deliver as deliver
use Rattle.rq_raft.specs.Laws.{LeadOn}
use Rattle.rq_raft.specs.Probes.{Hearing, heard_by, AllHeard, AllSigned, SaysHeard, Probes, Comes, LeadersCome, KeepProbes}
use Rattle.rq_world.specs.declared.log_entry.LogEntry.{LogEntry}
use Rattle.rq_statement.specs.declared.command.Command.{Command}
use Rattle.rq_statement.specs.declared.command.Command.TheVariants.{Execute, StrongQuery}
use Rattle.rq_world.specs.declared.waiting.Waiting.{Waiting}
use Rattle.rq_request.specs.declared.ask.Level.{Level}
use Rattle.rq_request.specs.declared.ask.Level.TheVariants as level
use Rattle.rq_world.specs.Node.{QueuedWrite, Node, log_entries, Turn, unchanged, says, replica_of}
use Rattle.rq_world.specs.Reads.{begin, is_stale, limit_of}
use Rattle.rq_world.specs.Rules.{max_command_bytes, steps_down, stays_on, raft_turn, reads, counts, with_reads, receive, max_queued_bytes, queue_capacity, max_batch, appends, appended_for, enqueued, if_not_full, if_not_too_large, enqueue, batch, batch_waits, batch_entry, flushed, flush, proposed, if_leads, query, begun, read, tick, applied_command, applied_entry, apply, compact, write, write_command}
use Rattle.rq_world.specs.World.{Write, Queue, Read, Act, Ask, Elect, Beat, Flush, Apply, Compact, Deliver, Tick, Idle, act}
use Rattle.rq_world.proofs.Tests.{if_case, and_true}
use Rattle.rq_world.proofs.Given.{Given}

-- what is known of the probes
pub record Known (g : Given) : Type 0 where
  pub lead_on : LeadOn log_entries g.first
  pub probes : KeepProbes log_entries g.first
  pub come : LeadersCome log_entries g.first
  pub time_goes_on : TimeGoesOn (entry_view log_entries)
  pub stand_once : LeadersDontStandAgain (entry_view log_entries)
  pub leaders_cover : LeadersCover (entry_view log_entries)

-- what an act does to the probes
pub record Probed (sent : List (Packet LogEntry)) (n : Node) (t : Turn) : Type 0 where
  pub delivered : Option (Packet LogEntry)
  pub in_sent : (p : Packet LogEntry) → delivered ≡ Some p → (k : ℕ) × (slice_get sent k ≡ Some p)
  pub id : t.node.raft.id ≡ n.raft.id
  pub signed : AllSigned t.node.raft delivered t.packets
  pub rises : n.raft.role ≡ Leader → t.node.raft.role ≡ Leader → n.raft.probe ≤ t.node.raft.probe
  pub on : n.raft.role ≡ Leader → t.node.raft.role ≡ Leader → t.node.raft.term ≡ n.raft.term
  pub comes : t.node.raft.role ≡ Leader → (n.raft.role ≡ Leader) ⊎ ((n.raft.role ≡ Candidate) × (t.node.raft.term ≡ n.raft.term)) ⊎ (t.node.raft.term ≡ n.raft.term + 1)
  pub hears : (hearing : Hearing LogEntry) (mark : ℕ) → (n.raft.role ≡ Leader → (p : Packet LogEntry) → delivered ≡ Some p → SaysHeard (heard_by hearing) mark n.raft.term p p.message) → (n.raft.role ≡ Leader → AllHeard (heard_by hearing) mark n.raft.peers)
      → t.node.raft.role ≡ Leader → AllHeard (heard_by hearing) mark t.node.raft.peers

module _ (g : Given) (known : Known g) where
  none_sent : (sent : List (Packet LogEntry)) (p : Packet LogEntry) → None ≡ Some p → (k : ℕ) × (slice_get sent k ≡ Some p)
  none_sent sent p e = absurd (cc)

  -- the node's term, role and tables stay
  same_probed : (sent : List (Packet LogEntry)) (n : Node) (t : Turn) → (m : RaftNode LogEntry) → t.node.raft ≡ m → m.id ≡ n.raft.id → m.term ≡ n.raft.term → m.role ≡ n.raft.role → m.probe ≡ n.raft.probe → m.peers ≡ n.raft.peers → t.packets ≡ [] → Probed sent n t
  same_probed sent n t m is a b c d e f = record {
    delivered = None;
    in_sent = λ p q. none_sent sent p q;
    id = ap (λ (x : RaftNode LogEntry). x.id) is ∙ a;
    signed = subst (λ (ps : List (Packet LogEntry)). AllSigned t.node.raft None ps) (sym f) tt;
    rises = λ x y. omega (arith, ap (λ (x : RaftNode LogEntry). x.probe) is ∙ d);
    on = λ x y. ap (λ (x : RaftNode LogEntry). x.term) is ∙ b;
    comes = λ x. inl (sym c ∙ sym (ap (λ (x : RaftNode LogEntry). x.role) is) ∙ x);
    hears = λ hearing mark new old x. subst (AllHeard (heard_by hearing) mark) (sym (ap (λ (x : RaftNode LogEntry). x.peers) is ∙ e)) (old (sym c ∙ sym (ap (λ (x : RaftNode LogEntry). x.role) is) ∙ x));
  }

  -- a turn of rq_raft
  pub record RaftProbed (sent : List (Packet LogEntry)) (n : Node) (r : RaftTurn LogEntry) : Type 0 where
    pub d : Option (Packet LogEntry)
    pub in_sent : (p : Packet LogEntry) → d ≡ Some p → (k : ℕ) × (slice_get sent k ≡ Some p)
    pub probes : Probes n.raft d r
    pub on : n.raft.role ≡ Leader → r.node.role ≡ Leader → r.node.term ≡ n.raft.term
    pub comes : Comes n.raft r
    pub hears : (hearing : Hearing LogEntry) (mark : ℕ) → (n.raft.role ≡ Leader → (p : Packet LogEntry) → d ≡ Some p → SaysHeard (heard_by hearing) mark n.raft.term p p.message) → (n.raft.role ≡ Leader → AllHeard (heard_by hearing) mark n.raft.peers)
        → r.node.role ≡ Leader → AllHeard (heard_by hearing) mark r.node.peers

  raft_probed : (sent : List (Packet LogEntry)) (n : Node) (r : RaftTurn LogEntry) → RaftProbed sent n r → (t : Turn) → t.node.raft ≡ r.node → t.packets ≡ r.packets → Probed sent n t
  raft_probed sent n r a t node packets = subst (λ (m : RaftNode LogEntry). t.node.raft ≡ m → Probed sent n t) node (λ e. made) node
    where
      back : r.node ≡ t.node.raft
      back = sym node

      made : Probed sent n t
      made = record {
        delivered = a.d;
        in_sent = a.in_sent;
        id = ap (λ (x : RaftNode LogEntry). x.id) node ∙ a.probes.id;
        signed = subst (λ (ps : List (Packet LogEntry)). AllSigned t.node.raft a.d ps) (sym packets) (subst (λ (m : RaftNode LogEntry). AllSigned m a.d r.packets) back a.probes.signed);
        rises = λ x y. subst (λ (m : RaftNode LogEntry). n.raft.probe ≤ m.probe) back (a.probes.rises x (subst (λ (m : RaftNode LogEntry). m.role ≡ Leader) node y));
        on = λ x y. ap (λ (m : RaftNode LogEntry). m.term) node ∙ a.on x (subst (λ (m : RaftNode LogEntry). m.role ≡ Leader) node y);
        comes = subst (λ (m : RaftNode LogEntry). m.role ≡ Leader → (n.raft.role ≡ Leader) ⊎ ((n.raft.role ≡ Candidate) × (m.term ≡ n.raft.term)) ⊎ (m.term ≡ n.raft.term + 1)) back a.comes;
        hears = λ hearing mark new old y. subst (λ (m : RaftNode LogEntry). AllHeard (heard_by hearing) mark m.peers) back (a.hears hearing mark new old (subst (λ (m : RaftNode LogEntry). m.role ≡ Leader) node y));
      }

  turned_probed : (sent : List (Packet LogEntry)) (n : Node) (r : RaftTurn LogEntry) → RaftProbed sent n r → Probed sent n (raft_turn n r)
  turned_probed sent n r a = if_case (Probed sent n) (is_leader n.raft.role && not (is_leader r.node.role)) (steps_down n r) (stays_on n r)
      (λ _. raft_probed sent n r a (steps_down n r) refl refl) (λ _. raft_probed sent n r a (stays_on n r) refl refl)

  quiet_probed : (sent : List (Packet LogEntry)) (n : Node) (t : Turn) → t.node.raft ≡ n.raft → t.packets ≡ [] → Probed sent n t
  quiet_probed sent n t is f = same_probed sent n t n.raft is refl refl refl refl refl f

  leads_yes : (r : Role) → is_leader r ≡ true → r ≡ Leader
  leads_yes Follower e = absurd (cc)
  leads_yes Candidate e = absurd (cc)
  leads_yes Leader e = refl

  appends_probed : (sent : List (Packet LogEntry)) (n : Node) (e : LogEntry) (waits : List Waiting) (queue : List QueuedWrite) → n.raft.role ≡ Leader → Probed sent n (appends g.first n e waits queue)
  appends_probed sent n e waits queue leads =
      let k = known.probes.proposes n.raft e in
      let p = known.lead_on.proposes n.raft e leads in
      raft_probed sent n (lead.propose log_entries g.first n.raft e)
      (record { d = None; in_sent = λ p q. none_sent sent p q; probes = k.0; on = λ x y. p.2; comes = λ x. inl leads; hears = λ hearing mark new old y. k.1 hearing mark old y })
      (appends g.first n e waits queue) refl refl

  proposed_probed : (sent : List (Packet LogEntry)) (n : Node) (number moment timeout : ℕ) (command : Command) (size : ℕ) → n.raft.role ≡ Leader → Probed sent n (proposed g.first n number moment timeout command size)
  proposed_probed sent n number moment timeout command size leads = if_case (Probed sent n) (nat_lt max_command_bytes size) (says n number (Refused (EntryTooLarge size))) (appended_for g.first n number moment timeout (record { term = n.raft.term; command = command }))
      (λ _. quiet_probed sent n (says n number (Refused (EntryTooLarge size))) refl refl)
      (λ _. appends_probed sent n (record { term = n.raft.term; command = command }) (record { index = length n.raft.log + 1; number = number; asked = moment; timeout = timeout; position = 0; sequence = None } ∷ []) n.queue leads)

  led_probed : (sent : List (Packet LogEntry)) (n : Node) (number : ℕ) (t : Turn) → (n.raft.role ≡ Leader → Probed sent n t) → Probed sent n (if_leads g.first n number t)
  led_probed sent n number t f = if_case (Probed sent n) (is_leader n.raft.role) t (says n number (Refused (NoLeader n.raft.term))) (λ q. f (leads_yes n.raft.role q)) (λ _. quiet_probed sent n (says n number (Refused (NoLeader n.raft.term))) refl refl)

  reads_probed : (sent : List (Packet LogEntry)) (n : Node) (t : Turn) → Probed sent n t → Probed sent n (reads g.first t)
  reads_probed sent n t a = record { delivered = a.delivered; in_sent = a.in_sent; id = a.id; signed = a.signed; rises = a.rises; on = a.on; comes = a.comes; hears = a.hears }

  beat_probed : (sent : List (Packet LogEntry)) (n : Node) → RaftProbed sent n (lead.beat log_entries g.first n.raft)
  beat_probed sent n =
      let k = known.probes.beats n.raft in
      record { d = None; in_sent = λ p q. none_sent sent p q; probes = k.0; on = λ x y. ((known.lead_on.beats n.raft).1 x y).0; comes = beat_comes n; hears = λ hearing mark new old y. k.1 hearing mark old y }
    where
      beat_comes : (n : Node) → Comes n.raft (lead.beat log_entries g.first n.raft)
      beat_comes n = if_case (Comes n.raft) (is_leader n.raft.role) (lead.send log_entries g.first (λ p. true) (raft_quiet n.raft)) (raft_quiet n.raft) (λ _ q. inl q) (λ _ q. inl q)

  read_probed : (sent : List (Packet LogEntry)) (n : Node) (number moment timeout : ℕ) (items : List Item) (l : Level) (limit : Option ℕ) → Probed sent n (read g.first n number moment timeout items l limit)
  read_probed sent n number moment timeout items level.None limit = if_case (Probed sent n) (is_stale n.raft limit moment) (says n number (Refused (Stale n.raft.contact moment (limit_of limit)))) (query g.first n number items)
      (λ _. quiet_probed sent n (says n number (Refused (Stale n.raft.contact moment (limit_of limit)))) refl refl) (λ _. quiet_probed sent n (query g.first n number items) refl refl)
  read_probed sent n number moment timeout items level.Weak limit = led_probed sent n number (query g.first n number items) (λ _. quiet_probed sent n (query g.first n number items) refl refl)
  read_probed sent n number moment timeout items level.Linearizable limit =
      let t = begun g.first n number moment timeout items (begin g.first n.raft) in
      led_probed sent n number (reads g.first t) (λ _. reads_probed sent n t (raft_probed sent n (begin g.first n.raft) (beat_probed sent n) t refl refl))
  read_probed sent n number moment timeout items level.Strong limit =
      let size = length (command_bytes (StrongQuery items)) in
      led_probed sent n number (proposed g.first n number moment timeout (StrongQuery items) size) (proposed_probed sent n number moment timeout (StrongQuery items) size)

  write_probed : (sent : List (Packet LogEntry)) (n : Node) (number moment timeout : ℕ) (list : Statements) (mixed : Bool) → Probed sent n (write g.first n number moment timeout list mixed)
  write_probed sent n number moment timeout list mixed =
      let command = write_command list mixed in
      let size = length (command_bytes command) in
      led_probed sent n number (proposed g.first n number moment timeout command size) (proposed_probed sent n number moment timeout command size)

  queued_probed : (sent : List (Packet LogEntry)) (n : Node) (number moment timeout : ℕ) (list : Statements) (waits : Bool) → Probed sent n (enqueue g.first n number moment timeout list waits)
  queued_probed sent n number moment timeout list waits =
      let size = length (command_bytes (Execute list)) in
      let held = length n.queue in
      let t = enqueued g.first n number moment timeout list waits in
      led_probed sent n number (if_not_too_large g.first n number size (if_not_full g.first n number t)) (λ _.
      if_case (Probed sent n) (nat_lt max_queued_bytes size) (says n number (Refused (QueuedTooLarge size))) (if_not_full g.first n number t)
      (λ _. quiet_probed sent n (says n number (Refused (QueuedTooLarge size))) refl refl)
      (λ _. if_case (Probed sent n) (nat_le queue_capacity held) (says n number (Refused (QueueFull held))) t (λ _. quiet_probed sent n (says n number (Refused (QueueFull held))) refl refl) (λ _. quiet_probed sent n t refl refl)))

  flush_probed : (sent : List (Packet LogEntry)) (n : Node) → Probed sent n (flush g.first n)
  flush_probed sent n = if_case (Probed sent n) (is_leader n.raft.role && nat_lt 0 (length n.queue)) (flushed g.first n) (unchanged n)
      (λ e. appends_probed sent n (batch_entry g.first n) (batch_waits g.first (length n.raft.log + 1) 0 (batch g.first n)) (drop max_batch n.queue) (leads_yes n.raft.role ((and_true (is_leader n.raft.role) (nat_lt 0 (length n.queue)) e).0)))
      (λ _. quiet_probed sent n (unchanged n) refl refl)

  apply_probed : (sent : List (Packet LogEntry)) (n : Node) → Probed sent n (apply g.first n)
  apply_probed sent n = if_case (Probed sent n) (nat_lt n.raft.applied n.raft.commit) (applied_entry g.first n (slice_get n.raft.log n.raft.applied)) (unchanged n)
      (λ _. entry (slice_get n.raft.log n.raft.applied)) (λ _. quiet_probed sent n (unchanged n) refl refl)
    where
      entry : (o : Option LogEntry) → Probed sent n (applied_entry g.first n o)
      entry None = quiet_probed sent n (unchanged n) refl refl
      entry (Some e) = reads_probed sent n (applied_command n e.command) (same_probed sent n (applied_command n e.command) (record n.raft { applied = n.raft.applied + 1 }) refl refl refl refl refl refl refl)

  compact_probed : (sent : List (Packet LogEntry)) (n : Node) → Probed sent n (compact n)
  compact_probed sent n = if_case (Probed sent n) (is_leader n.raft.role && not (is_leader (Rattle.rq_raft.specs.Install.compact n.raft).node.role)) (steps_down n (Rattle.rq_raft.specs.Install.compact n.raft)) (stays_on n (Rattle.rq_raft.specs.Install.compact n.raft))
      (λ _. part (steps_down n (Rattle.rq_raft.specs.Install.compact n.raft)) refl refl) (λ _. part (stays_on n (Rattle.rq_raft.specs.Install.compact n.raft)) refl refl)
    where
      part : (t : Turn) → t.node.raft ≡ (Rattle.rq_raft.specs.Install.compact n.raft).node → t.packets ≡ (Rattle.rq_raft.specs.Install.compact n.raft).packets → Probed sent n t
      part t = if_case (λ (r : RaftTurn LogEntry). t.node.raft ≡ r.node → t.packets ≡ r.packets → Probed sent n t) (nat_lt n.raft.base n.raft.applied) (record { node = record n.raft { base = n.raft.applied }; stored = Rattle.rq_raft.specs.Node.Replace n.raft.applied n.raft.log ∷ []; packets = [] }) (raft_quiet n.raft)
          (λ _ e f. same_probed sent n t (record n.raft { base = n.raft.applied }) e refl refl refl refl refl f)
          (λ _ e f. quiet_probed sent n t e f)

  receive_probed : (sent : List (Packet LogEntry)) (n : Node) (moment k : ℕ) (o : Option (Packet LogEntry)) → slice_get sent k ≡ o → Probed sent n (receive g.first n moment o)
  receive_probed sent n moment k None at = quiet_probed sent n (unchanged n) refl refl
  receive_probed sent n moment k (Some p) at = if_case (Probed sent n) (bytes_eq p.to n.raft.id) (with_reads g.first n p p.message (raft_turn n (deliver.receive log_entries g.first n.raft moment p))) (unchanged n)
      (λ _.
      let a = known.probes.receives n.raft moment p in
      with_probed p.message (raft_turn n (deliver.receive log_entries g.first n.raft moment p)) (turned_probed sent n (deliver.receive log_entries g.first n.raft moment p) (record {
        d = Some p;
        in_sent = λ q e. (k, at ∙ e);
        probes = a.0;
        on = λ x y. ((known.lead_on.receives n.raft moment p).1 x y).0;
        comes = known.come.receives n.raft moment p;
        hears = λ hearing mark new old y. a.1 hearing mark (λ x. new x p refl) old y;
      })))
      (λ _. quiet_probed sent n (unchanged n) refl refl)
    where
      with_probed : (m : Message LogEntry) (t : Turn) → Probed sent n t → Probed sent n (with_reads g.first n p m t)
      with_probed (VoteAsk last_index last_term) t a = a
      with_probed (VoteSay granted) t a = a
      with_probed (Append prev prev_term commit probe es) t a = a
      with_probed (AppendSay ok upto probe) t a = if_case (Probed sent n) (counts g.first n p upto) (reads g.first t) t (λ _. reads_probed sent n t a) (λ _. a)
      with_probed (Install probe list) t a = if_case (Probed sent n) (nat_lt n.raft.applied t.node.raft.applied) (record t { node = record t.node { replica = replica_of g.first list } }) t
          (λ _. record { delivered = a.delivered; in_sent = a.in_sent; id = a.id; signed = a.signed; rises = a.rises; on = a.on; comes = a.comes; hears = a.hears }) (λ _. a)
      with_probed (InstallSay upto probe) t a = if_case (Probed sent n) (counts g.first n p upto) (reads g.first t) t (λ _. reads_probed sent n t a) (λ _. a)

  pub act_probed : (sent : List (Packet LogEntry)) (moment : ℕ) (n : Node) (a : Act) → Probed sent n (act g.first sent moment n a)
  act_probed sent moment n (Ask number timeout (Write list mixed)) = write_probed sent n number moment timeout list mixed
  act_probed sent moment n (Ask number timeout (Queue list wait)) = queued_probed sent n number moment timeout list wait
  act_probed sent moment n (Ask number timeout (Read items level limit)) = read_probed sent n number moment timeout items level limit
  act_probed sent moment n Elect =
      let k = known.probes.elects n.raft in
      turned_probed sent n (vote.elect log_entries g.first n.raft)
      (record { d = None; in_sent = λ p q. none_sent sent p q; probes = k.0; on = λ x y. ((known.lead_on.elects n.raft).1 x y).0; comes = known.come.elects n.raft; hears = λ hearing mark new old y. k.1 hearing mark old y })
  act_probed sent moment n Beat = turned_probed sent n (lead.beat log_entries g.first n.raft) (beat_probed sent n)
  act_probed sent moment n Flush = flush_probed sent n
  act_probed sent moment n Apply = apply_probed sent n
  act_probed sent moment n Compact = compact_probed sent n
  act_probed sent moment n (Deliver k) = receive_probed sent n moment k (slice_get sent k) refl
  act_probed sent moment n Tick = quiet_probed sent n (tick n moment) refl refl
  act_probed sent moment n Idle = quiet_probed sent n (unchanged n) refl refl
