-- What passes cover, over runs of the world.
use Rattle.std.proofs.Common.{◌≡◌, ◌⊎◌, ◌<◌, ◌≤◌, ℕ, zero, suc, ◌+◌, ◌*◌, ◌&&◌, List, [], ◌∷◌, ◌++◌, length, slice_get, max, take, Bool, true, false, cond, Option, Some, None, refl, sym, ◌∙◌, ap, subst, inl, inr, ⊎_elim, arith}
use Rattle.std.specs.Prelude.{nat_lt, bytes_eq, count_by}
use Rattle.std.proofs.lemmas.List.{append-nil}
use Rattle.rq_history.specs.History.{NodeId, Node as HistoryNode, History, now, Was, WasBefore, IsEarlier, Led, entry_at, term_at}
use Rattle.rq_history.specs.Quorum.{Quorum}
use Rattle.rq_history.specs.Configurations.{voters_in, voters_or, newest_voters, configuration_index}
use Rattle.rq_raft.specs.declared.role.Role.TheVariants.{Follower, Candidate, Leader}
use Rattle.rq_raft.specs.Entries.{entry_view, voters, members_in, members_or, configuration}
use Rattle.rq_raft.specs.declared.peer.Peer.{Peer}
use Rattle.rq_raft.specs.Node.{RaftNode, Message, VoteAsk, VoteSay, Append, AppendSay, Install, InstallSay, Packet, Persistent, StoredRecord, persistent_after, one_of, has_peer}
use Rattle.rq_raft.specs.Lead.{voters_now}
use Rattle.rq_raft.specs.Truth.{role_of, history_node, MessageIsTrue, Refines}
use Rattle.rq_raft.specs.Probes.{Never, Within, Hearing, heard_by, AllHeard, HasProbe, Replies, Says, IsSigned, AllSigned, SaysHeard}
use Rattle.rq_world.specs.declared.log_entry.LogEntry.{LogEntry}
use Rattle.rq_world.specs.Node.{Node, persistent_of, log_entries, Turn}
use Rattle.rq_world.specs.Rules.{started}
use Rattle.rq_request.specs.declared.say.Say.{Say}
use Rattle.rq_world.specs.World.{Note, Answered, note_of, NodeState, Running, Down, World, Act, Ask, Elect, Beat, Flush, Apply, Compact, Deliver, Tick, Idle, Event, At, Stop, Fail, Start, FailStart, Clock, Run as Events, First, Then, turn, set_node, acted, noted, happens_at, stops_at, fails_at, starts_at, fails_start, members, world, IsPast}
use Rattle.rq_world.specs.Laws.{Runs, Leads}
use Rattle.rq_world.specs.Promise.{number_of, asked_in}
use Rattle.rq_world.specs.Reads.{confirms}
use Rattle.rq_world.specs.Passes.{PassCovers}
use Rattle.rq_world.proofs.Tests.{and_true, lt_true, id_true, id_self}
use Rattle.rq_world.proofs.Given.{Given, Run}
use Rattle.rq_world.proofs.Acts.{told_at}
use Rattle.rq_world.proofs.Simulation.{Choice, raft_in, before_event, Sim, sim, sim_later, was_at}
use Rattle.rq_world.proofs.Safety.{here, sim_of, was_in}
use Rattle.rq_world.proofs.Passes.{Known, Probed, act_probed}

abbrev IsReply : Message LogEntry → ℕ → Type 0
IsReply (VoteAsk i u) probe = Prim.⊥
IsReply (VoteSay granted) probe = Prim.⊥
IsReply (Append prev u commit k es) probe = Prim.⊥
IsReply (AppendSay ok at k) probe = k ≡ probe
IsReply (Install k list) probe = Prim.⊥
IsReply (InstallSay at k) probe = k ≡ probe

get_both : (a b : List (Packet LogEntry)) (k : ℕ) (q : Packet LogEntry) → slice_get (a ++ b) k ≡ Some q → (slice_get a k ≡ Some q) ⊎ ((m : ℕ) × (slice_get b m ≡ Some q))
get_both [] b k q e = inr (k, e)
get_both (x ∷ a) b zero q e = inl e
get_both (x ∷ a) b (suc k) q e = get_both a b k q e

get_prefix : (a b : List (Packet LogEntry)) (k : ℕ) (q : Packet LogEntry) → slice_get a k ≡ Some q → slice_get (a ++ b) k ≡ Some q
get_prefix [] b k q e = absurd (cc)
get_prefix (x ∷ a) b zero q e = e
get_prefix (x ∷ a) b (suc k) q e = get_prefix a b k q e

signed_at : (n : RaftNode LogEntry) (d : Option (Packet LogEntry)) (ps : List (Packet LogEntry)) (k : ℕ) (q : Packet LogEntry) → AllSigned n d ps → slice_get ps k ≡ Some q → IsSigned n d q
signed_at n d [] k q a e = absurd (cc)
signed_at n d (x ∷ ps) zero q a e = subst (IsSigned n d) (some x q e) a.0
  where
    some : (x y : Packet LogEntry) → Some x ≡ Some y → x ≡ y
    some x y e = cc
signed_at n d (x ∷ ps) (suc k) q a e = signed_at n d ps k q a.1 e

says_append : (n : RaftNode LogEntry) (d : Option (Packet LogEntry)) (m : Message LogEntry) (probe : ℕ) → Says n d m → HasProbe m probe → (n.role ≡ Leader) × (probe ≤ n.probe)
says_append n d (VoteAsk i u) probe s h = absurd h
says_append n d (VoteSay granted) probe s h = absurd h
says_append n d (Append prev u commit k es) probe s h = (s.0, omega (arith, s.1, h))
says_append n d (AppendSay ok at k) probe s h = absurd h
says_append n d (Install k list) probe s h = (s.0, omega (arith, s.1, h))
says_append n d (InstallSay at k) probe s h = absurd h

says_reply : (n : RaftNode LogEntry) (d : Option (Packet LogEntry)) (m : Message LogEntry) (probe : ℕ) → Says n d m → IsReply m probe → (probe ≡ 0) ⊎ Replies n d probe
says_reply n d (VoteAsk i u) probe s h = absurd h
says_reply n d (VoteSay granted) probe s h = absurd h
says_reply n d (Append prev u commit k es) probe s h = absurd h
says_reply n d (AppendSay ok at k) probe s h = subst (λ (j : ℕ). (j ≡ 0) ⊎ Replies n d j) h s
says_reply n d (Install k list) probe s h = absurd h
says_reply n d (InstallSay at k) probe s h = subst (λ (j : ℕ). (j ≡ 0) ⊎ Replies n d j) h s

led_by : (h : History LogEntry) (q : Packet LogEntry) (m : Message LogEntry) (probe : ℕ) → MessageIsTrue log_entries h q m → HasProbe m probe → (z : HistoryNode LogEntry) × Led h q.from q.term z
led_by h q (VoteAsk i u) probe s p = absurd p
led_by h q (VoteSay granted) probe s p = absurd p
led_by h q (Append prev u commit k es) probe s p = (s.leader, s.led)
led_by h q (AppendSay ok at k) probe s p = absurd p
led_by h q (Install k list) probe s p = (s.leader, s.led)
led_by h q (InstallSay at k) probe s p = absurd p

heard_more : (hearing : Hearing LogEntry) (low high : ℕ) (ps : List Peer) → low ≤ high → AllHeard (heard_by hearing) low ps → AllHeard (heard_by hearing) high ps
heard_more hearing low high [] le a = tt
heard_more hearing low high (p ∷ ps) le a = (λ lt. a.0 (omega (arith, le, lt)), heard_more hearing low high ps le a.1)

never_heard : (hearing : Hearing LogEntry) (mark : ℕ) (ps : List Peer) → AllHeard (heard_by {E = LogEntry} Never) mark ps → AllHeard (heard_by hearing) mark ps
never_heard hearing mark [] a = tt
never_heard hearing mark (p ∷ ps) a = (λ lt. absurd (a.0 lt), never_heard hearing mark ps a.1)

-- what a delivered packet says, where each reply says it
says_heard : (hearing : Hearing LogEntry) (mark term : ℕ) (p : Packet LogEntry) (m : Message LogEntry) → ((probe : ℕ) → IsReply m probe → p.term ≡ term → mark < probe → heard_by hearing p.from) → SaysHeard (heard_by hearing) mark term p m
says_heard hearing mark term p (VoteAsk i u) f = tt
says_heard hearing mark term p (VoteSay granted) f = tt
says_heard hearing mark term p (Append prev u commit k es) f = tt
says_heard hearing mark term p (AppendSay ok at k) f = λ t lt. f k refl t lt
says_heard hearing mark term p (Install k list) f = tt
says_heard hearing mark term p (InstallSay at k) f = λ t lt. f k refl t lt

module _ (g : Given) (known : Known g) where
  abbrev sent_in : Events → List (Packet LogEntry)
  sent_in run = (world g.first run).sent

  -- an event either is an act of a running node, or sends nothing and brings only followers
  pub record Acted (run : Events) (e : Event) : Type 0 where
    pub who : NodeId
    pub node : Node
    pub act : Act
    pub runs : Runs g.first run who node
    pub event : e ≡ At who act
    pub asked : asked_in e ≡ number_of act
    pub next : world g.first (Then run e) ≡ acted g.first (world g.first run) who node act (turn g.first (world g.first run) node act)

  pub record Still (run : Events) (e : Event) : Type 0 where
    pub more : List Note
    pub book : (world g.first (Then run e)).book ≡ (world g.first run).book ++ more
    pub silent : (m number place : ℕ) (say : Say) → slice_get more m ≡ Some (Answered number say place) → Prim.⊥
    pub sent : (world g.first (Then run e)).sent ≡ (world g.first run).sent
    pub nodes : (j : NodeId) (m : Node) → Runs g.first (Then run e) j m → Runs g.first run j m ⊎ ((m.raft.role ≡ Follower) × (m.queue ≡ []))

  place_at : (nodes : NodeId → NodeState) (i j : NodeId) (place : NodeState) (m : Node) → set_node g.first nodes i place j ≡ Running m → ((j ≡ i) × (place ≡ Running m)) ⊎ (nodes j ≡ Running m)
  place_at nodes i j place m = go (bytes_eq j i) refl
    where
      go : (b : Bool) → bytes_eq j i ≡ b → cond b place (nodes j) ≡ Running m → ((j ≡ i) × (place ≡ Running m)) ⊎ (nodes j ≡ Running m)
      go true e is = inl (id_true j i e, is)
      go false e is = inr is

  node_of : (n m : Node) → Running n ≡ Running m → n ≡ m
  node_of n m e = ap in_place e
    where
      in_place : NodeState → Node
      in_place (Running x) = x
      in_place (Down kept rest) = n

  never_up : (kept : Persistent LogEntry) (rest : List (StoredRecord LogEntry)) (m : Node) → Down kept rest ≡ Running m → Prim.⊥
  never_up kept rest m e = cc

  pub notes_silent : (i : NodeId) (a : Act) (m number place : ℕ) (say : Say) → slice_get (note_of g.first i a) m ≡ Some (Answered number say place) → Prim.⊥
  notes_silent i (Ask k timeout op) zero number place say e = cc
  notes_silent i (Ask k timeout op) (suc m) number place say e = cc
  notes_silent i Elect m number place say e = cc
  notes_silent i Beat m number place say e = cc
  notes_silent i Flush m number place say e = cc
  notes_silent i Apply m number place say e = cc
  notes_silent i Compact m number place say e = cc
  notes_silent i (Deliver k) m number place say e = cc
  notes_silent i Tick m number place say e = cc
  notes_silent i Idle m number place say e = cc

  same_still : (run : Events) (e : Event) (i : NodeId) (a : Act) (next : World) → next.book ≡ (world g.first run).book ++ note_of g.first i a → world g.first (Then run e) ≡ next → next.sent ≡ (world g.first run).sent → next.nodes ≡ (world g.first run).nodes → Still run e
  same_still run e i a next book is sent nodes = record {
    more = note_of g.first i a;
    book = ap (λ (w : World). w.book) is ∙ book;
    silent = notes_silent i a;
    sent = ap (λ (w : World). w.sent) is ∙ sent;
    nodes = λ j m r. inl (sym (ap (λ (p : NodeId → NodeState). p j) (ap (λ (w : World). w.nodes) is ∙ nodes)) ∙ r);
  }

  put_still : (run : Events) (e : Event) (i : NodeId) (a : Act) (next : World) → next.book ≡ (world g.first run).book ++ note_of g.first i a → (place : NodeState) → ((m : Node) → place ≡ Running m → (m.raft.role ≡ Follower) × (m.queue ≡ [])) → world g.first (Then run e) ≡ next → next.sent ≡ (world g.first run).sent → next.nodes ≡ set_node g.first (world g.first run).nodes i place → Still run e
  put_still run e i a next book place follows is sent nodes = record {
    more = note_of g.first i a;
    book = ap (λ (w : World). w.book) is ∙ book;
    silent = notes_silent i a;
    sent = ap (λ (w : World). w.sent) is ∙ sent;
    nodes = λ j m r. ⊎_elim
        (λ (p : (j ≡ i) × (place ≡ Running m)). inr (follows m p.1)) (λ (p : (world g.first run).nodes j ≡ Running m). inl p)
        (place_at (world g.first run).nodes i j place m (sym (ap (λ (p : NodeId → NodeState). p j) (ap (λ (w : World). w.nodes) is ∙ nodes)) ∙ r));
  }

  down_follows : (kept : Persistent LogEntry) (rest : List (StoredRecord LogEntry)) (m : Node) → Down kept rest ≡ Running m → (m.raft.role ≡ Follower) × (m.queue ≡ [])
  down_follows kept rest m e = absurd (never_up kept rest m e)

  started_follows : (i : NodeId) (kept : Persistent LogEntry) (m : Node) → Running (started g.first i kept).node ≡ Running m → (m.raft.role ≡ Follower) × (m.queue ≡ [])
  started_follows i kept m e = let n = sym (node_of (started g.first i kept).node m e) in (ap (λ (n : Node). n.raft.role) n, ap (λ (n : Node). n.queue) n)

  pub kind : (run : Events) (e : Event) → Acted run e ⊎ Still run e
  kind run (At i a) = go ((world g.first run).nodes i) refl
    where
      go : (p : NodeState) → (world g.first run).nodes i ≡ p → Acted run (At i a) ⊎ Still run (At i a)
      go (Running n) is = inl (record { who = i; node = n; act = a; runs = is; event = refl; asked = refl; next = ap (happens_at g.first (world g.first run) i a) is })
      go (Down kept rest) is = inr (same_still run (At i a) i a (noted g.first (world g.first run) i a) refl (ap (happens_at g.first (world g.first run) i a) is) refl refl)
  kind run (Stop i a k) = go ((world g.first run).nodes i) refl
    where
      go : (p : NodeState) → (world g.first run).nodes i ≡ p → Acted run (Stop i a k) ⊎ Still run (Stop i a k)
      go (Running n) is = inr (put_still run (Stop i a k) i a (stops_at g.first (world g.first run) i a k (Running n)) refl (Down (persistent_after (persistent_of n) (take k (turn g.first (world g.first run) n a).stored)) []) (down_follows (persistent_after (persistent_of n) (take k (turn g.first (world g.first run) n a).stored)) []) (ap (stops_at g.first (world g.first run) i a k) is) refl refl)
      go (Down kept rest) is = inr (same_still run (Stop i a k) i a (noted g.first (world g.first run) i a) refl (ap (stops_at g.first (world g.first run) i a k) is) refl refl)
  kind run (Fail i a) = go ((world g.first run).nodes i) refl
    where
      go : (p : NodeState) → (world g.first run).nodes i ≡ p → Acted run (Fail i a) ⊎ Still run (Fail i a)
      go (Running n) is = inr (put_still run (Fail i a) i a (fails_at g.first (world g.first run) i a (Running n)) refl (Down (persistent_of n) (turn g.first (world g.first run) n a).stored) (down_follows (persistent_of n) (turn g.first (world g.first run) n a).stored) (ap (fails_at g.first (world g.first run) i a) is) refl refl)
      go (Down kept rest) is = inr (same_still run (Fail i a) i a (noted g.first (world g.first run) i a) refl (ap (fails_at g.first (world g.first run) i a) is) refl refl)
  kind run (Start i k) = by_member (one_of (members g.first) i) refl
    where
      go : (p : NodeState) → (world g.first run).nodes i ≡ p → world g.first (Then run (Start i k)) ≡ starts_at g.first (world g.first run) i k p → Acted run (Start i k) ⊎ Still run (Start i k)
      go (Running n) is next = inr (same_still run (Start i k) i Idle (world g.first run) (sym (append-nil (world g.first run).book)) next refl refl)
      go (Down kept rest) is next = inr (put_still run (Start i k) i Idle (starts_at g.first (world g.first run) i k (Down kept rest)) (sym (append-nil (world g.first run).book)) (Running (started g.first i (persistent_after kept (take k rest))).node) (started_follows i (persistent_after kept (take k rest))) next refl refl)

      by_member : (b : Bool) → one_of (members g.first) i ≡ b → Acted run (Start i k) ⊎ Still run (Start i k)
      by_member true e = go ((world g.first run).nodes i) refl (ap (λ (b : Bool). cond b (starts_at g.first (world g.first run) i k ((world g.first run).nodes i)) (world g.first run)) e)
      by_member false e = inr (same_still run (Start i k) i Idle (world g.first run) (sym (append-nil (world g.first run).book)) (ap (λ (b : Bool). cond b (starts_at g.first (world g.first run) i k ((world g.first run).nodes i)) (world g.first run)) e) refl refl)
  kind run (FailStart i k) = go ((world g.first run).nodes i) refl
    where
      go : (p : NodeState) → (world g.first run).nodes i ≡ p → Acted run (FailStart i k) ⊎ Still run (FailStart i k)
      go (Running n) is = inr (same_still run (FailStart i k) i Idle (world g.first run) (sym (append-nil (world g.first run).book)) (ap (fails_start g.first (world g.first run) i k) is) refl refl)
      go (Down kept rest) is = inr (put_still run (FailStart i k) i Idle (fails_start g.first (world g.first run) i k (Down kept rest)) (sym (append-nil (world g.first run).book)) (Down (persistent_after kept (take k rest)) (started g.first i (persistent_after kept (take k rest))).stored) (down_follows (persistent_after kept (take k rest)) (started g.first i (persistent_after kept (take k rest))).stored) (ap (fails_start g.first (world g.first run) i k) is) refl refl)
  kind run (Clock moment) = inr (same_still run (Clock moment) [] Idle (record (world g.first run) { moment = max (world g.first run).moment moment }) (sym (append-nil (world g.first run).book)) refl refl refl)

  -- ---- the counters

  pub record Bounded (run : Events) : Type 0 where
    pub replies : (k probe : ℕ) (q : Packet LogEntry) → slice_get (world g.first run).sent k ≡ Some q → IsReply q.message probe
        → (probe ≡ 0) ⊎ ((j : ℕ) × (a : Packet LogEntry) × (slice_get (world g.first run).sent j ≡ Some a) × (a.term ≡ q.term) × HasProbe a.message probe)
    pub counters : (i : NodeId) (n : Node) → Runs g.first run i n → n.raft.role ≡ Leader → (k probe : ℕ) (q : Packet LogEntry) → slice_get (world g.first run).sent k ≡ Some q → HasProbe q.message probe → q.term ≡ n.raft.term → probe ≤ n.raft.probe
    pub acked : (i : NodeId) (n : Node) → Runs g.first run i n → n.raft.role ≡ Leader → AllHeard (heard_by {E = LogEntry} Never) n.raft.probe n.raft.peers

  follows_leads : (n : Node) → n.raft.role ≡ Follower → n.raft.role ≡ Leader → Prim.⊥
  follows_leads n a b = cc

  still_bounded : (run : Events) (e : Event) → Still run e → Bounded run → Bounded (Then run e)
  still_bounded run e s b = record {
    replies = λ k probe q at is. subst (λ (ps : List (Packet LogEntry)). (probe ≡ 0) ⊎ ((j : ℕ) × (a : Packet LogEntry) × (slice_get ps j ≡ Some a) × (a.term ≡ q.term) × HasProbe a.message probe)) (sym s.sent)
        (b.replies k probe q (subst (λ (ps : List (Packet LogEntry)). slice_get ps k ≡ Some q) s.sent at) is);
    counters = λ i n r lead k probe q at is t. ⊎_elim
        (λ (old : Runs g.first run i n). b.counters i n old lead k probe q (subst (λ (ps : List (Packet LogEntry)). slice_get ps k ≡ Some q) s.sent at) is t)
        (λ (f : (n.raft.role ≡ Follower) × (n.queue ≡ [])). absurd (follows_leads n f.0 lead)) (s.nodes i n r);
    acked = λ i n r lead. ⊎_elim (λ (old : Runs g.first run i n). b.acked i n old lead) (λ (f : (n.raft.role ≡ Follower) × (n.queue ≡ [])). absurd (follows_leads n f.0 lead)) (s.nodes i n r);
  }

  -- ---- behind an act

  module _ (run : Events) (e : Event) (a : Acted run e) where
    abbrev pub t : Turn
    t = turn g.first (world g.first run) a.node a.act

    abbrev pub pr : Probed (world g.first run).sent a.node t
    pr = act_probed g known (world g.first run).sent (world g.first run).moment a.node a.act

    sent_is : (world g.first (Then run e)).sent ≡ (world g.first run).sent ++ t.packets
    sent_is = ap (λ (w : World). w.sent) a.next

    at_both : (k : ℕ) (q : Packet LogEntry) → slice_get (world g.first (Then run e)).sent k ≡ Some q → (slice_get (world g.first run).sent k ≡ Some q) ⊎ IsSigned t.node.raft pr.delivered q
    at_both k q at = ⊎_elim
        (λ (old : slice_get (world g.first run).sent k ≡ Some q). inl old)
        (λ (new : (m : ℕ) × (slice_get t.packets m ≡ Some q)). inr (signed_at t.node.raft pr.delivered t.packets new.0 q pr.signed new.1))
        (get_both (world g.first run).sent t.packets k q (subst (λ (ps : List (Packet LogEntry)). slice_get ps k ≡ Some q) sent_is at))

    pub runs_next : Runs g.first (Then run e) a.who t.node
    runs_next = ap (λ (w : World). w.nodes a.who) a.next ∙ ap (λ (b : Bool). cond b (Running t.node) ((world g.first run).nodes a.who)) (id_self a.who)

    pub who_runs : (j : NodeId) (m : Node) → Runs g.first (Then run e) j m → ((j ≡ a.who) × (t.node ≡ m)) ⊎ Runs g.first run j m
    who_runs j m r = ⊎_elim
        (λ (p : (j ≡ a.who) × (Running t.node ≡ Running m)). inl (p.0, node_of t.node m p.1)) (λ (p : (world g.first run).nodes j ≡ Running m). inr p)
        (place_at (world g.first run).nodes a.who j (Running t.node) m (sym (ap (λ (w : World). w.nodes j) a.next) ∙ r))

    -- the history before, of which the one behind is more
    abbrev pub old_sim : (choice : Choice) → Sim g (before_event g.first e choice) run
    old_sim choice = sim g run (before_event g.first e choice)

    pub fits_old : (choice : Choice) → Refines log_entries (old_sim choice).history a.who a.node.raft
    fits_old choice = subst (λ (p : NodeState). Refines log_entries (old_sim choice).history a.who (raft_in (before_event g.first e choice) a.who p)) a.runs ((old_sim choice).fit.fits a.who)

    id_is : t.node.raft.id ≡ a.who
    id_is = pr.id ∙ (fits_old (λ i. 0)).id

    pub one_here : (j : NodeId) (m : Node) → Runs g.first (Then run e) j m → m.raft.role ≡ Leader → t.node.raft.role ≡ Leader → t.node.raft.term ≡ m.raft.term → m ≡ t.node
    one_here j m r lead lead2 same =
        let s = sim_of g (Then run e) in
        let ij : a.who ≡ j = g.one_leader (voters g.first) s.history s.fit.lawful a.who j m.raft.term (history_node t.node.raft) (history_node m.raft)
        (record { was = was_in g (Then run e) (Then run e) (here g (Then run e)) a.who t.node runs_next; leads = ap role_of lead2; in_term = same })
        (record { was = was_in g (Then run e) (Then run e) (here g (Then run e)) j m r; leads = ap role_of lead; in_term = refl }) in
        node_of m t.node (sym r ∙ subst (λ (k : NodeId). (world g.first (Then run e)).nodes k ≡ Running t.node) ij runs_next)

    -- an append of a term stood before, and then the node didn't come to lead that term
    no_return : (k probe : ℕ) (q : Packet LogEntry) → slice_get (world g.first run).sent k ≡ Some q → HasProbe q.message probe → q.term ≡ t.node.raft.term → t.node.raft.role ≡ Leader
        → ((a.node.raft.role ≡ Candidate) × (t.node.raft.term ≡ a.node.raft.term)) ⊎ (t.node.raft.term ≡ a.node.raft.term + 1) → Prim.⊥
    no_return k probe q at has same lead comes =
        let s = old_sim none in
        let z = led_by s.history q q.message probe (told_at g s.history (world g.first run).sent k s.fit.packets_are_true (Some q) at q refl) has in
        let later = sim_later g run e none in
        let n = sim g (Then run e) none in
        let from : q.from ≡ a.who = g.one_leader (voters g.first) n.history n.fit.lawful q.from a.who t.node.raft.term z.0 (history_node t.node.raft)
        (record { was = later q.from z.0 z.1.was; leads = z.1.leads; in_term = z.1.in_term ∙ same })
        (record { was = was_in g (Then run e) (Then run e) (here g (Then run e)) a.who t.node runs_next; leads = ap role_of lead; in_term = refl }) in
        let was : Was s.history a.who z.0 = subst (λ (j : NodeId). Was s.history j z.0) from z.1.was in
        let f = fits_old none in
        let before : WasBefore s.history a.who z.0 (history_node a.node.raft) = subst (λ (x : HistoryNode LogEntry). WasBefore s.history a.who z.0 x) f.is ((g.moments s.history a.who).2 z.0 was) in
        let time = (known.time_goes_on (voters g.first) s.history s.fit.lawful a.who z.0 (history_node a.node.raft) before).0 in
        ⊎_elim
        (λ (p : (a.node.raft.role ≡ Candidate) × (t.node.raft.term ≡ a.node.raft.term)). known.stand_once (voters g.first) s.history s.fit.lawful a.who z.0 (history_node a.node.raft) before z.1.leads (z.1.in_term ∙ same ∙ p.1) (ap role_of p.0))
        (λ (p : t.node.raft.term ≡ a.node.raft.term + 1). absurd (omega (arith, time, z.1.in_term, same, p)))
        comes
      where
        none : Choice
        none i = 0

    acted_bounded : Bounded run → Bounded (Then run e)
    acted_bounded b = record { replies = replies; counters = counters; acked = acked }
      where
        lift : (probe : ℕ) (term : ℕ) → (probe ≡ 0) ⊎ ((j : ℕ) × (x : Packet LogEntry) × (slice_get (world g.first run).sent j ≡ Some x) × (x.term ≡ term) × HasProbe x.message probe)
            → (probe ≡ 0) ⊎ ((j : ℕ) × (x : Packet LogEntry) × (slice_get (world g.first (Then run e)).sent j ≡ Some x) × (x.term ≡ term) × HasProbe x.message probe)
        lift probe term (inl z) = inl z
        lift probe term (inr x) = inr (x.0, x.1, subst (λ (ps : List (Packet LogEntry)). slice_get ps x.0 ≡ Some x.1) (sym sent_is) (get_prefix (world g.first run).sent t.packets x.0 x.1 x.2), x.3, x.4)

        replied : (probe : ℕ) (q : Packet LogEntry) → q.term ≡ t.node.raft.term → (d : Option (Packet LogEntry)) → pr.delivered ≡ d → Replies t.node.raft d probe → (j : ℕ) × (x : Packet LogEntry) × (slice_get (world g.first run).sent j ≡ Some x) × (x.term ≡ q.term) × HasProbe x.message probe
        replied probe q term None is r = absurd r
        replied probe q term (Some p) is r = let k = pr.in_sent p is in (k.0, p, k.1, r.0 ∙ sym term, r.1)

        replies : (k probe : ℕ) (q : Packet LogEntry) → slice_get (world g.first (Then run e)).sent k ≡ Some q → IsReply q.message probe
            → (probe ≡ 0) ⊎ ((j : ℕ) × (x : Packet LogEntry) × (slice_get (world g.first (Then run e)).sent j ≡ Some x) × (x.term ≡ q.term) × HasProbe x.message probe)
        replies k probe q at is = ⊎_elim
            (λ (old : slice_get (world g.first run).sent k ≡ Some q). lift probe q.term (b.replies k probe q old is))
            (λ (s : IsSigned t.node.raft pr.delivered q). ⊎_elim
            (λ (z : probe ≡ 0). inl z) (λ (r : Replies t.node.raft pr.delivered probe). lift probe q.term (inr (replied probe q s.term pr.delivered refl r)))
            (says_reply t.node.raft pr.delivered q.message probe s.says is))
            (at_both k q at)

        -- at the node that acted
        counters_here : (k probe : ℕ) (q : Packet LogEntry) → slice_get (world g.first (Then run e)).sent k ≡ Some q → HasProbe q.message probe → q.term ≡ t.node.raft.term → t.node.raft.role ≡ Leader → probe ≤ t.node.raft.probe
        counters_here k probe q at is same lead = ⊎_elim
            (λ (old : slice_get (world g.first run).sent k ≡ Some q). ⊎_elim
            (λ (leads : a.node.raft.role ≡ Leader).
            let low = b.counters a.who a.node a.runs leads k probe q old is (same ∙ pr.on leads lead) in
            let up = pr.rises leads lead in
            omega (arith, low, up))
            (λ (comes : ((a.node.raft.role ≡ Candidate) × (t.node.raft.term ≡ a.node.raft.term)) ⊎ (t.node.raft.term ≡ a.node.raft.term + 1)). absurd (no_return k probe q old is same lead comes))
            (pr.comes lead))
            (λ (s : IsSigned t.node.raft pr.delivered q). (says_append t.node.raft pr.delivered q.message probe s.says is).1)
            (at_both k q at)

        counters : (j : NodeId) (m : Node) → Runs g.first (Then run e) j m → m.raft.role ≡ Leader → (k probe : ℕ) (q : Packet LogEntry) → slice_get (world g.first (Then run e)).sent k ≡ Some q → HasProbe q.message probe → q.term ≡ m.raft.term → probe ≤ m.raft.probe
        counters j m r lead k probe q at is same = ⊎_elim
            (λ (p : (j ≡ a.who) × (t.node ≡ m)). subst (λ (x : Node). probe ≤ x.raft.probe) p.1 (counters_here k probe q at is (same ∙ sym (ap (λ (x : Node). x.raft.term) p.1)) (subst (λ (x : Node). x.raft.role ≡ Leader) (sym p.1) lead)))
            (λ (old : Runs g.first run j m). ⊎_elim
            (λ (o : slice_get (world g.first run).sent k ≡ Some q). b.counters j m old lead k probe q o is same)
            (λ (s : IsSigned t.node.raft pr.delivered q).
            let says = says_append t.node.raft pr.delivered q.message probe s.says is in
            subst (λ (x : Node). probe ≤ x.raft.probe) (sym (one_here j m r lead says.0 (sym s.term ∙ same))) says.1)
            (at_both k q at))
            (who_runs j m r)

        acked_here : t.node.raft.role ≡ Leader → AllHeard (heard_by {E = LogEntry} Never) t.node.raft.probe t.node.raft.peers
        acked_here lead = pr.hears Never t.node.raft.probe
            (λ leads p is. says_heard Never t.node.raft.probe a.node.raft.term p p.message (λ probe reply same lt.
            let k = pr.in_sent p is in
            let up = pr.rises leads lead in
            ⊎_elim
            (λ (z : probe ≡ 0). absurd (omega (arith, z, lt)))
            (λ (x : (j : ℕ) × (x : Packet LogEntry) × (slice_get (world g.first run).sent j ≡ Some x) × (x.term ≡ p.term) × HasProbe x.message probe).
            let low = b.counters a.who a.node a.runs leads x.0 probe x.1 x.2 x.4 (x.3 ∙ same) in
            absurd (omega (arith, low, up, lt)))
            (b.replies k.0 probe p k.1 reply)))
            (λ leads. heard_more Never a.node.raft.probe t.node.raft.probe a.node.raft.peers (pr.rises leads lead) (b.acked a.who a.node a.runs leads)) lead

        acked : (j : NodeId) (m : Node) → Runs g.first (Then run e) j m → m.raft.role ≡ Leader → AllHeard (heard_by {E = LogEntry} Never) m.raft.probe m.raft.peers
        acked j m r lead = ⊎_elim
            (λ (p : (j ≡ a.who) × (t.node ≡ m)). subst (λ (x : Node). AllHeard (heard_by {E = LogEntry} Never) x.raft.probe x.raft.peers) p.1 (acked_here (subst (λ (x : Node). x.raft.role ≡ Leader) (sym p.1) lead)))
            (λ (old : Runs g.first run j m). b.acked j m old lead)
            (who_runs j m r)

  pub bounded : (run : Events) → Bounded run
  bounded First = record { replies = λ k probe q at is. absurd (cc); counters = λ i n r. absurd (cc); acked = λ i n r. absurd (cc) }
  bounded (Then run e) = ⊎_elim (λ (a : Acted run e). acted_bounded run e a (bounded run)) (λ (s : Still run e). still_bounded run e s (bounded run)) (kind run e)

  -- ---- since a moment

  -- from a moment p on, in which i led a term: a history up to p of which that of the run is more; replies to later probes come from
  -- nodes that had seen no later term up to p
  pub record Since (p : Events) (i : NodeId) (term mark : ℕ) (choice : Choice) (run : Events) : Type 0 where
    pub choice_then : Choice
    pub later : IsEarlier (sim g p choice_then).history (sim g run choice).history
    pub replies : (k probe : ℕ) (q : Packet LogEntry) → slice_get (world g.first run).sent k ≡ Some q → IsReply q.message probe → q.term ≡ term → mark < probe → heard_by (Within (sim g p choice_then).history term) q.from
    pub acked : (m : Node) → Runs g.first run i m → m.raft.role ≡ Leader → m.raft.term ≡ term → AllHeard (heard_by (Within (sim g p choice_then).history term)) mark m.raft.peers

  begun : (p : Events) (i : NodeId) (term : ℕ) (n : Node) (choice : Choice) → Leads g.first p i term n → Since p i term n.raft.probe choice p
  begun p i term n choice lead = record {
    choice_then = choice;
    later = λ j x w. w;
    replies = λ k probe q at is same lt. ⊎_elim
        (λ (z : probe ≡ 0). absurd (omega (arith, z, lt)))
        (λ (x : (j : ℕ) × (x : Packet LogEntry) × (slice_get (world g.first p).sent j ≡ Some x) × (x.term ≡ q.term) × HasProbe x.message probe).
        let low = (bounded p).counters i n lead.runs lead.role x.0 probe x.1 x.2 x.4 (x.3 ∙ same ∙ sym lead.in_term) in
        absurd (omega (arith, low, lt)))
        ((bounded p).replies k probe q at is);
    acked = λ m r role same.
        let mn : n ≡ m = node_of n m (sym lead.runs ∙ r) in
        subst (λ (x : Node). AllHeard (heard_by (Within (sim g p choice).history term)) n.raft.probe x.raft.peers) mn (never_heard (Within (sim g p choice).history term) n.raft.probe n.raft.peers ((bounded p).acked i n lead.runs lead.role));
  }

  module _ (p : Events) (i : NodeId) (term mark : ℕ) (choice : Choice) (run : Events) (e : Event) (s : Since p i term mark (before_event g.first e choice) run) where
    abbrev early : History LogEntry
    early = (sim g p s.choice_then).history

    on : IsEarlier early (sim g (Then run e) choice).history
    on j x w = sim_later g run e choice j x (s.later j x w)

    still_since : Still run e → Since p i term mark choice (Then run e)
    still_since k = record {
      choice_then = s.choice_then;
      later = on;
      replies = λ j probe q at is. s.replies j probe q (subst (λ (ps : List (Packet LogEntry)). slice_get ps j ≡ Some q) k.sent at) is;
      acked = λ m r role same. ⊎_elim (λ (old : Runs g.first run i m). s.acked m old role same) (λ (f : (m.raft.role ≡ Follower) × (m.queue ≡ [])). absurd (follows_leads m f.0 role)) (k.nodes i m r);
    }

    -- who is in the term now had seen no later one before
    seen_none : (j : NodeId) (m : Node) → Runs g.first (Then run e) j m → m.raft.term ≡ term → heard_by (Within early term) j
    seen_none j m r same z w =
        let n = sim g (Then run e) choice in
        let f : Refines log_entries n.history j m.raft = subst (λ (x : NodeState). Refines log_entries n.history j (raft_in choice j x)) r (n.fit.fits j) in
        let before : WasBefore n.history j z (history_node m.raft) = subst (λ (x : HistoryNode LogEntry). WasBefore n.history j z x) f.is ((g.moments n.history j).2 z (on j z w)) in
        let time = (known.time_goes_on (voters g.first) n.history n.fit.lawful j z (history_node m.raft) before).0 in
        omega (arith, time, same)

    acted_since : Acted run e → Since p i term mark choice (Then run e)
    acted_since a = record { choice_then = s.choice_then; later = on; replies = replies; acked = acked }
      where
        replies : (k probe : ℕ) (q : Packet LogEntry) → slice_get (world g.first (Then run e)).sent k ≡ Some q → IsReply q.message probe → q.term ≡ term → mark < probe → heard_by (Within early term) q.from
        replies k probe q at is same lt = ⊎_elim
            (λ (old : slice_get (world g.first run).sent k ≡ Some q). s.replies k probe q old is same lt)
            (λ (x : IsSigned (t run e a).node.raft (pr run e a).delivered q). subst (heard_by (Within early term)) (sym (x.from ∙ id_is run e a)) (seen_none a.who (t run e a).node (runs_next run e a) (sym x.term ∙ same)))
            (at_both run e a k q at)

        here_acked : i ≡ a.who → (t run e a).node.raft.role ≡ Leader → (t run e a).node.raft.term ≡ term → AllHeard (heard_by (Within early term)) mark (t run e a).node.raft.peers
        here_acked ia lead same = (pr run e a).hears (Within early term) mark
            (λ leads x is. says_heard (Within early term) mark a.node.raft.term x x.message (λ probe reply at_term lt.
            let k = (pr run e a).in_sent x is in
            s.replies k.0 probe x k.1 reply (at_term ∙ sym ((pr run e a).on leads lead) ∙ same) lt))
            (λ leads. s.acked a.node (subst (λ (j : NodeId). Runs g.first run j a.node) (sym ia) a.runs) leads (sym ((pr run e a).on leads lead) ∙ same)) lead

        acked : (m : Node) → Runs g.first (Then run e) i m → m.raft.role ≡ Leader → m.raft.term ≡ term → AllHeard (heard_by (Within early term)) mark m.raft.peers
        acked m r role same = ⊎_elim
            (λ (x : (i ≡ a.who) × ((t run e a).node ≡ m)). subst (λ (y : Node). AllHeard (heard_by (Within early term)) mark y.raft.peers) x.1
            (here_acked x.0 (subst (λ (y : Node). y.raft.role ≡ Leader) (sym x.1) role) (ap (λ (y : Node). y.raft.term) x.1 ∙ same)))
            (λ (old : Runs g.first run i m). s.acked m old role same)
            (who_runs run e a i m r)

  pub since : (p : Events) (i : NodeId) (term : ℕ) (n : Node) → Leads g.first p i term n → (run : Events) → IsPast g.first p run → (choice : Choice) → Since p i term n.raft.probe choice run
  since p i term n lead First past choice = subst (Since p i term n.raft.probe choice) past (begun p i term n choice lead)
  since p i term n lead (Then run e) (inl same) choice = subst (Since p i term n.raft.probe choice) same (begun p i term n choice lead)
  since p i term n lead (Then run e) (inr past) choice =
      let s = since p i term n lead run past (before_event g.first e choice) in
      ⊎_elim (λ (a : Acted run e). acted_since p i term n.raft.probe choice run e s a) (λ (k : Still run e). still_since p i term n.raft.probe choice run e s k) (kind run e)

  -- ---- passes

  peer_heard : (hearing : Hearing LogEntry) (mark : ℕ) (ps : List Peer) (v : NodeId) → AllHeard (heard_by hearing) mark ps → has_peer (λ (p : Peer). nat_lt mark p.acked) ps v ≡ true → heard_by hearing v
  peer_heard hearing mark [] v a e = absurd (cc)
  peer_heard hearing mark (p ∷ ps) v a e = go (bytes_eq p.id v && nat_lt mark p.acked) refl e (peer_heard hearing mark ps v a.1)
    where
      go : (b : Bool) → (bytes_eq p.id v && nat_lt mark p.acked) ≡ b → cond b true (has_peer (λ (p : Peer). nat_lt mark p.acked) ps v) ≡ true → (has_peer (λ (p : Peer). nat_lt mark p.acked) ps v ≡ true → heard_by hearing v) → heard_by hearing v
      go true q r more = let b = and_true (bytes_eq p.id v) (nat_lt mark p.acked) q in subst (heard_by hearing) (id_true p.id v b.0) (a.0 (lt_true mark p.acked b.1))
      go false q r more = more r

  same_voters : (log : List LogEntry) → voters (configuration log_entries g.first log) ≡ newest_voters (entry_view log_entries) (voters g.first) log
  same_voters log = at (entry_at log (configuration_index (entry_view log_entries) log))
    where
      at : (o : Option LogEntry) → voters (members_or g.first (members_in log_entries o)) ≡ voters_or (voters g.first) (voters_in (entry_view log_entries) o)
      at None = refl
      at (Some e) = refl

  pub pass_covers : PassCovers g.first
  pass_covers q p o past older i j term n m x lead lead2 ready r =
      let s = since p i term n lead q past none in
      let early = sim g p s.choice_then in
      let late = sim g q none in
      let f : Refines log_entries early.history i n.raft = subst (λ (y : NodeState). Refines log_entries early.history i (raft_in s.choice_then i y)) lead.runs (early.fit.fits i) in
      let f2 : Refines log_entries late.history i m.raft = subst (λ (y : NodeState). Refines log_entries late.history i (raft_in none i y)) lead2.runs (late.fit.fits i) in
      let heard = s.acked m lead2.runs lead2.role lead2.in_term in
      let confirmed : Quorum (newest_voters (entry_view log_entries) (voters g.first) m.raft.log) (λ v. (z : HistoryNode LogEntry) → Was early.history v z → z.term ≤ term) = record {
        in_set = confirms g.first m.raft n.raft.probe;
        most = subst (λ (vs : List NodeId). length vs < 2 * count_by (confirms g.first m.raft n.raft.probe) vs) (same_voters m.raft.log) (lt_true (length (voters_now log_entries g.first m.raft)) (2 * count_by (confirms g.first m.raft n.raft.probe) (voters_now log_entries g.first m.raft)) ready);
        each = λ v is. each early.history early.fit.lawful f f2.id heard v is;
      } in
      let c = known.leaders_cover (voters g.first) early.history late.history early.fit.lawful late.fit.lawful s.later i term
      (ap (λ (y : HistoryNode LogEntry). y.role) f.is ∙ ap role_of lead.role, ap (λ (y : HistoryNode LogEntry). y.term) f.is ∙ lead.in_term, ap (λ (y : HistoryNode LogEntry). y.role) f2.is ∙ ap role_of lead2.role, ap (λ (y : HistoryNode LogEntry). y.term) f2.is ∙ lead2.in_term)
      (subst (λ (y : HistoryNode LogEntry). Quorum (newest_voters (entry_view log_entries) (voters g.first) y.log) (λ v. (z : HistoryNode LogEntry) → Was early.history v z → z.term ≤ term)) (sym f2.is) confirmed)
      n.raft.first_index ((f.first lead.role).0) (subst (λ (y : HistoryNode LogEntry). n.raft.first_index ≤ length y.log → term_at (entry_view log_entries) y.log n.raft.first_index ≡ term) (sym f.is) (λ le. (f.first lead.role).1 le ∙ lead.in_term))
      j (history_node x.raft) (was_at g s.choice_then p o early older j x r) in
      ⊎_elim
      (λ (lt : x.raft.commit < n.raft.first_index). omega (arith, lt))
      (λ (le : x.raft.commit ≤ (now early.history i).commit). omega (arith, le, ap (λ (y : HistoryNode LogEntry). y.commit) f.is))
      c
    where
      none : Choice
      none i = 0

      each : (early : History LogEntry) → Run g early → Refines log_entries early i n.raft → m.raft.id ≡ i → AllHeard (heard_by (Within early term)) n.raft.probe m.raft.peers → (v : NodeId) → confirms g.first m.raft n.raft.probe v ≡ true → (z : HistoryNode LogEntry) → Was early v z → z.term ≤ term
      each early lawful f id heard v is = go (bytes_eq v m.raft.id) refl is
        where
          self : v ≡ i → (z : HistoryNode LogEntry) → Was early v z → z.term ≤ term
          self vi z w =
              let wi : Was early i z = subst (λ (k : NodeId). Was early k z) vi w in
              let before : WasBefore early i z (history_node n.raft) = subst (λ (y : HistoryNode LogEntry). WasBefore early i z y) f.is ((g.moments early i).2 z wi) in
              let time = (known.time_goes_on (voters g.first) early lawful i z (history_node n.raft) before).0 in
              omega (arith, time, lead.in_term)

          go : (b : Bool) → bytes_eq v m.raft.id ≡ b → cond b true (has_peer (λ (p : Peer). nat_lt n.raft.probe p.acked) m.raft.peers v) ≡ true → (z : HistoryNode LogEntry) → Was early v z → z.term ≤ term
          go true e r = self (id_true v m.raft.id e ∙ id)
          go false e r = peer_heard (Within early term) n.raft.probe m.raft.peers v heard r
