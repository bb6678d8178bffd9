-- Each run of the world has a history, however much stands of what failing disks broke off.
use Rattle.std.proofs.Common.{◌≡◌, ◌≢◌, ℕ, suc, zero, ◌+◌, Bool, true, false, cond, if◌then◌else◌, List, [], ◌∷◌, ◌++◌, take, None, refl, ap, sym, subst, ◌∙◌, ⊎_elim, arith}
use Rattle.std.specs.Prelude.{bytes_eq, max}
use Rattle.std.proofs.lemmas.List.{append-nil}
use Rattle.rq_wire.specs.declared.config.Member.{Member}
use Rattle.rq_history.specs.History.{NodeId, Node as HistoryNode, History, Begin, Was, IsEarlier}
use Rattle.rq_raft.specs.Node.{RaftNode, Packet, StoredRecord, Persistent, persistent_after, one_of, started as raft_started}
use Rattle.rq_raft.specs.Truth.{history_node, PacketsAreTrue, Refines, Step}
use Rattle.rq_world.specs.declared.log_entry.LogEntry.{LogEntry}
use Rattle.rq_world.specs.Node.{Node, persistent_of, log_entries, Turn}
use Rattle.rq_world.specs.Rules.{started}
use Rattle.rq_world.specs.World.{NodeState, Running, Down, World, Act, Event, At, Stop, Fail, Start, FailStart, Clock, Run as Events, First, Then, turn, set_node, acted, noted, happens_at, stops_at, fails_at, starts_at, fails_start, happens, members, world, IsPast}
use Rattle.rq_world.proofs.Tests.{if_case, id_true, id_false, id_self}
use Rattle.rq_world.proofs.Given.{Given, Run}
use Rattle.rq_world.proofs.Acts.{Acts, act_acts}

pub all_more : (h : History LogEntry) (ps qs : List (Packet LogEntry)) → PacketsAreTrue log_entries h ps → PacketsAreTrue log_entries h qs → PacketsAreTrue log_entries h (ps ++ qs)
all_more h [] qs s t = t
all_more h (p ∷ ps) qs s t = (s.0, all_more h ps qs s.1 t)

-- how much stands at each node of what was broken off
abbrev pub Choice : Type 0
Choice = NodeId → ℕ

abbrev pub choose : Choice → NodeId → ℕ → Choice
choose choice i k j = if bytes_eq j i then k else choice j

-- the node at a place; of one that is down the one that would start
abbrev pub raft_in : Choice → NodeId → NodeState → RaftNode LogEntry
raft_in choice i (Running n) = n.raft
raft_in choice i (Down kept rest) = raft_started i (persistent_after kept (take (choice i) rest))

-- the choice before an event
abbrev pub before_event : List Member → Event → Choice → Choice
before_event first (At i a) choice = choice
before_event first (Stop i a k) choice = choice
before_event first (Fail i a) choice = choice
before_event first (Start i k) choice = if one_of (members first) i then choose choice i k else choice
before_event first (FailStart i k) choice = choose choice i k
before_event first (Clock m) choice = choice

module _ (g : Given) where
  -- what a world is by a history
  pub record Fit (choice : Choice) (w : World) (h : History LogEntry) : Type 0 where
    pub lawful : Run g h
    pub fits : (i : NodeId) → Refines log_entries h i (raft_in choice i (w.nodes i))
    pub packets_are_true : PacketsAreTrue log_entries h w.sent

  -- the history goes on to that of the next world
  pub record Goes (choice : Choice) (h : History LogEntry) (w : World) : Type 0 where
    pub after : History LogEntry
    pub later : IsEarlier h after
    pub fit : Fit choice w after

  other : (choice : Choice) (i j : NodeId) (k : ℕ) (place : NodeState) → j ≢ i → raft_in (choose choice i k) j place ≡ raft_in choice j place
  other choice i j k (Running n) apart = refl
  other choice i j k (Down kept rest) apart = if_case (λ (m : ℕ). raft_started j (persistent_after kept (take m rest)) ≡ raft_started j (persistent_after kept (take (choice j) rest))) (bytes_eq j i) k (choice j) (λ e. absurd (apart (id_true j i e))) (λ e. refl)

  -- one place changes, and more was sent
  place_goes : (old choice : Choice) (h : History LogEntry) (w : World) (i : NodeId) (place : NodeState) (more : List (Packet LogEntry)) (next : World) → ((j : NodeId) → j ≢ i → raft_in old j (w.nodes j) ≡ raft_in choice j (w.nodes j)) → Fit old w h
      → (s : Step log_entries g.first h i (raft_in choice i place)) → PacketsAreTrue log_entries s.after more → next.nodes ≡ set_node g.first w.nodes i place → next.sent ≡ w.sent ++ more → Goes choice h next
  place_goes old choice h w i place more next same f s packets_are_true nodes sent = record {
    after = s.after;
    later = s.later;
    fit = record {
      lawful = s.lawful;
      fits = λ j. subst (λ (p : NodeId → NodeState). Refines log_entries s.after j (raft_in choice j (p j))) (sym nodes) (fits j);
      packets_are_true = subst (PacketsAreTrue log_entries s.after) (sym sent) (all_more s.after w.sent more ((g.moves.stays h s.after s.later).0 w.sent f.packets_are_true) packets_are_true);
    };
  }
    where
      kept : (j : NodeId) → j ≢ i → Refines log_entries s.after j (raft_in choice j (w.nodes j))
      kept j apart = (g.moves.stays h s.after s.later).1 j (raft_in choice j (w.nodes j)) (s.others j apart) (subst (Refines log_entries h j) (same j apart) (f.fits j))

      fits : (j : NodeId) → Refines log_entries s.after j (raft_in choice j (set_node g.first w.nodes i place j))
      fits j = if_case (λ (p : NodeState). Refines log_entries s.after j (raft_in choice j p)) (bytes_eq j i) place (w.nodes j)
          (λ q. subst (λ (k : NodeId). Refines log_entries s.after k (raft_in choice k place)) (sym (id_true j i q)) s.fits)
          (λ q. kept j (λ x. id_false j i q x))

  none_more : (ps : List (Packet LogEntry)) → ps ≡ ps ++ []
  none_more ps = sym (append-nil ps)

  same_goes : (choice : Choice) (h : History LogEntry) (w next : World) → Fit choice w h → next.nodes ≡ w.nodes → next.sent ≡ w.sent → Goes choice h next
  same_goes choice h w next f nodes sent = record {
    after = h;
    later = λ j x was. was;
    fit = record {
      lawful = f.lawful;
      fits = λ i. subst (λ (p : NodeId → NodeState). Refines log_entries h i (raft_in choice i (p i))) (sym nodes) (f.fits i);
      packets_are_true = subst (PacketsAreTrue log_entries h) (sym sent) f.packets_are_true;
    };
  }

  -- the moves of an act
  abbrev act_step : (h : History LogEntry) (i : NodeId) (n : Node) (t : Turn) (a : Acts g h i n t) → Step log_entries g.first h i a.raft.node
  act_step h i n t a = record {
    after = a.moves.end.after;
    lawful = a.moves.end.lawful;
    later = λ j x w. a.moves.end.later j x (a.moves.to_mid.later j x w);
    others = λ j d. a.moves.end.others j d ∙ a.moves.to_mid.others j d;
    fits = a.moves.end.fits;
  }

  fits_at : (choice : Choice) (h : History LogEntry) (w : World) (i : NodeId) (place : NodeState) → w.nodes i ≡ place → Fit choice w h → Refines log_entries h i (raft_in choice i place)
  fits_at choice h w i place is f = subst (λ (p : NodeState). Refines log_entries h i (raft_in choice i p)) is (f.fits i)

  -- the turn of an act at a running node, whose Raft part is the turn's
  placed : (choice : Choice) (h : History LogEntry) (w : World) (i : NodeId) (n : Node) (act : Act) (t : Turn) → Fit choice w h → (m : RaftNode LogEntry) → t.node.raft ≡ m → (s : Step log_entries g.first h i m) → PacketsAreTrue log_entries s.after t.packets → Goes choice h (acted g.first w i n act t)
  placed choice h w i n act t f m e = subst (λ (x : RaftNode LogEntry). (s : Step log_entries g.first h i x) → PacketsAreTrue log_entries s.after t.packets → Goes choice h (acted g.first w i n act t)) e
      (λ s packets_are_true. place_goes choice choice h w i (Running t.node) t.packets (acted g.first w i n act t) (λ j no. refl) f s packets_are_true refl refl)

  acted_goes : (choice : Choice) (h : History LogEntry) (w : World) (i : NodeId) (n : Node) (act : Act) → w.nodes i ≡ Running n → Fit choice w h → Goes choice h (acted g.first w i n act (turn g.first w n act))
  acted_goes choice h w i n act is f =
      let t = turn g.first w n act in
      let a = act_acts g h i n w.sent w.moment act f.lawful (fits_at choice h w i (Running n) is f) f.packets_are_true in
      placed choice h w i n act t f a.raft.node a.is.node (act_step h i n t a) (subst (PacketsAreTrue log_entries a.moves.end.after) (sym a.is.packets) a.moves.packets_are_true)

  -- a stop behind the first k things
  stop_step : (choice : Choice) (h : History LogEntry) (w : World) (i : NodeId) (n : Node) (act : Act) (k : ℕ) → w.nodes i ≡ Running n → Fit choice w h → Step log_entries g.first h i (raft_started i (persistent_after (persistent_of n) (take k (turn g.first w n act).stored)))
  stop_step choice h w i n act k is f =
      let fits = fits_at choice h w i (Running n) is f in
      let a = act_acts g h i n w.sent w.moment act f.lawful fits f.packets_are_true in
      subst (λ (d : List (StoredRecord LogEntry)). Step log_entries g.first h i (raft_started i (persistent_after (persistent_of n) (take k d)))) (sym a.is.durable_is) (g.moves.stops h i n.raft a.raft n.boot k f.lawful fits a.moves)

  settled : (kept : Persistent LogEntry) (k : ℕ) → kept ≡ persistent_after kept (take k [])
  settled kept zero = refl
  settled kept (suc k) = refl

  stopped_goes : (choice : Choice) (h : History LogEntry) (w : World) (i : NodeId) (n : Node) (act : Act) (k : ℕ) → w.nodes i ≡ Running n → Fit choice w h → Goes choice h (stops_at g.first w i act k (Running n))
  stopped_goes choice h w i n act k is f =
      let kept = persistent_after (persistent_of n) (take k (turn g.first w n act).stored) in
      place_goes choice choice h w i (Down kept []) [] (stops_at g.first w i act k (Running n)) (λ j no. refl) f
      (subst (λ (x : Persistent LogEntry). Step log_entries g.first h i (raft_started i x)) (settled kept (choice i)) (stop_step choice h w i n act k is f)) tt refl (none_more w.sent)

  failed_goes : (choice : Choice) (h : History LogEntry) (w : World) (i : NodeId) (n : Node) (act : Act) → w.nodes i ≡ Running n → Fit choice w h → Goes choice h (fails_at g.first w i act (Running n))
  failed_goes choice h w i n act is f =
      place_goes choice choice h w i (Down (persistent_of n) (turn g.first w n act).stored) [] (fails_at g.first w i act (Running n)) (λ j no. refl) f (stop_step choice h w i n act (choice i) is f) tt refl (none_more w.sent)

  rested : (h : History LogEntry) (i : NodeId) (n : RaftNode LogEntry) → Run g h → Refines log_entries h i n → Step log_entries g.first h i n
  rested h i n l f = record { after = h; lawful = l; later = λ j x w. w; others = λ j d. refl; fits = f }

  -- what is opened is what was chosen
  opened : (choice : Choice) (h : History LogEntry) (w : World) (i : NodeId) (k : ℕ) (kept : Persistent LogEntry) (rest : List (StoredRecord LogEntry)) → w.nodes i ≡ Down kept rest → Fit (choose choice i k) w h → Refines log_entries h i (raft_started i (persistent_after kept (take k rest)))
  opened choice h w i k kept rest is f =
      let here : choose choice i k i ≡ k = ap (λ (b : Bool). cond b k (choice i)) (id_self i) in
      subst (λ (m : ℕ). Refines log_entries h i (raft_started i (persistent_after kept (take m rest)))) here (fits_at (choose choice i k) h w i (Down kept rest) is f)

  -- where the node runs the choice is none
  rechosen : (choice : Choice) (h : History LogEntry) (w : World) (i : NodeId) (k : ℕ) (n : Node) → w.nodes i ≡ Running n → Fit (choose choice i k) w h → Fit choice w h
  rechosen choice h w i k n is f = record {
    lawful = f.lawful;
    packets_are_true = f.packets_are_true;
    fits = λ j. go j (bytes_eq j i) refl;
  }
    where
      go : (j : NodeId) (b : Bool) → bytes_eq j i ≡ b → Refines log_entries h j (raft_in choice j (w.nodes j))
      go j true e =
          let ji = id_true j i e in
          subst (λ (l : NodeId). Refines log_entries h l (raft_in choice l (w.nodes l))) (sym ji) (subst (λ (p : NodeState). Refines log_entries h i (raft_in choice i p)) (sym is) (fits_at (choose choice i k) h w i (Running n) is f))
      go j false e = subst (Refines log_entries h j) (other choice i j k (w.nodes j) (λ x. id_false j i e x)) (f.fits j)

  started_goes : (choice : Choice) (h : History LogEntry) (w : World) (i : NodeId) (k : ℕ) (kept : Persistent LogEntry) (rest : List (StoredRecord LogEntry)) → w.nodes i ≡ Down kept rest → Fit (choose choice i k) w h → Goes choice h (starts_at g.first w i k (Down kept rest))
  started_goes choice h w i k kept rest is f =
      place_goes (choose choice i k) choice h w i (Running (started g.first i (persistent_after kept (take k rest))).node) [] (starts_at g.first w i k (Down kept rest)) (λ j no. other choice i j k (w.nodes j) no) f
      (rested h i (raft_started i (persistent_after kept (take k rest))) f.lawful (opened choice h w i k kept rest is f)) tt refl (none_more w.sent)

  failed_start : (choice : Choice) (h : History LogEntry) (w : World) (i : NodeId) (k : ℕ) (kept : Persistent LogEntry) (rest : List (StoredRecord LogEntry)) → w.nodes i ≡ Down kept rest → Fit (choose choice i k) w h → Goes choice h (fails_start g.first w i k (Down kept rest))
  failed_start choice h w i k kept rest is f =
      let full = persistent_after kept (take k rest) in
      place_goes (choose choice i k) choice h w i (Down full (started g.first i full).stored) [] (fails_start g.first w i k (Down kept rest)) (λ j no. other choice i j k (w.nodes j) no) f
      (rested h i (raft_started i (persistent_after full (take (choice i) (started g.first i full).stored))) f.lawful (booted full (choice i) (opened choice h w i k kept rest is f))) tt refl (none_more w.sent)
    where
      booted : (full : Persistent LogEntry) (m : ℕ) → Refines log_entries h i (raft_started i full) → Refines log_entries h i (raft_started i (persistent_after full (take m (started g.first i full).stored)))
      booted full zero fits = fits
      booted full (suc zero) fits = g.moves.starts h i full fits (full.boot + 1)
      booted full (suc (suc m)) fits = g.moves.starts h i full fits (full.boot + 1)

  goes : (choice : Choice) (h : History LogEntry) (w : World) (e : Event) → Fit (before_event g.first e choice) w h → Goes choice h (happens g.first w e)
  goes choice h w (At i act) f = go (w.nodes i) refl
    where
      go : (p : NodeState) → w.nodes i ≡ p → Goes choice h (happens_at g.first w i act p)
      go (Running n) is = acted_goes choice h w i n act is f
      go (Down kept rest) is = same_goes choice h w (noted g.first w i act) f refl refl
  goes choice h w (Stop i act k) f = go (w.nodes i) refl
    where
      go : (p : NodeState) → w.nodes i ≡ p → Goes choice h (stops_at g.first w i act k p)
      go (Running n) is = stopped_goes choice h w i n act k is f
      go (Down kept rest) is = same_goes choice h w (noted g.first w i act) f refl refl
  goes choice h w (Fail i act) f = go (w.nodes i) refl
    where
      go : (p : NodeState) → w.nodes i ≡ p → Goes choice h (fails_at g.first w i act p)
      go (Running n) is = failed_goes choice h w i n act is f
      go (Down kept rest) is = same_goes choice h w (noted g.first w i act) f refl refl
  goes choice h w (Start i k) f = by_member (one_of (members g.first) i) f
    where
      go : (p : NodeState) → w.nodes i ≡ p → Fit (choose choice i k) w h → Goes choice h (starts_at g.first w i k p)
      go (Running n) is f = same_goes choice h w w (rechosen choice h w i k n is f) refl refl
      go (Down kept rest) is f = started_goes choice h w i k kept rest is f

      by_member : (b : Bool) → Fit (cond b (choose choice i k) choice) w h → Goes choice h (cond b (starts_at g.first w i k (w.nodes i)) w)
      by_member true f = go (w.nodes i) refl f
      by_member false f = same_goes choice h w w f refl refl
  goes choice h w (FailStart i k) f = go (w.nodes i) refl
    where
      go : (p : NodeState) → w.nodes i ≡ p → Goes choice h (fails_start g.first w i k p)
      go (Running n) is = same_goes choice h w w (rechosen choice h w i k n is f) refl refl
      go (Down kept rest) is = failed_start choice h w i k kept rest is f
  goes choice h w (Clock moment) f = same_goes choice h w (record w { moment = max w.moment moment }) f refl refl

  -- ---- runs

  -- a moment of the run, and the history up to it
  pub record Moment (p : Events) (h : History LogEntry) : Type 0 where
    pub choice : Choice
    pub before : History LogEntry
    pub fit : Fit choice (world g.first p) before
    pub was : (o : Events) → IsPast g.first o p → (i : NodeId) (n : Node) → (world g.first o).nodes i ≡ Running n → Was before i (history_node n.raft)
    pub later : IsEarlier before h

  -- the run and its history
  pub record Sim (choice : Choice) (run : Events) : Type 0 where
    pub history : History LogEntry
    pub fit : Fit choice (world g.first run) history
    pub moment : (p : Events) → IsPast g.first p run → Moment p history

  moment_on : (p : Events) (h k : History LogEntry) → IsEarlier h k → Moment p h → Moment p k
  moment_on p h k later m = record { choice = m.choice; before = m.before; fit = m.fit; was = m.was; later = λ j x w. later j x (m.later j x w) }

  was_fit : (choice : Choice) (w : World) (h : History LogEntry) (i : NodeId) (n : Node) → w.nodes i ≡ Running n → Fit choice w h → Was h i (history_node n.raft)
  was_fit choice w h i n is f = subst (λ (x : HistoryNode LogEntry). Was h i x) (fits_at choice h w i (Running n) is f).is ((g.moments h i).0)

  pub was_at : (choice : Choice) (run p : Events) (s : Sim choice run) → IsPast g.first p run → (i : NodeId) (n : Node) → (world g.first p).nodes i ≡ Running n → Was s.history i (history_node n.raft)
  was_at choice run p s past i n is = let m = s.moment p past in m.later i (history_node n.raft) (was_fit m.choice (world g.first p) m.before i n is m.fit)

  next_sim : (choice : Choice) (run : Events) (e : Event) → Sim (before_event g.first e choice) run → Sim choice (Then run e)
  next_sim choice run e s =
      let n = goes choice s.history (world g.first run) e s.fit in
      record {
        history = n.after;
        fit = n.fit;
        moment = λ p past. ⊎_elim
            (λ (q : p ≡ Then run e). subst (λ (r : Events). Moment r n.after) (sym q) (record { choice = choice; before = n.after; fit = n.fit; was = was n; later = λ j x w. w }))
            (λ (q : IsPast g.first p run). moment_on p s.history n.after n.later (s.moment p q)) past;
      }
    where
      was : (n : Goes choice s.history (world g.first (Then run e))) → (o : Events) → IsPast g.first o (Then run e) → (i : NodeId) (m : Node) → (world g.first o).nodes i ≡ Running m → Was n.after i (history_node m.raft)
      was n o past i m is = ⊎_elim
          (λ (q : o ≡ Then run e). was_fit choice (world g.first (Then run e)) n.after i m (subst (λ (r : Events). (world g.first r).nodes i ≡ Running m) q is) n.fit)
          (λ (q : IsPast g.first o run). n.later i (history_node m.raft) (was_at (before_event g.first e choice) run o s q i m is)) past

  first_fit : (choice : Choice) → Fit choice (world g.first First) Begin
  first_fit choice = record { lawful = tt; packets_are_true = tt; fits = λ i. at i (choice i) }
    where
      new : Persistent LogEntry
      new = record { term = 0; vote = None; boot = 0; base = 0; log = [] }

      begun : (i : NodeId) → Refines log_entries Begin i (raft_started i new)
      begun i = record { id = refl; is = refl; done = omega arith; based = omega arith; votes = λ a. absurd (cc); peers = λ a. absurd (cc); first = λ a. absurd (cc) }

      at : (i : NodeId) (m : ℕ) → Refines log_entries Begin i (raft_started i (persistent_after new (take m [])))
      at i zero = begun i
      at i (suc m) = begun i

  pub sim : (run : Events) (choice : Choice) → Sim choice run
  sim First choice = record {
    history = Begin;
    fit = first_fit choice;
    moment = λ p past. subst (λ (r : Events). Moment r Begin) (sym past) (record {
      choice = choice;
      before = Begin;
      fit = first_fit choice;
      was = λ o past2 i n is. absurd (never o past2 i n is);
      later = λ j x w. w;
    });
  }
    where
      never : (o : Events) → o ≡ First → (i : NodeId) (n : Node) → (world g.first o).nodes i ≡ Running n → Prim.⊥
      never o past i n is = no (subst (λ (r : Events). (world g.first r).nodes i ≡ Running n) past is)
        where
          no : (world g.first First).nodes i ≡ Running n → Prim.⊥
          no e = cc
  sim (Then run e) choice = next_sim choice run e (sim run (before_event g.first e choice))

  -- the history of a run goes on from that of its beginning
  pub sim_later : (run : Events) (e : Event) (choice : Choice) → IsEarlier (sim run (before_event g.first e choice)).history (sim (Then run e) choice).history
  unfolding sim next_sim
  sim_later run e choice = (goes choice (sim run (before_event g.first e choice)).history (world g.first run) e (sim run (before_event g.first e choice)).fit).later
