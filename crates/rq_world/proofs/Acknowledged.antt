-- What was acknowledged before a read was asked is in the first_part that it reads.
use Rattle.std.proofs.Common.{◌≡◌, ◌<◌, ◌≤◌, ℕ, zero, suc, ◌+◌, ◌-◌, ◌==◌, ◌&&◌, max, nat_eq, List, [], ◌∷◌, ◌++◌, length, slice_get, Bool, true, false, if◌then◌else◌, Option, Some, None, refl, sym, ◌∙◌, ap, subst, inl, inr, ⊎_elim, arith}
use Rattle.std.specs.Prelude.{nat_le}
use Rattle.std.proofs.lemmas.List.{append-nil, append_assoc}
use Rattle.rq_wire.specs.declared.config.Member.{Member}
use Rattle.rq_statement.specs.declared.item.Item.{Item}
use Rattle.rq_statement.specs.declared.res.Res.{Res}
use Rattle.rq_request.specs.declared.say.Say.{Say}
use Rattle.rq_request.specs.declared.say.Say.TheVariants.{Results}
use Rattle.rq_history.specs.History.{NodeId, Node as HistoryNode, term_at}
use Rattle.rq_history.specs.Laws.{LaterEntriesCover}
use Rattle.rq_raft.specs.Entries.{entry_view, voters}
use Rattle.rq_raft.specs.Truth.{role_of, history_node, Refines}
use Rattle.rq_raft.specs.declared.role.Role.{Role}
use Rattle.rq_raft.specs.declared.role.Role.TheVariants.{Follower, Candidate, Leader}
use Rattle.rq_raft.specs.Node.{is_leader}
use Rattle.rq_world.specs.declared.log_entry.LogEntry.{LogEntry}
use Rattle.rq_statement.specs.declared.command.Command.{Command}
use Rattle.rq_request.specs.declared.ask.Level.{Level}
use Rattle.rq_request.specs.declared.ask.Level.TheVariants as level
use Rattle.rq_world.specs.declared.waiting.Waiting.{Waiting}
use Rattle.rq_world.specs.Node.{Pass, PendingRead, Node, log_entries, Turn}
use Rattle.rq_world.specs.Reads.{is_confirmed, is_ready}
use Rattle.rq_world.specs.World.{Op, Queue, Read, Note, Asked, Answered, NodeState, Act, Ask, Event, At, Run as Events, First, Then, note_of, place_of, at_place, world, IsPast, chosen}
use Rattle.rq_world.specs.Laws.{Runs, Leads}
use Rattle.rq_world.specs.Promise.{op_of, IsAcknowledged, IsNumbered}
use Rattle.rq_world.specs.Passes.{PassCoversAcknowledged}
use Rattle.rq_world.specs.Covers.{before_ask, IsAcknowledgedBefore, Covers, NeedsLeader, IsPlaced, EachReadCovers}
use Rattle.rq_world.proofs.Tests.{and_true, eq_true, le_true}
use Rattle.rq_world.proofs.Given.{Given}
use Rattle.rq_world.proofs.Safety.{here}
use Rattle.rq_world.proofs.Simulation.{Choice, raft_in, sim, was_at}
use Rattle.rq_world.proofs.Histories.{RightNote, all_get, right_op, op_kept}
use Rattle.rq_world.proofs.Waits.{entry_of, CommandFits as FitsEntry, Waits}
use Rattle.rq_world.proofs.Promises.{Serves, Sound, sound}
use Rattle.rq_world.proofs.Passes.{Known}
use Rattle.rq_world.proofs.Covering.{Acted, Still, kind, t, pr, runs_next, who_runs, since, pass_covers}
use Rattle.rq_world.proofs.Answering.{note_both, HasReading, HasWaiting, has_at, IsQuick, ReadingFrom, WaitingFrom, IsNext, IsOwn, IsDue, Source, Own, Next, Due, act_gives}
use Rattle.rq_world.proofs.Apart.{wait_get, book_of, IsAnswered, still_old, more, book_is, asks, source_of, due_asked, Fresh, kinds, new_number, passed}

-- ---- what was noted before an ask

before_more : (book more : List Note) (number : ℕ) (op : Op) → op_of book number ≡ Some op → before_ask (book ++ more) number ≡ before_ask book number
before_more [] more number op is = absurd (cc)
before_more (Asked k home o ∷ book) more number op is = go (nat_eq k number) is (λ e. before_more book more number op e)
  where
    go : (b : Bool) → (if b then Some o else op_of book number) ≡ Some op → (op_of book number ≡ Some op → before_ask (book ++ more) number ≡ before_ask book number)
        → (if b then [] else Asked k home o ∷ before_ask (book ++ more) number) ≡ (if b then [] else Asked k home o ∷ before_ask book number)
    go true e on = refl
    go false e on = ap (λ (l : List Note). Asked k home o ∷ l) (on e)
before_more (Answered k say place ∷ book) more number op is = ap (λ (l : List Note). Answered k say place ∷ l) (before_more book more number op is)

before_new : (book : List Note) (number : ℕ) (asked : NodeId) (op : Op) (more : List Note) → op_of book number ≡ None → before_ask (book ++ Asked number asked op ∷ more) number ≡ book
before_new [] number asked op more is = ap (λ (b : Bool). if b then [] else Asked number asked op ∷ before_ask more number) (same number)
  where
    same : (k : ℕ) → nat_eq k k ≡ true
    same k = grind arith
before_new (Asked k home o ∷ book) number asked op more is = go (nat_eq k number) is (λ e. before_new book number asked op more e)
  where
    go : (b : Bool) → (if b then Some o else op_of book number) ≡ None → (op_of book number ≡ None → before_ask (book ++ Asked number asked op ∷ more) number ≡ book)
        → (if b then [] else Asked k home o ∷ before_ask (book ++ Asked number asked op ∷ more) number) ≡ Asked k home o ∷ book
    go true e on = absurd (cc)
    go false e on = ap (λ (l : List Note). Asked k home o ∷ l) (on e)
before_new (Answered k say place ∷ book) number asked op more is = ap (λ (l : List Note). Answered k say place ∷ l) (before_new book number asked op more is)

before_get : (book : List Note) (number k : ℕ) (q : Note) → slice_get (before_ask book number) k ≡ Some q → slice_get book k ≡ Some q
before_get [] number k q e = e
before_get (Asked j home o ∷ book) number k q e = go k (nat_eq j number) e (λ m f. before_get book number m q f)
  where
    go : (k : ℕ) (b : Bool) → slice_get (if b then [] else Asked j home o ∷ before_ask book number) k ≡ Some q → ((m : ℕ) → slice_get (before_ask book number) m ≡ Some q → slice_get book m ≡ Some q) → slice_get (Asked j home o ∷ book) k ≡ Some q
    go k true e on = absurd (cc)
    go zero false e on = e
    go (suc k) false e on = on k e
before_get (Answered j say place ∷ book) number zero q e = e
before_get (Answered j say place ∷ book) number (suc k) q e = before_get book number k q e

term_there : (log : List LogEntry) (i : ℕ) (e : LogEntry) → 1 ≤ i → slice_get log (i - 1) ≡ Some e → term_at (entry_view log_entries) log i ≡ e.term
term_there log zero e le at = absurd (omega (arith, le))
term_there log (suc i) e le at =
    let one : suc i - 1 ≡ i = omega arith in
    ap (Rattle.rq_history.specs.History.term_or_zero (entry_view log_entries)) (ap (slice_get log) (sym one) ∙ at)

leads_yes : (r : Role) → is_leader r ≡ true → r ≡ Leader
leads_yes Follower e = absurd (cc)
leads_yes Candidate e = absurd (cc)
leads_yes Leader e = refl

-- what waits waits at a leader
pub has_lead : (first : List Member) (book : List Note) (n : Node) → Serves first book n → (w : Waiting) → HasWaiting w n.waiting → n.raft.role ≡ Leader
has_lead first book n s w h = go n.raft.role refl
  where
    nobody : n.waiting ≡ [] → Prim.⊥
    nobody none = subst (HasWaiting w) none h

    go : (r : Role) → n.raft.role ≡ r → n.raft.role ≡ Leader
    go Leader e = e
    go Follower e = absurd (nobody (s.idle (λ q. differ e q)).0)
      where
        differ : n.raft.role ≡ Follower → n.raft.role ≡ Leader → Prim.⊥
        differ x y = cc
    go Candidate e = absurd (nobody (s.idle (λ q. differ e q)).0)
      where
        differ : n.raft.role ≡ Candidate → n.raft.role ≡ Leader → Prim.⊥
        differ x y = cc

module _ (g : Given) (known : Known g) (later : LaterEntriesCover (entry_view log_entries)) where
  -- ---- earlier moments

  pub numbered_past : (p run : Events) → IsPast g.first p run → IsNumbered g.first run → IsNumbered g.first p
  numbered_past p First past n = subst (IsNumbered g.first) (sym past) n
  numbered_past p (Then run e) (inl same) n = subst (IsNumbered g.first) (sym same) n
  numbered_past p (Then run e) (inr past) n = numbered_past p run past n.0

  pub book_next : (run : Events) (e : Event) → (l : List Note) × (book_of g known (Then run e) ≡ book_of g known run ++ l)
  book_next run e = ⊎_elim
      (λ (a : Acted g known run e). (note_of g.first a.who a.act ++ at_place g.first (place_of g.first a.node a.act) (t g known run e a).answers, ap (λ (w : Rattle.rq_world.specs.World.World). w.book) a.next))
      (λ (k : Still g known run e). (k.more, k.book)) (kind g known run e)

  pub book_past : (p run : Events) → IsPast g.first p run → (l : List Note) × (book_of g known run ≡ book_of g known p ++ l)
  book_past p First past = ([], ap (book_of g known) (sym past) ∙ sym (append-nil (book_of g known p)))
  book_past p (Then run e) (inl same) = ([], ap (book_of g known) (sym same) ∙ sym (append-nil (book_of g known p)))
  book_past p (Then run e) (inr past) =
      let b = book_past p run past in
      let n = book_next run e in
      (b.0 ++ n.0, n.1 ∙ ap (λ (l : List Note). l ++ n.0) b.1 ∙ append_assoc (book_of g known p) b.0 n.0)

  -- ---- what was acknowledged was committed

  -- a node had committed the index at a moment
  record IsCommitted (run : Events) (index : ℕ) : Type 0 where
    moment : Events
    past : IsPast g.first moment run
    who : NodeId
    node : Node
    runs : Runs g.first moment who node
    le : index ≤ node.raft.commit

  committed : (run : Events) → IsNumbered g.first run → (k number place : ℕ) (say : Say) → IsAnswered g known run k number place say → IsCommitted run place
  committed First numbered k number place say w = absurd (cc)
  committed (Then run e) numbered k number place say w = ⊎_elim
      (λ (a : Acted g known run e). ⊎_elim
      (λ (o : IsAnswered g known run k number place say). on (committed run numbered.0 k number place say o))
      (λ (n : (m : ℕ) × (k ≡ length (book_of g known run) + m) × Fresh g known run e s a (new_number g known run e a numbered.1) b m number place).
      record { moment = run; past = inr (here g run); who = a.who; node = a.node; runs = a.runs; le = omega (arith, n.2.place_is, n.2.less) })
      (kinds g known run e s a (new_number g known run e a numbered.1) b k number place say w))
      (λ (q : Still g known run e). on (committed run numbered.0 k number place say (still_old g known run e s q k number place say w)))
      (kind g known run e)
    where
      s : Sound g known.lead_on run
      s = sound g known.lead_on run numbered.0

      b : Rattle.rq_world.proofs.Apart.Passed g known run
      b = passed g known run numbered.0

      on : IsCommitted run place → IsCommitted (Then run e) place
      on c = record { moment = c.moment; past = inr c.past; who = c.who; node = c.node; runs = c.runs; le = c.le }

  pub passes_cover : PassCoversAcknowledged g.first
  passes_cover q p numbered past i term n m lead lead2 ready k number place say at is =
      let c = committed p numbered k number place say (at, is) in
      let high = pass_covers g known q p c.moment past c.past i c.who term n m c.node lead lead2 ready c.runs in
      omega (arith, c.le, high)

  -- ---- asks that wait were asked behind a moment

  record Started (run : Events) (i : NodeId) (number : ℕ) (moment : Events) : Type 0 where
    past : IsPast g.first moment run
    before : before_ask (book_of g known run) number ≡ book_of g known moment
    op : Op
    asked : op_of (book_of g known run) number ≡ Some op
    timeout : ℕ
    event : IsPast g.first (Then moment (At i (Ask number timeout op))) run

  started_on : (run : Events) (e : Event) (i : NodeId) (number : ℕ) (moment : Events) → Started run i number moment → Started (Then run e) i number moment
  started_on run e i number moment s =
      let n = book_next run e in
      record {
        past = inr s.past;
        before = ap (λ (l : List Note). before_ask l number) n.1 ∙ before_more (book_of g known run) n.0 number s.op s.asked ∙ s.before;
        op = s.op;
        asked = ap (λ (l : List Note). op_of l number) n.1 ∙ op_kept (book_of g known run) n.0 number s.op s.asked;
        timeout = s.timeout;
        event = inr s.event;
      }

  -- its pass was begun there, by the leader of its term
  record ReadBegun (run : Events) (i : NodeId) (r : PendingRead) : Type 0 where
    moment : Events
    node : Node
    started : Started run i r.pass.id moment
    leads : Leads g.first moment i r.pass.term node
    mark : r.pass.mark ≡ node.raft.probe
    least : r.pass.least ≡ max node.raft.commit node.raft.first_index

  -- of an ask that wasn't queued: its entry stands behind all that the leader had there
  record WaitBegun (run : Events) (i : NodeId) (term : ℕ) (w : Waiting) : Type 0 where
    moment : Events
    node : Node
    started : Started run i w.number moment
    leads : Leads g.first moment i term node
    behind : length node.raft.log < w.index

  read_on : (run : Events) (e : Event) (i : NodeId) (r : PendingRead) → ReadBegun run i r → ReadBegun (Then run e) i r
  read_on run e i r b = record { moment = b.moment; node = b.node; started = started_on run e i r.pass.id b.moment b.started; leads = b.leads; mark = b.mark; least = b.least }

  wait_on : (run : Events) (e : Event) (i : NodeId) (term : ℕ) (w : Waiting) → WaitBegun run i term w → WaitBegun (Then run e) i term w
  wait_on run e i term w b = record { moment = b.moment; node = b.node; started = started_on run e i w.number b.moment b.started; leads = b.leads; behind = b.behind }

  record Begun (run : Events) : Type 0 where
    pending_reads : (i : NodeId) (n : Node) → Runs g.first run i n → (r : PendingRead) → HasReading r n.pending_reads → ReadBegun run i r
    waitings : (i : NodeId) (n : Node) → Runs g.first run i n → (w : Waiting) → HasWaiting w n.waiting → w.sequence ≡ None → WaitBegun run i n.raft.term w

  module _ (run : Events) (e : Event) (numbered : IsNumbered g.first (Then run e)) (a : Acted g known run e) (b : Begun run) where
    abbrev s : Sound g known.lead_on run
    s = sound g known.lead_on run numbered.0

    abbrev next : Sound g known.lead_on (Then run e)
    next = sound g known.lead_on (Then run e) numbered

    abbrev new : (number timeout : ℕ) (op : Op) → a.act ≡ Ask number timeout op → op_of (book_of g known run) number ≡ None
    new = new_number g known run e a numbered.1

    abbrev turn : Turn
    turn = t g known run e a

    -- the ask of this act
    starts : (number timeout : ℕ) (op : Op) → a.act ≡ Ask number timeout op → Started (Then run e) a.who number run
    starts number timeout op is =
        let said = at_place g.first (place_of g.first a.node a.act) turn.answers in
        let book : book_of g known (Then run e) ≡ book_of g known run ++ (note_of g.first a.who a.act ++ said) = ap (λ (w : Rattle.rq_world.specs.World.World). w.book) a.next in
        let asked : book_of g known (Then run e) ≡ book_of g known run ++ (Asked number a.who op ∷ said) = book ∙ ap (λ (x : Act). book_of g known run ++ (note_of g.first a.who x ++ said)) is in
        record {
          past = inr (here g run);
          before = ap (λ (l : List Note). before_ask l number) asked ∙ before_new (book_of g known run) number a.who op said (new number timeout op is);
          op = op;
          asked = ap (λ (l : List Note). op_of l number) book ∙ asks g known run e s a new (passed g known run numbered.0) number timeout op is;
          timeout = timeout;
          event = inl (ap (Then run) (sym (a.event ∙ ap (At a.who) is)));
        }

    reading_from : (r : PendingRead) → ReadingFrom g a.node a.act r → ReadBegun (Then run e) a.who r
    reading_from r (inl h) = read_on run e a.who r (b.pending_reads a.who a.node a.runs r h)
    reading_from r (inr n) = record {
      moment = run;
      node = a.node;
      started = starts r.pass.id r.timeout (Read r.items level.Linearizable n.limit) n.act;
      leads = record { runs = a.runs; role = n.leads; in_term = sym (ap (λ (p : Pass). p.term) n.pass) };
      mark = ap (λ (p : Pass). p.mark) n.pass;
      least = ap (λ (p : Pass). p.least) n.pass;
    }

    waiting_from : (w : Waiting) → turn.node.raft.role ≡ Leader → WaitingFrom g a.node a.act w → w.sequence ≡ None → WaitBegun (Then run e) a.who turn.node.raft.term w
    waiting_from w lead (inl h) none =
        let leads = has_lead g.first (book_of g known run) a.node (s.serve a.who a.node a.runs) w h in
        subst (λ (k : ℕ). WaitBegun (Then run e) a.who k w) (sym ((pr g known run e a).on leads lead)) (wait_on run e a.who a.node.raft.term w (b.waitings a.who a.node a.runs w h none))
    waiting_from w lead (inr (inr n)) none = absurd (differ (sym n.sequence ∙ none))
      where
        differ : Some n.held.sequence ≡ None → Prim.⊥
        differ e = cc
    waiting_from w lead (inr (inl n)) none = record {
      moment = run;
      node = a.node;
      started = starts w.number w.timeout n.op n.act;
      leads = record { runs = a.runs; role = n.leads; in_term = sym ((pr g known run e a).on n.leads lead) };
      behind = omega (arith, n.index);
    }

    acted_begun : Begun (Then run e)
    acted_begun = record {
      pending_reads = λ j m up r h. ⊎_elim
          (λ (p : (j ≡ a.who) × (turn.node ≡ m)). subst (λ (i : NodeId). ReadBegun (Then run e) i r) (sym p.0)
          (reading_from r (gives.pending_reads r (subst (λ (y : Node). HasReading r y.pending_reads) (sym p.1) h))))
          (λ (o : Runs g.first run j m). read_on run e j r (b.pending_reads j m o r h))
          (who_runs g known run e a j m up);
      waitings = λ j m up w h none. ⊎_elim
          (λ (p : (j ≡ a.who) × (turn.node ≡ m)).
          let lead = has_lead g.first (book_of g known (Then run e)) m (next.serve j m up) w h in
          subst (λ (y : Node). WaitBegun (Then run e) j y.raft.term w) p.1 (subst (λ (i : NodeId). WaitBegun (Then run e) i turn.node.raft.term w) (sym p.0)
          (waiting_from w (subst (λ (y : Node). y.raft.role ≡ Leader) (sym p.1) lead) (gives.waitings w (subst (λ (y : Node). HasWaiting w y.waiting) (sym p.1) h)) none)))
          (λ (o : Runs g.first run j m). wait_on run e j m.raft.term w (b.waitings j m o w h none))
          (who_runs g known run e a j m up);
    }
      where
        gives : Rattle.rq_world.proofs.Answering.Gives g a.node a.act turn
        gives = act_gives g known.lead_on (world g.first run).sent (world g.first run).moment a.node a.act

  still_begun : (run : Events) (e : Event) → IsNumbered g.first (Then run e) → Still g known run e → Begun run → Begun (Then run e)
  still_begun run e numbered k b = record {
    pending_reads = λ j m up r h. ⊎_elim
        (λ (o : Runs g.first run j m). read_on run e j r (b.pending_reads j m o r h))
        (λ (f : (m.raft.role ≡ Follower) × (m.queue ≡ [])). absurd (subst (HasReading r) ((next.serve j m up).idle (λ q. differ m f.0 q)).1 h))
        (k.nodes j m up);
    waitings = λ j m up w h none. ⊎_elim
        (λ (o : Runs g.first run j m). wait_on run e j m.raft.term w (b.waitings j m o w h none))
        (λ (f : (m.raft.role ≡ Follower) × (m.queue ≡ [])). absurd (subst (HasWaiting w) ((next.serve j m up).idle (λ q. differ m f.0 q)).0 h))
        (k.nodes j m up);
  }
    where
      next : Sound g known.lead_on (Then run e)
      next = sound g known.lead_on (Then run e) numbered

      differ : (m : Node) → m.raft.role ≡ Follower → m.raft.role ≡ Leader → Prim.⊥
      differ m x y = cc

  begun : (run : Events) → IsNumbered g.first run → Begun run
  begun First numbered = record { pending_reads = λ i n up. absurd (cc); waitings = λ i n up. absurd (cc) }
  begun (Then run e) numbered = ⊎_elim
      (λ (a : Acted g known run e). acted_begun run e numbered a (begun run numbered.0))
      (λ (k : Still g known run e). still_begun run e numbered k (begun run numbered.0))
      (kind g known run e)

  -- ---- covering

  -- what was acknowledged before an ask was committed at the moment of the ask
  acknowledged : (q p : Events) (i : NodeId) (number index : ℕ) → IsNumbered g.first q → Started q i number p → IsAcknowledgedBefore (book_of g known q) number index → IsCommitted p index
  acknowledged q p i number index numbered st a =
      let np = numbered_past p q st.past numbered in
      let s = sound g known.lead_on p np in
      let at : slice_get (book_of g known p) a.k ≡ Some (Answered a.write a.say index) = subst (λ (l : List Note). slice_get l a.k ≡ Some (Answered a.write a.say index)) st.before a.noted in
      let right = subst (RightNote g.first (chosen g.first p) (book_of g known p)) at (all_get g.first (chosen g.first p) (book_of g known p) (book_of g known p) a.k s.right) in
      let o = right_op g.first (chosen g.first p) (op_of (book_of g known p) a.write) a.say index right in
      let l = book_past p q st.past in
      let kept = ap (λ (b : List Note). op_of b a.write) l.1 ∙ op_kept (book_of g known p) l.0 a.write o.0 o.1 in
      committed p np a.k a.write index a.say (at, subst (λ (x : Option Op). IsAcknowledged x a.say) (kept ∙ sym o.1) a.is_write)

  none : Choice
  none i = 0

  module _ (run : Events) (e : Event) (numbered : IsNumbered g.first (Then run e)) (a : Acted g known run e) where
    abbrev b : Begun run
    b = begun run numbered.0

    abbrev q : Events
    q = Then run e

    abbrev tn : Node
    tn = (t g known run e a).node

    -- a read whose pass is due
    due_covers : (number place index : ℕ) → IsDue g a.node a.act tn.raft number place → IsAcknowledgedBefore (book_of g known q) number index → index ≤ place
    due_covers number place index d ack =
        let r = d.reading in
        let k = reading_from run e numbered a b r d.from in
        let c = acknowledged q k.moment a.who number index numbered (subst (λ (m : ℕ). Started q a.who m k.moment) d.number_is k.started) ack in
        let ready = and_true (is_ready g.first tn.raft r.pass) (nat_le r.pass.least tn.raft.applied) d.due in
        let lead = and_true (is_leader tn.raft.role && (tn.raft.term == r.pass.term)) (is_confirmed g.first tn.raft r.pass.mark) ready.0 in
        let both = and_true (is_leader tn.raft.role) (tn.raft.term == r.pass.term) lead.0 in
        let leads : Leads g.first q a.who r.pass.term tn = record { runs = runs_next g known run e a; role = leads_yes tn.raft.role both.0; in_term = eq_true tn.raft.term r.pass.term both.1 } in
        let high = pass_covers g known q k.moment c.moment k.started.past c.past a.who c.who r.pass.term k.node tn c.node k.leads leads (subst (λ (m : ℕ). is_confirmed g.first tn.raft m ≡ true) k.mark lead.1) c.runs in
        omega (arith, c.le, high, k.least, le_true r.pass.least tn.raft.applied ready.1, d.place_is)

    -- a read that is an entry
    entry_covers : (m number place index : ℕ) → (n : IsNext g a.node a.act tn.raft m number place) → n.waiting.sequence ≡ None → IsAcknowledgedBefore (book_of g known q) number index → index < place
    entry_covers m number place index n none_queued ack =
        let w = n.waiting in
        let has : HasWaiting w a.node.waiting = has_at w a.node.waiting m n.found in
        let k = b.waitings a.who a.node a.runs w has none_queued in
        let st = started_on run e a.who w.number k.moment k.started in
        let c = acknowledged q k.moment a.who number index numbered (subst (λ (j : ℕ). Started q a.who j k.moment) n.number_is st) ack in
        let waits : Waits (book_of g known run) a.node.raft.log a.node.raft.term w = wait_get (book_of g known run) a.node.raft.log a.node.raft.term a.node.waiting m w ((sound g known.lead_on run numbered.0).serve a.who a.node a.runs).waits n.found in
        let term = term_there a.node.raft.log w.index waits.entry waits.counts waits.stands ∙ waits.in_term in
        let since_then = since g known k.moment a.who a.node.raft.term k.node k.leads run k.started.past none in
        let early = sim g k.moment since_then.choice_then in
        let late = sim g run none in
        let f : Refines log_entries early.history a.who k.node.raft = subst (λ (y : NodeState). Refines log_entries early.history a.who (raft_in since_then.choice_then a.who y)) k.leads.runs (early.fit.fits a.who) in
        let low = later (voters g.first) early.history late.history early.fit.lawful late.fit.lawful since_then.later a.who a.node.raft.term
        (ap (λ (y : HistoryNode LogEntry). y.role) f.is ∙ ap role_of k.leads.role) (ap (λ (y : HistoryNode LogEntry). y.term) f.is ∙ k.leads.in_term)
        a.who (history_node a.node.raft) w.index (was_at g none run run late (here g run) a.who a.node a.runs) (omega (arith, n.at, n.less)) term
        (subst (λ (y : HistoryNode LogEntry). length y.log < w.index) (sym f.is) k.behind)
        c.who (history_node c.node.raft) (was_at g since_then.choice_then k.moment c.moment early c.past c.who c.node c.runs) in
        omega (arith, c.le, low, n.at, n.place_is)

    same_op : (number : ℕ) (x y : Op) → op_of (book_of g known q) number ≡ Some x → op_of (book_of g known q) number ≡ Some y → x ≡ y
    same_op number x y p r = one x y (sym p ∙ r)
      where
        one : (x y : Op) → Some x ≡ Some y → x ≡ y
        one x y e = cc

    abbrev new2 : (number timeout : ℕ) (op : Op) → a.act ≡ Ask number timeout op → op_of (book_of g known run) number ≡ None
    new2 = new_number g known run e a numbered.1

    abbrev s2 : Sound g known.lead_on run
    s2 = sound g known.lead_on run numbered.0

    abbrev b2 : Rattle.rq_world.proofs.Apart.Passed g known run
    b2 = passed g known run numbered.0

    book2 : book_of g known q ≡ book_of g known run ++ more g known run e s2 a new2 b2
    book2 = book_is g known run e s2 a new2 b2

    -- a read that waits for its entry wasn't queued
    next_entry : (m number place : ℕ) (items : List Item) (l : Level) (limit : Option ℕ) → op_of (book_of g known q) number ≡ Some (Read items l limit) → (n : IsNext g a.node a.act tn.raft m number place)
        → ((c : Command) × (entry_of (Read items l limit) ≡ Some c)) × (n.waiting.sequence ≡ None)
    next_entry m number place items l limit is n =
        let waits = wait_get (book_of g known run) a.node.raft.log a.node.raft.term a.node.waiting m n.waiting (s2.serve a.who a.node a.runs).waits n.found in
        let l2 = book_next run e in
        let kept : op_of (book_of g known q) number ≡ Some waits.op = ap (op_of (book_of g known q)) (sym n.number_is) ∙ ap (λ (b : List Note). op_of b n.waiting.number) l2.1 ∙ op_kept (book_of g known run) l2.0 n.waiting.number waits.op waits.asked in
        own waits.entry.command n.waiting.position n.waiting.sequence (subst (λ (o : Op). FitsEntry o n.waiting.position n.waiting.sequence waits.entry.command) (same_op number waits.op (Read items l limit) kept is) waits.fits)
      where
        own : (c : Command) (position : ℕ) (s : Option ℕ) → FitsEntry (Read items l limit) position s c → ((c : Command) × (entry_of (Read items l limit) ≡ Some c)) × (s ≡ None)
        own c position None f = ((c, f.0), refl)
        own c position (Some k) f = absurd (differ f.is_queue)
          where
            differ : {i : Rattle.rq_statement.specs.Statements.Statements} → Read items l limit ≡ Queue i true → Prim.⊥
            differ e = cc

    no_entry : (m number place : ℕ) (items : List Item) (l : Level) (limit : Option ℕ) → op_of (book_of g known q) number ≡ Some (Read items l limit) → entry_of (Read items l limit) ≡ None → IsNext g a.node a.act tn.raft m number place → Prim.⊥
    no_entry m number place items l limit is none n = let c = next_entry m number place items l limit is n in differ (sym none ∙ c.0.1)
      where
        differ : {c : Command} → None ≡ Some c → Prim.⊥
        differ e = cc

    not_due : (number place : ℕ) (op : Op) → op_of (book_of g known q) number ≡ Some op → (d : IsDue g a.node a.act tn.raft number place) → (k : Option ℕ) × (Read d.reading.items level.Linearizable k ≡ op)
    not_due number place op is d =
        let k = due_asked g known run e s2 a new2 b2 number place d in
        (k.0, same_op number (Read d.reading.items level.Linearizable k.0) op (ap (λ (l : List Note). op_of l number) book2 ∙ k.1) is)

    own_op : (number place : ℕ) (op : Op) → op_of (book_of g known q) number ≡ Some op → (o : IsOwn g a.node a.act tn.raft number place) → o.op ≡ op
    own_op number place op is o = same_op number o.op op (ap (λ (l : List Note). op_of l number) book2 ∙ asks g known run e s2 a new2 b2 number o.timeout o.op o.act) is

    -- where the answers at a level come from
    abbrev OfLevel : Level → ℕ → ℕ → ℕ → Type 0
    OfLevel level.None m number place = IsOwn g a.node a.act tn.raft number place
    OfLevel level.Weak m number place = IsOwn g a.node a.act tn.raft number place
    OfLevel level.Linearizable m number place = IsDue g a.node a.act tn.raft number place
    OfLevel level.Strong m number place = (n : IsNext g a.node a.act tn.raft m number place) × (n.waiting.sequence ≡ None)

    of_level : (m number place : ℕ) (items : List Item) (l : Level) (limit : Option ℕ) → op_of (book_of g known q) number ≡ Some (Read items l limit) → Source g a.node a.act tn.raft m number place → OfLevel l m number place
    of_level m number place items level.None limit is (Own o) = o
    of_level m number place items level.None limit is (Next n) = absurd (no_entry m number place items level.None limit is refl n)
    of_level m number place items level.None limit is (Due d) = let k = not_due number place (Read items level.None limit) is d in absurd (differ k.1)
      where
        differ : {i j : List Item} {x y : Option ℕ} → Read i level.Linearizable x ≡ Read j level.None y → Prim.⊥
        differ e = cc
    of_level m number place items level.Weak limit is (Own o) = o
    of_level m number place items level.Weak limit is (Next n) = absurd (no_entry m number place items level.Weak limit is refl n)
    of_level m number place items level.Weak limit is (Due d) = let k = not_due number place (Read items level.Weak limit) is d in absurd (differ k.1)
      where
        differ : {i j : List Item} {x y : Option ℕ} → Read i level.Linearizable x ≡ Read j level.Weak y → Prim.⊥
        differ e = cc
    of_level m number place items level.Linearizable limit is (Own o) = absurd (subst (IsQuick a.node) (own_op number place (Read items level.Linearizable limit) is o) o.quick)
    of_level m number place items level.Linearizable limit is (Next n) = absurd (no_entry m number place items level.Linearizable limit is refl n)
    of_level m number place items level.Linearizable limit is (Due d) = d
    of_level m number place items level.Strong limit is (Own o) = absurd (subst (IsQuick a.node) (own_op number place (Read items level.Strong limit) is o) o.quick)
    of_level m number place items level.Strong limit is (Next n) = (n, (next_entry m number place items level.Strong limit is n).1)
    of_level m number place items level.Strong limit is (Due d) = let k = not_due number place (Read items level.Strong limit) is d in absurd (differ k.1)
      where
        differ : {i j : List Item} {x y : Option ℕ} → Read i level.Linearizable x ≡ Read j level.Strong y → Prim.⊥
        differ e = cc

    new_covers : (m number place : ℕ) (l : Level) → OfLevel l m number place → Covers (book_of g known q) number l place
    new_covers m number place level.None o = tt
    new_covers m number place level.Weak o = tt
    new_covers m number place level.Linearizable d = λ index ack. due_covers number place index d ack
    new_covers m number place level.Strong n = λ index ack. entry_covers m number place index n.0 n.1 ack

    -- it was asked of this node, and is answered now
    placed : (k number place : ℕ) (results : List Res) (op : Op) (l : Level) (asked : Events) (timeout : ℕ) → NeedsLeader l ((n : Node) × Runs g.first asked a.who n × (n.raft.role ≡ Leader)) → IsPast g.first (Then asked (At a.who (Ask number timeout op))) q → place ≡ tn.raft.applied
        → length (book_of g known run) ≤ k → slice_get (book_of g known q) k ≡ Some (Answered number (Results results) place) → IsPlaced g.first q k number place results op l
    placed k number place results op l asked timeout led was applied new at = record {
      who = a.who;
      asked = asked;
      timeout = timeout;
      led = led;
      before = run;
      event = e;
      was_asked = was;
      past = here g q;
      is_new = new;
      noted = at;
      node = tn;
      runs = runs_next g known run e a;
      applied = applied;
    }

    started_event : (number : ℕ) (moment : Events) (op : Op) → op_of (book_of g known q) number ≡ Some op → (s : Started q a.who number moment) → IsPast g.first (Then moment (At a.who (Ask number s.timeout op))) q
    started_event number moment op is s = subst (λ (o : Op). IsPast g.first (Then moment (At a.who (Ask number s.timeout o))) q) (same_op number s.op op s.asked is) s.event

    new_placed : (k m number place : ℕ) (results : List Res) (items : List Item) (l : Level) (limit : Option ℕ) → op_of (book_of g known q) number ≡ Some (Read items l limit) → OfLevel l m number place
        → length (book_of g known run) ≤ k → slice_get (book_of g known q) k ≡ Some (Answered number (Results results) place) → IsPlaced g.first q k number place results (Read items l limit) l
    new_placed k m number place results items level.None limit is o new at =
        let op = Read items level.None limit in
        let st = starts run e numbered a b number o.timeout o.op o.act in
        placed k number place results op level.None run st.timeout tt (started_event number run op is st) o.place_is new at
    new_placed k m number place results items level.Weak limit is o new at =
        let op = Read items level.Weak limit in
        let st = starts run e numbered a b number o.timeout o.op o.act in
        placed k number place results op level.Weak run st.timeout (a.node, a.runs, subst (IsQuick a.node) (own_op number place op is o) o.quick) (started_event number run op is st) o.place_is new at
    new_placed k m number place results items level.Linearizable limit is d new at =
        let op = Read items level.Linearizable limit in
        let r = reading_from run e numbered a b d.reading d.from in
        let st = subst (λ (j : ℕ). Started q a.who j r.moment) d.number_is r.started in
        placed k number place results op level.Linearizable r.moment st.timeout (r.node, r.leads.runs, r.leads.role) (started_event number r.moment op is st) d.place_is new at
    new_placed k m number place results items level.Strong limit is n new at =
        let op = Read items level.Strong limit in
        let w = b.waitings a.who a.node a.runs n.0.waiting (has_at n.0.waiting a.node.waiting m n.0.found) n.1 in
        let st = subst (λ (j : ℕ). Started q a.who j w.moment) n.0.number_is (started_on run e a.who n.0.waiting.number w.moment w.started) in
        placed k number place results op level.Strong w.moment st.timeout (w.node, w.leads.runs, w.leads.role) (started_event number w.moment op is st) (n.0.place_is ∙ sym n.0.applied) new at

  -- what was acknowledged before is what was
  ack_back : (run : Events) (l : List Note) (number index : ℕ) (op : Op) → IsNumbered g.first run → op_of (book_of g known run) number ≡ Some op → IsAcknowledgedBefore (book_of g known run ++ l) number index → IsAcknowledgedBefore (book_of g known run) number index
  ack_back run l number index op numbered is a =
      let s = sound g known.lead_on run numbered in
      let before = before_more (book_of g known run) l number op is in
      let noted = subst (λ (b : List Note). slice_get b a.k ≡ Some (Answered a.write a.say index)) before a.noted in
      let at = before_get (book_of g known run) number a.k (Answered a.write a.say index) noted in
      let right = subst (RightNote g.first (chosen g.first run) (book_of g known run)) at (all_get g.first (chosen g.first run) (book_of g known run) (book_of g known run) a.k s.right) in
      let o = right_op g.first (chosen g.first run) (op_of (book_of g known run) a.write) a.say index right in
      record { k = a.k; write = a.write; say = a.say; noted = noted; is_write = subst (λ (x : Option Op). IsAcknowledged x a.say) (op_kept (book_of g known run) l a.write o.0 o.1 ∙ sym o.1) a.is_write }

  covers_on : (run : Events) (l : List Note) (number place : ℕ) (op : Op) (v : Level) → IsNumbered g.first run → op_of (book_of g known run) number ≡ Some op → Covers (book_of g known run) number v place → Covers (book_of g known run ++ l) number v place
  covers_on run l number place op level.None numbered is c = tt
  covers_on run l number place op level.Weak numbered is c = tt
  covers_on run l number place op level.Linearizable numbered is c = λ index ack. c index (ack_back run l number index op numbered is ack)
  covers_on run l number place op level.Strong numbered is c = λ index ack. c index (ack_back run l number index op numbered is ack)

  -- what is promised of note k
  abbrev Promised : Events → ℕ → ℕ → ℕ → List Res → Op → Level → Type 0
  Promised run k number place results op l = Covers (book_of g known run) number l place × IsPlaced g.first run k number place results op l

  placed_on : (run : Events) (e : Event) (k number place : ℕ) (results : List Res) (op : Op) (l : Level) → IsPlaced g.first run k number place results op l → IsPlaced g.first (Then run e) k number place results op l
  placed_on run e k number place results op l p = record { who = p.who; asked = p.asked; timeout = p.timeout; led = p.led; before = p.before; event = p.event; was_asked = p.was_asked; past = inr p.past; is_new = p.is_new; noted = p.noted; node = p.node; runs = p.runs; applied = p.applied }

  promised : (run : Events) → IsNumbered g.first run → (k number place : ℕ) (results : List Res) (items : List Item) (v : Level) (limit : Option ℕ)
      → slice_get (book_of g known run) k ≡ Some (Answered number (Results results) place) → op_of (book_of g known run) number ≡ Some (Read items v limit) → Promised run k number place results (Read items v limit) v
  promised First numbered k number place results items v limit at is = absurd (cc)
  promised (Then run e) numbered k number place results items v limit at is = ⊎_elim
      (λ (a : Acted g known run e).
      let l = more g known run e s a (new_number g known run e a numbered.1) (passed g known run numbered.0) in
      by_note l (book_is g known run e s a (new_number g known run e a numbered.1) (passed g known run numbered.0))
      (λ m new at_m.
      let x = source_of g known run e s a (new_number g known run e a numbered.1) (passed g known run numbered.0) m number place (Results results) tt at_m in
      let o = of_level run e numbered a x.0 number place items v limit is x.2 in
      (new_covers run e numbered a x.0 number place v o, new_placed run e numbered a k x.0 number place results items v limit is o new at))
      (λ o p. promised run numbered.0 k number place results items v limit o p))
      (λ (q : Still g known run e). by_note q.more q.book (λ m new at_m. absurd (q.silent m number place (Results results) at_m)) (λ o p. promised run numbered.0 k number place results items v limit o p))
      (kind g known run e)
    where
      s : Sound g known.lead_on run
      s = sound g known.lead_on run numbered.0

      by_note : (l : List Note) → book_of g known (Then run e) ≡ book_of g known run ++ l → ((m : ℕ) → length (book_of g known run) ≤ k → slice_get l m ≡ Some (Answered number (Results results) place) → Promised (Then run e) k number place results (Read items v limit) v)
          → (slice_get (book_of g known run) k ≡ Some (Answered number (Results results) place) → op_of (book_of g known run) number ≡ Some (Read items v limit) → Promised run k number place results (Read items v limit) v)
          → Promised (Then run e) k number place results (Read items v limit) v
      by_note l book fresh old = ⊎_elim
          (λ (o : slice_get (book_of g known run) k ≡ Some (Answered number (Results results) place)).
          let right = subst (RightNote g.first (chosen g.first run) (book_of g known run)) o (all_get g.first (chosen g.first run) (book_of g known run) (book_of g known run) k s.right) in
          let x = right_op g.first (chosen g.first run) (op_of (book_of g known run) number) (Results results) place right in
          let op : op_of (book_of g known run) number ≡ Some (Read items v limit) = x.1 ∙ sym (op_kept (book_of g known run) l number x.0 x.1) ∙ ap (λ (b : List Note). op_of b number) (sym book) ∙ is in
          let p = old o op in
          (subst (λ (b : List Note). Covers b number v place) (sym book) (covers_on run l number place (Read items v limit) v numbered.0 op p.0), placed_on run e k number place results (Read items v limit) v p.1))
          (λ (n : (m : ℕ) × (k ≡ length (book_of g known run) + m) × (slice_get l m ≡ Some (Answered number (Results results) place))). fresh n.0 (omega (arith, n.1)) n.2)
          (note_both (book_of g known run) l k (Answered number (Results results) place) (subst (λ (b : List Note). slice_get b k ≡ Some (Answered number (Results results) place)) book at))

  pub each_read : EachReadCovers g.first
  each_read run numbered k number place results items v limit at is =
      let s = sound g known.lead_on run numbered in
      let right = subst (RightNote g.first (chosen g.first run) (book_of g known run)) at (all_get g.first (chosen g.first run) (book_of g known run) (book_of g known run) k s.right) in
      let p = promised run numbered k number place results items v limit at is in
      (subst (λ (o : Option Op). Rattle.rq_world.specs.Promise.IsRight g.first (chosen g.first run) o (Results results) place) is right, p.0, p.1)
