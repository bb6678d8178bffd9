-- Each acknowledged write has a place of its own.
use Rattle.std.proofs.Common.{◌≡◌, ◌⊎◌, ℕ, ◌+◌, ◌-◌, List, [], ◌∷◌, ◌++◌, length, slice_get, true, Option, Some, None, refl, sym, ◌∙◌, ap, subst, inl, inr, ⊎_elim, arith}
use Rattle.rq_request.specs.declared.say.Say.{Say}
use Rattle.rq_history.specs.History.{NodeId}
use Rattle.rq_history.specs.Laws.{LaterEntriesCover}
use Rattle.rq_raft.specs.Entries.{entry_view}
use Rattle.rq_raft.specs.declared.role.Role.TheVariants.{Follower, Leader}
use Rattle.rq_world.specs.declared.log_entry.LogEntry.{LogEntry}
use Rattle.rq_statement.specs.declared.command.Command.{Command}
use Rattle.rq_statement.specs.Statements.{Statements}
use Rattle.rq_world.specs.Rules.{write_command}
use Rattle.rq_world.specs.declared.waiting.Waiting.{Waiting}
use Rattle.rq_world.specs.Node.{Node, log_entries}
use Rattle.rq_world.specs.World.{Op, Write, Queue, Read, Note, Act, Ask, Event, Run as Events, First, Then, world}
use Rattle.rq_world.specs.Laws.{Runs}
use Rattle.rq_world.specs.Promise.{op_of, IsAcknowledged, IsNumbered}
use Rattle.rq_world.specs.Appends.{Performs, Holds, AppendsFor, IsAppended, HasPlace, EachWriteHasItsPlace}
use Rattle.rq_world.proofs.Given.{Given}
use Rattle.rq_world.proofs.Safety.{here}
use Rattle.rq_world.proofs.Prefixes.{get_within}
use Rattle.rq_world.proofs.Histories.{op_kept}
use Rattle.rq_world.proofs.Waits.{CommandFits, Waits, AllWait, ascends_get}
use Rattle.rq_world.proofs.Promises.{Sound, sound}
use Rattle.rq_world.proofs.Passes.{Known}
use Rattle.rq_world.proofs.Covering.{Acted, Still, kind, t, pr, who_runs}
use Rattle.rq_world.proofs.Answering.{HasWaiting, has_at, WaitingFrom, act_gives}
use Rattle.rq_world.proofs.Apart.{book_of, IsAnswered, stands_on, still_old, Fresh, kinds, never, new_number, Passed, passed}
use Rattle.rq_world.proofs.Acknowledged.{has_lead, book_next}
use Rattle.rq_world.proofs.Appending.{act_grew, once, apart}

wait_has : (book : List Note) (log : List LogEntry) (term : ℕ) (ws : List Waiting) (w : Waiting) → AllWait book log term ws → HasWaiting w ws → Waits book log term w
wait_has book log term [] w all h = absurd h
wait_has book log term (x ∷ ws) w all (inl e) = subst (Waits book log term) e all.0
wait_has book log term (x ∷ ws) w all (inr h) = wait_has book log term ws w all.1 h

-- the entry for which a write waits holds it
fits_holds : (op : Op) (position : ℕ) (s : Option ℕ) (command : Command) (say : Say) → IsAcknowledged (Some op) say → CommandFits op position s command → Holds op position command
fits_holds (Write list mixed) position None command say ack f = (f.1, some command (write_command list mixed) (sym f.0))
  where
    some : (a b : Command) → Some a ≡ Some b → a ≡ b
    some a b e = cc
fits_holds (Write list mixed) position (Some k) command say ack f = absurd (differ f.list f.is_queue)
  where
    differ : (more : Statements) → Write list mixed ≡ Queue more true → Prim.⊥
    differ more e = cc
fits_holds (Queue list wait) position None command say ack f = absurd (differ f.0)
  where
    differ : None ≡ Some command → Prim.⊥
    differ e = cc
fits_holds (Queue list wait) position (Some k) command say ack f = (f.lists, f.is_batch, f.has ∙ ap Some (sym (ap list_of f.is_queue)))
  where
    list_of : Op → Statements
    list_of (Write more mixed) = more
    list_of (Queue more wait) = more
    list_of (Read more l limit) = list
fits_holds (Read items l limit) position s command say ack f = absurd ack

module _ (g : Given) (known : Known g) (later : LaterEntriesCover (entry_view log_entries)) where
  appended_on : (run : Events) (e : Event) (number term index position : ℕ) → IsAppended g.first run number term index position → IsAppended g.first (Then run e) number term index position
  appended_on run e number term index position x = record {
    before = x.before;
    event = x.event;
    past = inr x.past;
    who = x.who;
    act = x.act;
    does = x.does;
    node = x.node;
    runs = x.runs;
    brings = x.brings;
    entry = x.entry;
    longer = x.longer;
    of_term = x.of_term;
    at = x.at;
  }

  -- what waits was appended
  abbrev AllAppended : Events → Type 0
  AllAppended run = (i : NodeId) (n : Node) → Runs g.first run i n → (w : Waiting) → HasWaiting w n.waiting → IsAppended g.first run w.number n.raft.term w.index w.position

  module _ (run : Events) (e : Event) (numbered : IsNumbered g.first (Then run e)) (a : Acted g known run e) where
    abbrev tn : Node
    tn = (t g known run e a).node

    abbrev s : Sound g known.lead_on run
    s = sound g known.lead_on run numbered.0

    abbrev next : Sound g known.lead_on (Then run e)
    next = sound g known.lead_on (Then run e) numbered

    -- by this act
    made : Runs g.first (Then run e) a.who tn → (w : Waiting) → HasWaiting w tn.waiting → a.node.raft.role ≡ Leader → w.index ≡ length a.node.raft.log + 1 → AppendsFor g.first a.node a.act w.number w.position → IsAppended g.first (Then run e) w.number tn.raft.term w.index w.position
    made up w h leads index brings =
        let waits = wait_has (book_of g known (Then run e)) tn.raft.log tn.raft.term tn.waiting w (next.serve a.who tn up).waits h in
        let within = get_within tn.raft.log (w.index - 1) waits.entry waits.stands in
        ⊎_elim
        (λ (same : tn.raft.log ≡ a.node.raft.log). absurd (omega (arith, within, index, ap length same)))
        (λ (x : (x : LogEntry) × (tn.raft.log ≡ a.node.raft.log ++ x ∷ []) × (x.term ≡ a.node.raft.term) × (a.node.raft.role ≡ Leader) × (tn.raft.role ≡ Leader) × (tn.raft.term ≡ a.node.raft.term)). record {
          before = run;
          event = e;
          past = here g (Then run e);
          who = a.who;
          act = a.act;
          does = subst (λ (y : Event). Performs y a.who a.act) (sym a.event) (refl, refl);
          node = a.node;
          runs = a.runs;
          brings = brings;
          entry = x.0;
          longer = x.1;
          of_term = x.2 ∙ sym x.5;
          at = index;
        })
        (act_grew g known.lead_on (world g.first run) a.node a.act w.number w.position brings)

    from : AllAppended run → Runs g.first (Then run e) a.who tn → (w : Waiting) → HasWaiting w tn.waiting → WaitingFrom g a.node a.act w → IsAppended g.first (Then run e) w.number tn.raft.term w.index w.position
    from b up w h (inl old) =
        let leads = has_lead g.first (book_of g known run) a.node (s.serve a.who a.node a.runs) w old in
        let lead = has_lead g.first (book_of g known (Then run e)) tn (next.serve a.who tn up) w h in
        subst (λ (k : ℕ). IsAppended g.first (Then run e) w.number k w.index w.position) (sym ((pr g known run e a).on leads lead)) (appended_on run e w.number a.node.raft.term w.index w.position (b a.who a.node a.runs w old))
    from b up w h (inr (inl x)) = made up w h x.leads x.index (subst (λ (y : Act). AppendsFor g.first a.node y w.number w.position) (sym x.act) (refl, x.position))
    from b up w h (inr (inr x)) = made up w h x.leads x.index (subst (λ (y : Act). AppendsFor g.first a.node y w.number w.position) (sym x.act) (x.held, x.found, x.number_is))

    acted_appended : AllAppended run → AllAppended (Then run e)
    acted_appended b j m up w h = ⊎_elim
        (λ (p : (j ≡ a.who) × (tn ≡ m)).
        let up2 : Runs g.first (Then run e) a.who tn = subst (λ (x : NodeId). Runs g.first (Then run e) x tn) p.0 (subst (λ (y : Node). Runs g.first (Then run e) j y) (sym p.1) up) in
        let h2 : HasWaiting w tn.waiting = subst (λ (y : Node). HasWaiting w y.waiting) (sym p.1) h in
        subst (λ (y : Node). IsAppended g.first (Then run e) w.number y.raft.term w.index w.position) p.1
        (from b up2 w h2 ((act_gives g known.lead_on (world g.first run).sent (world g.first run).moment a.node a.act).waitings w h2)))
        (λ (o : Runs g.first run j m). appended_on run e w.number m.raft.term w.index w.position (b j m o w h))
        (who_runs g known run e a j m up)

  still_appended : (run : Events) (e : Event) → IsNumbered g.first (Then run e) → Still g known run e → AllAppended run → AllAppended (Then run e)
  still_appended run e numbered q b j m up w h = ⊎_elim
      (λ (o : Runs g.first run j m). appended_on run e w.number m.raft.term w.index w.position (b j m o w h))
      (λ (f : (m.raft.role ≡ Follower) × (m.queue ≡ [])). absurd (subst (HasWaiting w) (((sound g known.lead_on (Then run e) numbered).serve j m up).idle (λ r. differ f.0 r)).0 h))
      (q.nodes j m up)
    where
      differ : m.raft.role ≡ Follower → m.raft.role ≡ Leader → Prim.⊥
      differ x y = cc

  all_appended : (run : Events) → IsNumbered g.first run → AllAppended run
  all_appended First numbered = λ i n up w h. absurd (none i n up)
    where
      none : (i : NodeId) (n : Node) → Runs g.first First i n → Prim.⊥
      none i n e = cc
  all_appended (Then run e) numbered = ⊎_elim
      (λ (a : Acted g known run e). acted_appended run e numbered a (all_appended run numbered.0))
      (λ (q : Still g known run e). still_appended run e numbered q (all_appended run numbered.0))
      (kind g known run e)

  -- ---- places

  place_on : (run : Events) (e : Event) (number index position : ℕ) → HasPlace g.first run number index position → HasPlace g.first (Then run e) number index position
  place_on run e number index position x =
      let l = book_next g known later run e in
      record {
        entry = x.entry;
        stands = stands_on g known run e (index - 1) x.entry x.stands;
        appended = appended_on run e number x.entry.term index position x.appended;
        op = x.op;
        asked = ap (λ (b : List Note). op_of b number) l.1 ∙ op_kept (book_of g known run) l.0 number x.op x.asked;
        holds = x.holds;
      }

  module _ (run : Events) (e : Event) (numbered : IsNumbered g.first (Then run e)) (a : Acted g known run e) where
    abbrev s1 : Sound g known.lead_on run
    s1 = sound g known.lead_on run numbered.0

    abbrev new1 : (number timeout : ℕ) (op : Op) → a.act ≡ Ask number timeout op → op_of (book_of g known run) number ≡ None
    new1 = new_number g known run e a numbered.1

    abbrev b1 : Passed g known run
    b1 = passed g known run numbered.0

    abbrev New : ℕ → ℕ → ℕ → Type 0
    New m number place = Fresh g known run e s1 a new1 b1 m number place

    -- who waits there was appended
    new_appended : (m number place : ℕ) → (n : New m number place) → IsAppended g.first run number n.waits.entry.term place n.waiting.position
    new_appended m number place n =
        let x = all_appended run numbered.0 a.who a.node a.runs n.waiting (has_at n.waiting a.node.waiting m n.found) in
        subst (λ (k : ℕ). IsAppended g.first run k n.waits.entry.term place n.waiting.position) n.number_is
        (subst (λ (k : ℕ). IsAppended g.first run n.waiting.number n.waits.entry.term k n.waiting.position) n.index
        (subst (λ (k : ℕ). IsAppended g.first run n.waiting.number k n.waiting.index n.waiting.position) (sym n.waits.in_term) x))

    new_place : (k m number place : ℕ) (say : Say) → IsAnswered g known (Then run e) k number place say → (n : New m number place) → HasPlace g.first (Then run e) number place n.waiting.position
    new_place k m number place say w n =
        let l = book_next g known later run e in
        let asked : op_of (book_of g known (Then run e)) number ≡ Some n.waits.op = ap (op_of (book_of g known (Then run e))) (sym n.number_is) ∙ ap (λ (b : List Note). op_of b n.waiting.number) l.1 ∙ op_kept (book_of g known run) l.0 n.waiting.number n.waits.op n.waits.asked in
        record {
          entry = n.waits.entry;
          stands = stands_on g known run e (place - 1) n.waits.entry n.stands;
          appended = appended_on run e number n.waits.entry.term place n.waiting.position (new_appended m number place n);
          op = n.waits.op;
          asked = asked;
          holds = fits_holds n.waits.op n.waiting.position n.waiting.sequence n.waits.entry.command say (subst (λ (o : Option Op). IsAcknowledged o say) asked w.1) n.waits.fits;
        }

    -- those that waited at one place were one
    new_one : (m d number place : ℕ) → New m number place → New d number place → m ≡ d
    new_one m d number place x y =
        let o = once g known later run numbered.0 number x.waits.entry.term place x.waiting.position y.waits.entry.term place y.waiting.position (new_appended m number place x) (new_appended d number place y) in
        ascends_get a.node.waiting m d x.waiting y.waiting (s1.serve a.who a.node a.runs).order x.found y.found (x.index ∙ sym y.index) o.2

  placed : (run : Events) → IsNumbered g.first run → (k number place : ℕ) (say : Say) → IsAnswered g known run k number place say → (position : ℕ) × HasPlace g.first run number place position
  placed First numbered k number place say w = absurd (none k w.0)
    where
      none : {q : Note} (k : ℕ) → slice_get (book_of g known First) k ≡ Some q → Prim.⊥
      none k e = cc
  placed (Then run e) numbered k number place say w = ⊎_elim
      (λ (a : Acted g known run e). ⊎_elim
      (λ (o : IsAnswered g known run k number place say). on (placed run numbered.0 k number place say o))
      (λ (n : (m : ℕ) × (k ≡ length (book_of g known run) + m) × New run e numbered a m number place). (n.2.waiting.position, new_place run e numbered a k n.0 number place say w n.2))
      (kinds g known run e (s1 run e numbered a) a (new1 run e numbered a) (b1 run e numbered a) k number place say w))
      (λ (q : Still g known run e). on (placed run numbered.0 k number place say (still_old g known run e (sound g known.lead_on run numbered.0) q k number place say w)))
      (kind g known run e)
    where
      on : (position : ℕ) × HasPlace g.first run number place position → (position : ℕ) × HasPlace g.first (Then run e) number place position
      on x = (x.0, place_on run e number place x.0 x.1)

  -- ---- a write is acknowledged once

  abbrev AckedOnce : Events → Type 0
  AckedOnce run = (j k number place other : ℕ) (say more : Say) → IsAnswered g known run j number place say → IsAnswered g known run k number other more → j ≡ k

  acted_once : (run : Events) (e : Event) → IsNumbered g.first (Then run e) → Acted g known run e → AckedOnce run → AckedOnce (Then run e)
  acted_once run e numbered a u j k number place other say more v w = ⊎_elim
      (λ (x : IsAnswered g known run j number place say). ⊎_elim
      (λ (y : IsAnswered g known run k number other more). u j k number place other say more x y)
      (λ (y : (m : ℕ) × (k ≡ length (book_of g known run) + m) × New run e numbered a m number other). absurd (clash j y.0 number place other say x y.2))
      (parts k other more w))
      (λ (x : (m : ℕ) × (j ≡ length (book_of g known run) + m) × New run e numbered a m number place). ⊎_elim
      (λ (y : IsAnswered g known run k number other more). absurd (clash k x.0 number other place more y x.2))
      (λ (y : (m : ℕ) × (k ≡ length (book_of g known run) + m) × New run e numbered a m number other).
      let same : other ≡ place = y.2.place_is ∙ sym x.2.place_is in
      let m = new_one run e numbered a x.0 y.0 number place x.2 (subst (New run e numbered a y.0 number) same y.2) in
      omega (arith, x.1, y.1, m))
      (parts k other more w))
      (parts j place say v)
    where
      parts : (k place : ℕ) (say : Say) → IsAnswered g known (Then run e) k number place say → IsAnswered g known run k number place say ⊎ ((m : ℕ) × (k ≡ length (book_of g known run) + m) × New run e numbered a m number place)
      parts k place say = kinds g known run e (s1 run e numbered a) a (new1 run e numbered a) (b1 run e numbered a) k number place say

      clash : (j m number place other : ℕ) (say : Say) → IsAnswered g known run j number place say → New run e numbered a m number other → Prim.⊥
      clash j m number place other say x y =
          let p = placed run numbered.0 j number place say x in
          let o = once g known later run numbered.0 number p.1.entry.term place p.0 y.waits.entry.term other y.waiting.position p.1.appended (new_appended run e numbered a m number other y) in
          never g known run e (s1 run e numbered a) a (new1 run e numbered a) (b1 run e numbered a) j m number number place say x (subst (New run e numbered a m number) (sym o.1) y)

  acked_once : (run : Events) → IsNumbered g.first run → AckedOnce run
  acked_once First numbered = λ j k number place other say more v w. absurd (none j v.0)
    where
      none : {q : Note} (k : ℕ) → slice_get (book_of g known First) k ≡ Some q → Prim.⊥
      none k e = cc
  acked_once (Then run e) numbered = ⊎_elim
      (λ (a : Acted g known run e). acted_once run e numbered a (acked_once run numbered.0))
      (λ (q : Still g known run e) j k number place other say more v w. acked_once run numbered.0 j k number place other say more
      (still_old g known run e (sound g known.lead_on run numbered.0) q j number place say v) (still_old g known run e (sound g known.lead_on run numbered.0) q k number other more w))
      (kind g known run e)

  pub each_write : EachWriteHasItsPlace g.first
  each_write run numbered = record {
    placed = λ k number index say at ack. placed run numbered k number index say (at, ack);
    apart = λ j k number other index position say more a p b q x y.
        let same : x.entry ≡ y.entry = some x.entry y.entry (sym x.stands ∙ y.stands) in
        let one : number ≡ other = apart g known later run numbered number other y.entry.term index position (subst (λ (z : LogEntry). IsAppended g.first run number z.term index position) same x.appended) y.appended in
        acked_once run numbered j k number index index say more (a, p) (subst (λ (z : ℕ). IsAnswered g known run k z index more) (sym one) (b, q));
  }
    where
      some : (x y : LogEntry) → Some x ≡ Some y → x ≡ y
      some x y e = cc
