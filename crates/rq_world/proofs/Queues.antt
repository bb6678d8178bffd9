-- Each queued ask stands in one queue, once, and in none once its batch was appended.
use Rattle.std.proofs.Common.{◌≡◌, ◌⊎◌, ◌<◌, ℕ, zero, suc, ◌+◌, ◌&&◌, List, [], ◌∷◌, ◌++◌, length, take, drop, slice_get, Bool, cond, Option, Some, None, refl, sym, ◌∙◌, ap, subst, inl, inr, ⊎_elim, arith}
use Rattle.std.specs.Prelude.{nat_lt}
use Rattle.std.proofs.lemmas.List.{length-append}
use Rattle.rq_statement.specs.Statements.{Statements}
use Rattle.rq_history.specs.History.{NodeId}
use Rattle.rq_raft.specs.declared.role.Role.TheVariants.{Follower}
use Rattle.rq_raft.specs.Node.{is_leader, Persistent, StoredRecord, persistent_after}
use Rattle.rq_history.specs.Laws.{LaterEntriesCover}
use Rattle.rq_raft.specs.Entries.{entry_view}
use Rattle.rq_world.specs.declared.log_entry.LogEntry.{LogEntry}
use Rattle.rq_world.specs.Node.{QueuedWrite, Node, persistent_of, log_entries, Turn, unchanged}
use Rattle.rq_world.specs.Rules.{max_batch, batch, flushed, flush}
use Rattle.rq_world.specs.World.{Op, Queue, Note, NodeState, Running, Down, World, Act, Ask, Flush, Event, At, Stop, Fail, Start, FailStart, Clock, Run as Events, First, Then, turn, happens_at, stops_at, fails_at, set_node, world, IsPast}
use Rattle.rq_world.specs.Laws.{Runs}
use Rattle.rq_world.specs.Promise.{op_of, IsNumbered}
use Rattle.rq_world.specs.Appends.{Performs}
use Rattle.rq_world.proofs.Tests.{if_case, id_self}
use Rattle.rq_world.proofs.Given.{Given}
use Rattle.rq_world.proofs.Histories.{op_kept}
use Rattle.rq_world.proofs.Waits.{AllHeld}
use Rattle.rq_world.proofs.Promises.{sound}
use Rattle.rq_world.proofs.Passes.{Known}
use Rattle.rq_world.proofs.Covering.{Acted, Still, kind, t, runs_next, who_runs}
use Rattle.rq_world.proofs.Answering.{numbers, IsPut, IsDropped, act_gives}
use Rattle.rq_world.proofs.Apart.{new_number}
use Rattle.rq_world.proofs.Acknowledged.{book_past, numbered_past}

-- ---- lists

get_both : {T : Type 0} (a b : List T) (k : ℕ) (q : T) → slice_get (a ++ b) k ≡ Some q → (slice_get a k ≡ Some q) ⊎ ((m : ℕ) × (k ≡ length a + m) × (slice_get b m ≡ Some q))
get_both [] b k q e = inr (k, omega arith, e)
get_both (x ∷ a) b zero q e = inl e
get_both {T} (x ∷ a) b (suc k) q e = ⊎_elim (λ (o : slice_get a k ≡ Some q). inl o) (λ (n : (m : ℕ) × (k ≡ length a + m) × (slice_get b m ≡ Some q)). inr (n.0, omega (arith, n.1), n.2)) (get_both a b k q e)

pub get_taken : {T : Type 0} (n : ℕ) (l : List T) (k : ℕ) (q : T) → slice_get (take n l) k ≡ Some q → (slice_get l k ≡ Some q) × (k < n)
get_taken zero l k q e = absurd (cc)
get_taken (suc n) [] k q e = absurd (cc)
get_taken (suc n) (x ∷ l) zero q e = (e, omega arith)
get_taken (suc n) (x ∷ l) (suc k) q e = let r = get_taken n l k q e in (r.0, omega (arith, r.1))

get_dropped : {T : Type 0} (n : ℕ) (l : List T) (k : ℕ) → slice_get (drop n l) k ≡ slice_get l (n + k)
get_dropped zero l k = let none : zero + k ≡ k = omega arith in ap (slice_get l) (sym none)
get_dropped (suc n) [] k = refl
get_dropped (suc n) (x ∷ l) k = let one : suc n + k ≡ suc (n + k) = omega arith in get_dropped n l k ∙ ap (slice_get (x ∷ l)) (sym one)

get_one : {T : Type 0} (x y : T) (m : ℕ) → slice_get (x ∷ []) m ≡ Some y → (x ≡ y) × (m ≡ 0)
get_one x y zero e = (some x y e, refl)
  where
    some : {T : Type 0} (x y : T) → Some x ≡ Some y → x ≡ y
    some x y e = cc
get_one x y (suc m) e = absurd (cc)

pub get_number : (qs : List QueuedWrite) (k : ℕ) (q : QueuedWrite) → slice_get qs k ≡ Some q → slice_get (numbers qs) k ≡ Some q.number
get_number [] k q e = absurd (cc)
get_number (x ∷ qs) zero q e = ap number_in e
  where
    number_in : Option QueuedWrite → Option ℕ
    number_in None = None
    number_in (Some y) = Some y.number
get_number (x ∷ qs) (suc k) q e = get_number qs k q e

held_get : (book : List Note) (qs : List QueuedWrite) (k number : ℕ) → AllHeld book qs → slice_get (numbers qs) k ≡ Some number → (list : Statements) × (wait : Bool) × (op_of book number ≡ Some (Queue list wait))
held_get book [] k number all e = absurd (cc)
held_get book (q ∷ qs) zero number (one, rest) e = (q.list, one.wait, subst (λ (j : ℕ). op_of book j ≡ Some (Queue q.list one.wait)) (some q.number number e) one.asked)
  where
    some : (x y : ℕ) → Some x ≡ Some y → x ≡ y
    some x y e = cc
held_get book (q ∷ qs) (suc k) number (one, rest) e = held_get book qs k number rest e

-- the numbers of a queue after an act: as before, one new one more, or without the first
abbrev Came : List ℕ → List ℕ → Type 0
Came old new = (new ≡ old) ⊎ (((x : ℕ) × (new ≡ old ++ x ∷ []) × ((k : ℕ) → slice_get old k ≡ Some x → Prim.⊥)) ⊎ (new ≡ drop max_batch old))

abbrev Unique : List ℕ → Type 0
Unique l = (j k number : ℕ) → slice_get l j ≡ Some number → slice_get l k ≡ Some number → j ≡ k

came_unique : (old new : List ℕ) → Came old new → Unique old → Unique new
came_unique old new (inl same) u j k number a b = u j k number (subst (λ (l : List ℕ). slice_get l j ≡ Some number) same a) (subst (λ (l : List ℕ). slice_get l k ≡ Some number) same b)
came_unique old new (inr (inl (x, is, fresh))) u j k number a b = ⊎_elim
    (λ (p : slice_get old j ≡ Some number). ⊎_elim
    (λ (q : slice_get old k ≡ Some number). u j k number p q)
    (λ (q : (m : ℕ) × (k ≡ length old + m) × (slice_get (x ∷ []) m ≡ Some number)). absurd (fresh j (p ∙ ap Some (sym (get_one x number q.0 q.2).0))))
    (get_both old (x ∷ []) k number (subst (λ (l : List ℕ). slice_get l k ≡ Some number) is b)))
    (λ (p : (m : ℕ) × (j ≡ length old + m) × (slice_get (x ∷ []) m ≡ Some number)). ⊎_elim
    (λ (q : slice_get old k ≡ Some number). absurd (fresh k (q ∙ ap Some (sym (get_one x number p.0 p.2).0))))
    (λ (q : (m : ℕ) × (k ≡ length old + m) × (slice_get (x ∷ []) m ≡ Some number)). omega (arith, p.1, q.1, (get_one x number p.0 p.2).1, (get_one x number q.0 q.2).1))
    (get_both old (x ∷ []) k number (subst (λ (l : List ℕ). slice_get l k ≡ Some number) is b)))
    (get_both old (x ∷ []) j number (subst (λ (l : List ℕ). slice_get l j ≡ Some number) is a))
came_unique old new (inr (inr is)) u j k number a b =
    let e = u (max_batch + j) (max_batch + k) number
    (sym (get_dropped max_batch old j) ∙ subst (λ (l : List ℕ). slice_get l j ≡ Some number) is a)
    (sym (get_dropped max_batch old k) ∙ subst (λ (l : List ℕ). slice_get l k ≡ Some number) is b) in
    omega (arith, e)

-- an element was there, or is the new one
came_from : (old new : List ℕ) → Came old new → (k number : ℕ) → slice_get new k ≡ Some number → ((j : ℕ) × (slice_get old j ≡ Some number)) ⊎ ((j : ℕ) → slice_get old j ≡ Some number → Prim.⊥)
came_from old new (inl same) k number e = inl (k, subst (λ (l : List ℕ). slice_get l k ≡ Some number) same e)
came_from old new (inr (inl (x, is, fresh))) k number e = ⊎_elim
    (λ (p : slice_get old k ≡ Some number). inl (k, p))
    (λ (p : (m : ℕ) × (k ≡ length old + m) × (slice_get (x ∷ []) m ≡ Some number)). inr (λ j f. fresh j (f ∙ ap Some (sym (get_one x number p.0 p.2).0))))
    (get_both old (x ∷ []) k number (subst (λ (l : List ℕ). slice_get l k ≡ Some number) is e))
came_from old new (inr (inr is)) k number e = inl (max_batch + k, sym (get_dropped max_batch old k) ∙ subst (λ (l : List ℕ). slice_get l k ≡ Some number) is e)

module _ (g : Given) (known : Known g) (later : LaterEntriesCover (entry_view log_entries)) where
  abbrev book : Events → List Note
  book run = (world g.first run).book

  node_of : (n m : Node) → Running n ≡ Running m → n ≡ m
  node_of n m e = ap in_place e
    where
      in_place : NodeState → Node
      in_place (Running x) = x
      in_place (Down kept rest) = n

  -- this number stands in this node's queue
  abbrev pub Stands : Events → NodeId → ℕ → ℕ → Type 0
  Stands run i k number = (n : Node) × Runs g.first run i n × (slice_get (numbers n.queue) k ≡ Some number)

  pub stands_asked : (run : Events) → IsNumbered g.first run → (i : NodeId) (k number : ℕ) → Stands run i k number → (list : Statements) × (wait : Bool) × (op_of (book run) number ≡ Some (Queue list wait))
  stands_asked run numbered i k number s = held_get (book run) s.0.queue k number ((sound g known.lead_on run numbered).serve i s.0 s.1).queue s.2

  -- what the acting node's queue comes from
  module _ (run : Events) (e : Event) (numbered : IsNumbered g.first (Then run e)) (a : Acted g known run e) where
    abbrev tn : Node
    tn = (t g known run e a).node

    -- a number that is asked now stands in no queue
    fresh : (number timeout : ℕ) (op : Op) → a.act ≡ Ask number timeout op → (i : NodeId) (k : ℕ) → Stands run i k number → Prim.⊥
    fresh number timeout op is i k s = let h = stands_asked run numbered.0 i k number s in differ h.0 h.1 (sym (new_number g known run e a numbered.1 number timeout op is) ∙ h.2)
      where
        differ : (list : Statements) (wait : Bool) → None ≡ Some (Queue list wait) → Prim.⊥
        differ items wait e = cc

    came : Came (numbers a.node.queue) (numbers tn.queue)
    came = ⊎_elim
        (λ (same : numbers tn.queue ≡ numbers a.node.queue). inl same)
        (λ (more : IsPut g a.node a.act tn.queue ⊎ IsDropped g a.node a.act tn.queue). ⊎_elim
        (λ (p : IsPut g a.node a.act tn.queue). inr (inl (p.number, p.goes, λ k at. fresh p.number p.timeout (Queue p.list p.wait) p.act a.who k (a.node, a.runs, at))))
        (λ (d : IsDropped g a.node a.act tn.queue). inr (inr d.goes))
        more)
        (act_gives g known.lead_on (world g.first run).sent (world g.first run).moment a.node a.act).queue

    -- a number in a queue after the act stood in that node's queue before, or is asked now
    stood : (i : NodeId) (k number : ℕ) → Stands (Then run e) i k number → ((j : ℕ) × Stands run i j number) ⊎ ((i ≡ a.who) × (op_of (book run) number ≡ None))
    stood i k number s = ⊎_elim
        (λ (p : (i ≡ a.who) × (tn ≡ s.0)). here p.0 (subst (λ (x : Node). slice_get (numbers x.queue) k ≡ Some number) (sym p.1) s.2))
        (λ (o : Runs g.first run i s.0). inl (k, (s.0, o, s.2)))
        (who_runs g known run e a i s.0 s.1)
      where
        before : (j : ℕ) → slice_get (numbers a.node.queue) j ≡ Some number → i ≡ a.who → Stands run i j number
        before j at is = (a.node, subst (λ (w : NodeId). Runs g.first run w a.node) (sym is) a.runs, at)

        here : i ≡ a.who → slice_get (numbers tn.queue) k ≡ Some number → ((j : ℕ) × Stands run i j number) ⊎ ((i ≡ a.who) × (op_of (book run) number ≡ None))
        here is at = ⊎_elim
            (λ (same : numbers tn.queue ≡ numbers a.node.queue). inl (k, before k (subst (λ (l : List ℕ). slice_get l k ≡ Some number) same at) is))
            (λ (more : IsPut g a.node a.act tn.queue ⊎ IsDropped g a.node a.act tn.queue). ⊎_elim
            (λ (p : IsPut g a.node a.act tn.queue). ⊎_elim
            (λ (o : slice_get (numbers a.node.queue) k ≡ Some number). inl (k, before k o is))
            (λ (n : (m : ℕ) × (k ≡ length (numbers a.node.queue) + m) × (slice_get (p.number ∷ []) m ≡ Some number)).
            let same = (get_one p.number number n.0 n.2).0 in
            inr (is, ap (op_of (book run)) (sym same) ∙ new_number g known run e a numbered.1 p.number p.timeout (Queue p.list p.wait) p.act))
            (get_both (numbers a.node.queue) (p.number ∷ []) k number (subst (λ (l : List ℕ). slice_get l k ≡ Some number) p.goes at)))
            (λ (d : IsDropped g a.node a.act tn.queue). inl (max_batch + k, before (max_batch + k) (sym (get_dropped max_batch (numbers a.node.queue) k) ∙ subst (λ (l : List ℕ). slice_get l k ≡ Some number) d.goes at) is))
            more)
            (act_gives g known.lead_on (world g.first run).sent (world g.first run).moment a.node a.act).queue

  -- where nobody acts
  still_stood : (run : Events) (e : Event) → Still g known run e → (i : NodeId) (k number : ℕ) → Stands (Then run e) i k number → Stands run i k number
  still_stood run e q i k number s = ⊎_elim
      (λ (o : Runs g.first run i s.0). (s.0, o, s.2))
      (λ (f : (s.0.raft.role ≡ Follower) × (s.0.queue ≡ [])). absurd (none (subst (λ (l : List QueuedWrite). slice_get (numbers l) k ≡ Some number) f.1 s.2)))
      (q.nodes i s.0 s.1)
    where
      none : slice_get (numbers []) k ≡ Some number → Prim.⊥
      none e = cc

  -- each number stands once
  abbrev pub Once : Events → Type 0
  Once run = (i j : NodeId) (k l number : ℕ) → Stands run i k number → Stands run j l number → (i ≡ j) × (k ≡ l)

  acted_once : (run : Events) (e : Event) (numbered : IsNumbered g.first (Then run e)) (a : Acted g known run e) → Once run → Once (Then run e)
  acted_once run e numbered a u i j k l number s r =
      let ij = nodes (stood run e numbered a i k number s) (stood run e numbered a j l number r) in
      (ij, at_one ij (who_runs g known run e a i s.0 s.1))
    where
      never : (h : NodeId) (m : ℕ) → Stands run h m number → op_of (book run) number ≡ None → Prim.⊥
      never h m st none = let o = stands_asked run numbered.0 h m number st in differ o.0 o.1 (sym none ∙ o.2)
        where
          differ : (list : Statements) (wait : Bool) → None ≡ Some (Queue list wait) → Prim.⊥
          differ items wait e = cc

      nodes : ((m : ℕ) × Stands run i m number) ⊎ ((i ≡ a.who) × (op_of (book run) number ≡ None)) → ((m : ℕ) × Stands run j m number) ⊎ ((j ≡ a.who) × (op_of (book run) number ≡ None)) → i ≡ j
      nodes (inl x) (inl y) = (u i j x.0 y.0 number x.1 y.1).0
      nodes (inl x) (inr y) = absurd (never i x.0 x.1 y.1)
      nodes (inr x) (inl y) = absurd (never j y.0 y.1 x.1)
      nodes (inr x) (inr y) = x.0 ∙ sym y.0

      at_one : i ≡ j → ((i ≡ a.who) × (tn run e numbered a ≡ s.0)) ⊎ Runs g.first run i s.0 → k ≡ l
      at_one ij w =
          let same : s.0 ≡ r.0 = node_of s.0 r.0 (sym (subst (λ (x : NodeId). Runs g.first (Then run e) x s.0) ij s.1) ∙ r.1) in
          let at : slice_get (numbers s.0.queue) l ≡ Some number = subst (λ (x : Node). slice_get (numbers x.queue) l ≡ Some number) (sym same) r.2 in
          ⊎_elim
          (λ (p : (i ≡ a.who) × (tn run e numbered a ≡ s.0)). came_unique (numbers a.node.queue) (numbers (tn run e numbered a).queue) (came run e numbered a)
          (λ x y m f h. (u a.who a.who x y m (a.node, a.runs, f) (a.node, a.runs, h)).1)
          k l number (subst (λ (x : Node). slice_get (numbers x.queue) k ≡ Some number) (sym p.1) s.2) (subst (λ (x : Node). slice_get (numbers x.queue) l ≡ Some number) (sym p.1) at))
          (λ (o : Runs g.first run i s.0). (u i i k l number (s.0, o, s.2) (s.0, o, at)).1)
          w

  pub unique : (run : Events) → IsNumbered g.first run → Once run
  unique First numbered = λ i j k l number s r. absurd (none i s.0 s.1)
    where
      none : (i : NodeId) (n : Node) → Runs g.first First i n → Prim.⊥
      none i n e = cc
  unique (Then run e) numbered = ⊎_elim
      (λ (a : Acted g known run e). acted_once run e numbered a (unique run numbered.0))
      (λ (q : Still g known run e) i j k l number s r. unique run numbered.0 i j k l number (still_stood run e q i k number s) (still_stood run e q j l number r))
      (kind g known run e)

  -- ---- what was taken

  -- in this event a running node appends its batch, which has this number
  pub record Took (p : Events) (e : Event) (number position : ℕ) : Type 0 where
    pub who : NodeId
    pub does : Performs e who Flush
    pub node : Node
    pub runs : Runs g.first p who node
    pub held : QueuedWrite
    pub found : slice_get (batch g.first node) position ≡ Some held
    pub number_is : held.number ≡ number
    pub entry : LogEntry
    pub longer : (turn g.first (world g.first p) node Flush).node.raft.log ≡ node.raft.log ++ entry ∷ []

  pub took_stands : (p : Events) (e : Event) (number position : ℕ) → (x : Took p e number position) → Stands p x.who position number × (position < max_batch)
  took_stands p e number position x =
      let q = get_taken max_batch x.node.queue position x.held x.found in
      ((x.node, x.runs, get_number x.node.queue position x.held q.0 ∙ ap Some x.number_is), q.1)

  flush_drops : (n : Node) (entry : LogEntry) → (flush g.first n).node.raft.log ≡ n.raft.log ++ entry ∷ [] → (flush g.first n).node.queue ≡ drop max_batch n.queue
  flush_drops n entry = if_case (λ (t : Turn). t.node.raft.log ≡ n.raft.log ++ entry ∷ [] → t.node.queue ≡ drop max_batch n.queue) (is_leader n.raft.role && nat_lt 0 (length n.queue)) (flushed g.first n) (unchanged n)
      (λ _ _. refl)
      (λ _ e. let l : length n.raft.log ≡ length n.raft.log + 1 = ap length e ∙ length-append n.raft.log (entry ∷ []) in absurd (omega (arith, l)))

  placed_down : (nodes : NodeId → NodeState) (i : NodeId) (kept : Persistent LogEntry) (rest : List (StoredRecord LogEntry)) (m : Node) → set_node g.first nodes i (Down kept rest) i ≡ Running m → Prim.⊥
  placed_down nodes i kept rest m is = never (sym (ap (λ (b : Bool). cond b (Down kept rest) (nodes i)) (id_self i)) ∙ is)
    where
      never : Down kept rest ≡ Running m → Prim.⊥
      never e = cc

  pub stopped : (p : Events) (i : NodeId) (a : Act) (k : ℕ) (n m : Node) → Runs g.first p i n → Runs g.first (Then p (Stop i a k)) i m → Prim.⊥
  stopped p i a k n m up r = placed_down (world g.first p).nodes i (persistent_after (persistent_of n) (take k (turn g.first (world g.first p) n a).stored)) [] m (sym (ap (λ (w : World). w.nodes i) (ap (stops_at g.first (world g.first p) i a k) up)) ∙ r)

  pub failed : (p : Events) (i : NodeId) (a : Act) (n m : Node) → Runs g.first p i n → Runs g.first (Then p (Fail i a)) i m → Prim.⊥
  failed p i a n m up r = placed_down (world g.first p).nodes i (persistent_of n) (turn g.first (world g.first p) n a).stored m (sym (ap (λ (w : World). w.nodes i) (ap (fails_at g.first (world g.first p) i a) up)) ∙ r)

  drop_numbers : (k : ℕ) (qs : List QueuedWrite) → numbers (drop k qs) ≡ drop k (numbers qs)
  drop_numbers zero qs = refl
  drop_numbers (suc k) [] = refl
  drop_numbers (suc k) (q ∷ qs) = drop_numbers k qs

  -- right behind it, the number stands in no queue
  module _ (p : Events) (e : Event) (number position : ℕ) (numbered : IsNumbered g.first (Then p e)) (x : Took p e number position) (i : NodeId) (k : ℕ) (s : Stands (Then p e) i k number) where
    at : Stands p x.who position number × (position < max_batch)
    at = took_stands p e number position x

    one : Once p
    one = unique p numbered.0

    -- not in what is left of the queue that it was taken from
    left : (m : Node) → m ≡ s.0 → m.queue ≡ drop max_batch x.node.queue → Prim.⊥
    left m is drops =
        let here : slice_get (numbers (drop max_batch x.node.queue)) k ≡ Some number = ap (λ (l : List QueuedWrite). slice_get (numbers l) k) (sym (ap (λ (n : Node). n.queue) (sym is) ∙ drops)) ∙ s.2 in
        let old : slice_get (numbers x.node.queue) (max_batch + k) ≡ Some number = sym (get_dropped max_batch (numbers x.node.queue) k) ∙ ap (λ (l : List ℕ). slice_get l k) (sym (drop_numbers max_batch x.node.queue)) ∙ here in
        let same = (one x.who x.who position (max_batch + k) number at.0 (x.node, x.runs, old)).1 in
        omega (arith, same, at.1)

    gone_act : (a : Acted g known p e) → a.who ≡ x.who → a.act ≡ Flush → Prim.⊥
    gone_act a who is =
        let node : a.node ≡ x.node = node_of a.node x.node (sym (subst (λ (w : NodeId). Runs g.first p w a.node) who a.runs) ∙ x.runs) in
        let drops : (t g known p e a).node.queue ≡ drop max_batch x.node.queue =
        ap (λ (b : Act). (turn g.first (world g.first p) a.node b).node.queue) is ∙ ap (λ (n : Node). (flush g.first n).node.queue) node ∙ flush_drops x.node x.entry x.longer in
        ⊎_elim
        (λ (w : (i ≡ a.who) × ((t g known p e a).node ≡ s.0)). left (t g known p e a).node w.1 drops)
        (λ (o : Runs g.first p i s.0).
        let there : x.who ≡ i = (one x.who i position k number at.0 (s.0, o, s.2)).0 in
        left (t g known p e a).node (node_of (t g known p e a).node s.0 (sym (subst (λ (w : NodeId). Runs g.first (Then p e) w (t g known p e a).node) (who ∙ there) (runs_next g known p e a)) ∙ s.1)) drops)
        (who_runs g known p e a i s.0 s.1)

    gone_down : Still g known p e → ((m : Node) → Runs g.first (Then p e) x.who m → Prim.⊥) → Prim.⊥
    gone_down q nobody =
        let o = still_stood p e q i k number s in
        let there : x.who ≡ i = (one x.who i position k number at.0 o).0 in
        nobody s.0 (subst (λ (w : NodeId). Runs g.first (Then p e) w s.0) (sym there) s.1)

  gone_now : (p : Events) (e : Event) (number position : ℕ) → IsNumbered g.first (Then p e) → Took p e number position → (i : NodeId) (k : ℕ) → Stands (Then p e) i k number → Prim.⊥
  gone_now p (At j a) number position numbered x i k s =
      let up : Runs g.first p j x.node = subst (λ (w : NodeId). Runs g.first p w x.node) (sym x.does.0) x.runs in
      gone_act p (At j a) number position numbered x i k s (record { who = j; node = x.node; act = a; runs = up; event = refl; asked = refl; next = ap (happens_at g.first (world g.first p) j a) up }) x.does.0 x.does.1
  gone_now p (Stop j a m) number position numbered x i k s = ⊎_elim
      (λ (y : Acted g known p (Stop j a m)). absurd (differ y.who y.act y.event))
      (λ (q : Still g known p (Stop j a m)). gone_down p (Stop j a m) number position numbered x i k s q (λ n r. stopped p j a m x.node n (subst (λ (w : NodeId). Runs g.first p w x.node) (sym x.does.0) x.runs) (subst (λ (w : NodeId). Runs g.first (Then p (Stop j a m)) w n) (sym x.does.0) r)))
      (kind g known p (Stop j a m))
    where
      differ : (w : NodeId) (b : Act) → Stop j a m ≡ At w b → Prim.⊥
      differ w b e = cc
  gone_now p (Fail j a) number position numbered x i k s = ⊎_elim
      (λ (y : Acted g known p (Fail j a)). absurd (differ y.who y.act y.event))
      (λ (q : Still g known p (Fail j a)). gone_down p (Fail j a) number position numbered x i k s q (λ n r. failed p j a x.node n (subst (λ (w : NodeId). Runs g.first p w x.node) (sym x.does.0) x.runs) (subst (λ (w : NodeId). Runs g.first (Then p (Fail j a)) w n) (sym x.does.0) r)))
      (kind g known p (Fail j a))
    where
      differ : (w : NodeId) (b : Act) → Fail j a ≡ At w b → Prim.⊥
      differ w b e = cc
  gone_now p (Start j m) number position numbered x i k s = absurd x.does
  gone_now p (FailStart j m) number position numbered x i k s = absurd x.does
  gone_now p (Clock moment) number position numbered x i k s = absurd x.does

  -- and never again
  module _ (p : Events) (e : Event) (number position : ℕ) (x : Took p e number position) where
    abbrev Gone : Events → Type 0
    Gone run = (i : NodeId) (k : ℕ) → Stands run i k number → Prim.⊥

    -- its ask was noted
    noted : (run : Events) → IsNumbered g.first run → IsPast g.first (Then p e) run → (op : Op) × (op_of (book run) number ≡ Some op)
    noted run numbered past =
        let np = numbered_past g known later (Then p e) run past numbered in
        let h = stands_asked p np.0 x.who position number (took_stands p e number position x).0 in
        let l = book_past g known later p run (past_two run past) in
        (Queue h.0 h.1, ap (λ (b : List Note). op_of b number) l.1 ∙ op_kept (book p) l.0 number (Queue h.0 h.1) h.2)
      where
        past_two : (run : Events) → IsPast g.first (Then p e) run → IsPast g.first p run
        past_two First a = absurd (cc)
        past_two (Then run f) (inl a) = subst (IsPast g.first p) a (inr (Rattle.rq_world.proofs.Safety.here g p))
        past_two (Then run f) (inr a) = inr (past_two run a)

    gone_then : (run : Events) (f : Event) → IsNumbered g.first (Then run f) → IsPast g.first (Then p e) run → Gone run → Gone (Then run f)
    gone_then run f numbered past before i k s = ⊎_elim
        (λ (a : Acted g known run f). ⊎_elim
        (λ (o : (j : ℕ) × Stands run i j number). before i o.0 o.1)
        (λ (n : (i ≡ a.who) × (op_of (book run) number ≡ None)). let o = noted run numbered.0 past in absurd (differ o.0 (sym n.1 ∙ o.1)))
        (stood run f numbered a i k number s))
        (λ (q : Still g known run f). before i k (still_stood run f q i k number s))
        (kind g known run f)
      where
        differ : (op : Op) → None ≡ Some op → Prim.⊥
        differ op e = cc

    pub gone : (run : Events) → IsNumbered g.first run → IsPast g.first (Then p e) run → Gone run
    gone First numbered past = absurd (cc)
    gone (Then run f) numbered (inl same) = subst Gone same (gone_now p e number position (subst (IsNumbered g.first) (sym same) numbered) x)
    gone (Then run f) numbered (inr past) = gone_then run f numbered past (gone run numbered.0 past)
