-- Each ask is answered once: over a whole run a number is answered at most once, and while it waits, at one place of one node, it isn't answered.
use Rattle.std.proofs.Common.{◌≡◌, ◌≢◌, ◌⊎◌, ◌≤◌, ℕ, zero, suc, ◌+◌, nat_eq, List, [], ◌∷◌, ◌++◌, length, take, map, slice_get, Bool, true, false, cond, Option, Some, None, refl, sym, ◌∙◌, ap, subst, inl, inr, ⊎_elim, arith}
use Rattle.std.proofs.lemmas.Bool.Decides.{nat_tests}
use Rattle.std.specs.Prelude.{bytes_eq}
use Rattle.rq_history.specs.History.{NodeId}
use Rattle.rq_raft.specs.declared.role.Role.TheVariants.{Follower, Leader}
use Rattle.rq_request.specs.declared.say.Say.{Say}
use Rattle.rq_request.specs.declared.say.Answer.{Answer}
use Rattle.rq_world.specs.Node.{Node}
use Rattle.rq_world.specs.World.{Op, Note, Asked, Answered, NodeState, Running, Down, World, Act, Ask, Elect, Beat, Flush, Apply, Compact, Deliver, Tick, Idle, Event, Run as Events, First, Then, note_of, place_of, at_place, world}
use Rattle.rq_world.specs.Laws.{Runs}
use Rattle.rq_world.specs.Promise.{op_of, IsNumbered}
use Rattle.rq_world.specs.Answers.{EachAskIsAnsweredOnce, EachAnswerFollowsItsAsk}
use Rattle.rq_world.proofs.Tests.{id_true, id_false}
use Rattle.rq_world.proofs.Given.{Given}
use Rattle.rq_world.proofs.Histories.{op_kept, op_behind}
use Rattle.rq_world.proofs.Promises.{sound}
use Rattle.rq_world.proofs.Passes.{Known}
use Rattle.rq_world.proofs.Covering.{Acted, Still, kind, t, runs_next, who_runs, notes_silent}
use Rattle.rq_world.proofs.Apart.{new_number}
use Rattle.rq_world.proofs.Counting.{one, in_answers, in_node, in_act, act_balances}

-- ---- counts of the book

one_self : (x : ℕ) → one x x ≡ 1
unfolding one
one_self x = let e : nat_eq x x ≡ true = grind (arith, nat_tests) in ap (λ (b : Bool). cond b 1 0) e

one_other : (x k : ℕ) → nat_eq k x ≡ false → one x k ≡ 0
unfolding one
one_other x k e = ap (λ (b : Bool). cond b 1 0) e

module _ (x : ℕ) where
  abbrev pub in_book : List Note → ℕ
  in_book [] = 0
  in_book (Asked k home op ∷ notes) = in_book notes
  in_book (Answered k say place ∷ notes) = one x k + in_book notes

  book_both : (a b : List Note) → in_book (a ++ b) ≡ in_book a + in_book b
  book_both [] b = omega arith
  book_both (Asked k home op ∷ a) b = book_both a b
  book_both (Answered k say place ∷ a) b = let h = book_both a b in omega (arith, h)

  answers_noted : (place : ℕ) (l : List Answer) → in_book (map (λ (answer : Answer). Answered answer.number answer.say place) l) ≡ in_answers x l
  answers_noted place [] = refl
  answers_noted place (a ∷ l) = let h = answers_noted place l in omega (arith, h)

  silent_none : (notes : List Note) → ((m number place : ℕ) (say : Say) → slice_get notes m ≡ Some (Answered number say place) → Prim.⊥) → in_book notes ≡ 0
  silent_none [] silent = refl
  silent_none (Asked k home op ∷ notes) silent = silent_none notes (λ m number place say e. silent (suc m) number place say e)
  silent_none (Answered k say place ∷ notes) silent = absurd (silent zero k place say refl)

  found_once : (notes : List Note) (k place : ℕ) (say : Say) → slice_get notes k ≡ Some (Answered x say place) → 1 ≤ in_book notes
  found_once [] k place say e = absurd (cc)
  found_once (Asked j home op ∷ notes) zero place say e = absurd (cc)
  found_once (Asked j home op ∷ notes) (suc k) place say e = found_once notes k place say e
  found_once (Answered j other at ∷ notes) zero place say e = let s = one_self x in let same = number_is j other at place say e in let o : one x j ≡ one x x = ap (one x) same in omega (arith, s, o)
    where
      number_is : (j : ℕ) (other : Say) (at place : ℕ) (say : Say) → Some (Answered j other at) ≡ Some (Answered x say place) → j ≡ x
      number_is j other at place say e = cc
  found_once (Answered j other at ∷ notes) (suc k) place say e = let h = found_once notes k place say e in omega (arith, h)

  found_at : (notes : List Note) (j k place other : ℕ) (say more : Say) → in_book notes ≤ 1 → slice_get notes j ≡ Some (Answered x say place) → slice_get notes k ≡ Some (Answered x more other) → j ≡ k
  found_at [] j k place other say more most a b = absurd (cc)
  found_at (Asked i home op ∷ notes) zero k place other say more most a b = absurd (cc)
  found_at (Asked i home op ∷ notes) (suc j) zero place other say more most a b = absurd (cc)
  found_at (Asked i home op ∷ notes) (suc j) (suc k) place other say more most a b = ap suc (found_at notes j k place other say more most a b)
  found_at (Answered i said at ∷ notes) zero zero place other say more most a b = refl
  found_at (Answered i said at ∷ notes) zero (suc k) place other say more most a b =
      let s = one_self x in
      let o : one x i ≡ one x x = ap (one x) (number_is i said at place say a) in
      let f = found_once notes k other more b in
      absurd (omega (arith, s, o, f, most))
    where
      number_is : (i : ℕ) (said : Say) (at place : ℕ) (say : Say) → Some (Answered i said at) ≡ Some (Answered x say place) → i ≡ x
      number_is i said at place say e = cc
  found_at (Answered i said at ∷ notes) (suc j) zero place other say more most a b =
      let s = one_self x in
      let o : one x i ≡ one x x = ap (one x) (number_is i said at other more b) in
      let f = found_once notes j place say a in
      absurd (omega (arith, s, o, f, most))
    where
      number_is : (i : ℕ) (said : Say) (at place : ℕ) (say : Say) → Some (Answered i said at) ≡ Some (Answered x say place) → i ≡ x
      number_is i said at place say e = cc
  found_at (Answered i said at ∷ notes) (suc j) (suc k) place other say more most a b =
      let rest : in_book notes ≤ 1 = omega (arith, most) in
      ap suc (found_at notes j k place other say more rest a b)

-- ---- prefixes of the book

get_both : (a b : List Note) (k : ℕ) (q : Note) → slice_get (a ++ b) k ≡ Some q → (slice_get a k ≡ Some q) ⊎ ((m : ℕ) × (k ≡ length a + m) × (slice_get b m ≡ Some q))
get_both [] b k q e = inr (k, omega arith, e)
get_both (x ∷ a) b zero q e = inl e
get_both (x ∷ a) b (suc k) q e = ⊎_elim (λ (o : slice_get a k ≡ Some q). inl o) (λ (n : (m : ℕ) × (k ≡ length a + m) × (slice_get b m ≡ Some q)). inr (n.0, omega (arith, n.1), n.2)) (get_both a b k q e)

take_within : (a b : List Note) (k : ℕ) (q : Note) → slice_get a k ≡ Some q → take k (a ++ b) ≡ take k a
take_within [] b k q e = absurd (cc)
take_within (x ∷ a) b zero q e = refl
take_within (x ∷ a) b (suc k) q e = ap (λ (l : List Note). x ∷ l) (take_within a b k q e)

take_beyond : (a b : List Note) (m : ℕ) → take (length a + m) (a ++ b) ≡ a ++ take m b
take_beyond [] b m = let same : zero + m ≡ m = omega arith in ap (λ (k : ℕ). take k b) same
take_beyond (x ∷ a) b m = let same : suc (length a) + m ≡ suc (length a + m) = omega arith in ap (λ (k : ℕ). take k (x ∷ (a ++ b))) same ∙ ap (λ (l : List Note). x ∷ l) (take_beyond a b m)

-- ---- sums of numbers

apart_sum : (c d a s : ℕ) → c + d ≤ 1 → c + a ≤ 1 → d + a ≤ 1 → s ≤ c → d + (a + s) ≤ 1
apart_sum zero d a s cd ca da sc = omega (arith, da, sc)
apart_sum (suc c) d a s cd ca da sc = omega (arith, cd, ca, sc)

module _ (g : Given) (known : Known g) where
  abbrev book : Events → List Note
  book run = (world g.first run).book

  -- at a moment: the number is answered at most once; where it waits it waits once, at one node, and isn't answered; unasked it does neither
  pub record Single (run : Events) (x : ℕ) : Type 0 where
    pub answered : in_book x (book run) ≤ 1
    pub alone : (i : NodeId) (n : Node) → Runs g.first run i n → in_node x n + in_book x (book run) ≤ 1
    pub apart : (i j : NodeId) (n m : Node) → i ≢ j → Runs g.first run i n → Runs g.first run j m → in_node x n + in_node x m ≤ 1
    pub fresh : op_of (book run) x ≡ None → (in_book x (book run) ≡ 0) × ((i : NodeId) (n : Node) → Runs g.first run i n → in_node x n ≡ 0)

  op_before : (old more : List Note) (x : ℕ) → op_of (old ++ more) x ≡ None → op_of old x ≡ None
  op_before old more x none = go (op_of old x) refl
    where
      differ : (op : Op) → Some op ≡ None → Prim.⊥
      differ op e = cc

      go : (o : Option Op) → op_of old x ≡ o → o ≡ None
      go None e = refl
      go (Some op) e = absurd (differ op (sym (op_kept old more x op e) ∙ none))

  -- ---- an event in which no node acts

  module _ (run : Events) (e : Event) (x : ℕ) (numbered : IsNumbered g.first run) (q : Still g known run e) (s : Single run x) where
    same_book : in_book x (book (Then run e)) ≡ in_book x (book run)
    same_book = let b = book_both x (book run) q.more in let n = silent_none x q.more q.silent in let is = ap (in_book x) q.book in omega (arith, b, n, is)

    -- who started waits for nothing
    none_waits : (j : NodeId) (m : Node) → IsNumbered g.first (Then run e) → Runs g.first (Then run e) j m → (m.raft.role ≡ Follower) × (m.queue ≡ []) → in_node x m ≡ 0
    none_waits j m numbered r f =
        let idle = ((sound g known.lead_on (Then run e) numbered).serve j m r).idle (λ lead. differ m f.0 lead) in
        let w = ap (Rattle.rq_world.proofs.Counting.in_waiting x) idle.0 in
        let p = ap (Rattle.rq_world.proofs.Counting.in_reads x) idle.1 in
        let u = ap (Rattle.rq_world.proofs.Counting.in_queue x) f.1 in
        omega (arith, w, p, u)
      where
        differ : (m : Node) → m.raft.role ≡ Follower → m.raft.role ≡ Leader → Prim.⊥
        differ m a b = cc

    still_single : IsNumbered g.first (Then run e) → Single (Then run e) x
    still_single now = record {
      answered = let b = same_book in omega (arith, b, s.answered);
      alone = λ i n r. ⊎_elim
          (λ (old : Runs g.first run i n). let b = same_book in omega (arith, b, s.alone i n old))
          (λ (f : (n.raft.role ≡ Follower) × (n.queue ≡ [])). let b = same_book in let z = none_waits i n now r f in omega (arith, b, z, s.answered))
          (q.nodes i n r);
      apart = λ i j n m other r u. ⊎_elim
          (λ (old : Runs g.first run i n). ⊎_elim
          (λ (both : Runs g.first run j m). s.apart i j n m other old both)
          (λ (f : (m.raft.role ≡ Follower) × (m.queue ≡ [])). let z = none_waits j m now u f in omega (arith, z, s.alone i n old))
          (q.nodes j m u))
          (λ (f : (n.raft.role ≡ Follower) × (n.queue ≡ [])). ⊎_elim
          (λ (both : Runs g.first run j m). let z = none_waits i n now r f in omega (arith, z, s.alone j m both))
          (λ (h : (m.raft.role ≡ Follower) × (m.queue ≡ [])). let z = none_waits i n now r f in let y = none_waits j m now u h in omega (arith, z, y))
          (q.nodes j m u))
          (q.nodes i n r);
      fresh = λ none. let old = s.fresh (op_before (book run) q.more x (sym (ap (λ (b : List Note). op_of b x) q.book) ∙ none)) in
          let b = same_book in
          (omega (arith, b, old.0), λ i n r. ⊎_elim (λ (was : Runs g.first run i n). old.1 i n was) (λ (f : (n.raft.role ≡ Follower) × (n.queue ≡ [])). none_waits i n now r f) (q.nodes i n r));
    }

  -- ---- an act of a running node

  module _ (run : Events) (e : Event) (x : ℕ) (numbered : IsNumbered g.first (Then run e)) (a : Acted g known run e) (s : Single run x) where
    answers_now : ℕ
    answers_now = in_answers x (t g known run e a).answers

    notes_none : (b : Act) → in_book x (note_of g.first a.who b) ≡ 0
    notes_none (Ask number timeout op) = refl
    notes_none Elect = refl
    notes_none Beat = refl
    notes_none Flush = refl
    notes_none Apply = refl
    notes_none Compact = refl
    notes_none (Deliver k) = refl
    notes_none Tick = refl
    notes_none Idle = refl

    abbrev more : List Note
    more = note_of g.first a.who a.act ++ at_place g.first (place_of g.first a.node a.act) (t g known run e a).answers

    book_next : book (Then run e) ≡ book run ++ more
    book_next = ap (λ (w : World). w.book) a.next

    next_book : in_book x (book (Then run e)) ≡ in_book x (book run) + in_answers x (t g known run e a).answers
    next_book =
        let is = ap (in_book x) book_next in
        let b = book_both x (book run) more in
        let c = book_both x (note_of g.first a.who a.act) (at_place g.first (place_of g.first a.node a.act) (t g known run e a).answers) in
        let n = notes_none a.act in
        let l = answers_noted x (place_of g.first a.node a.act) (t g known run e a).answers in
        omega (arith, is, b, c, n, l)

    within : in_node x (t g known run e a).node + in_answers x (t g known run e a).answers ≤ in_node x a.node + in_act x a.act
    within = let b = act_balances x g.first (world g.first run).sent (world g.first run).moment a.node a.act in omega (arith, b)

    -- the number isn't asked now, or it is, and wasn't before
    is_asked : (b : Act) → a.act ≡ b → (in_act x b ≡ 0) ⊎ ((op_of (book run) x ≡ None) × (in_act x b ≡ 1))
    is_asked (Ask number timeout op) is = go (nat_eq number x) refl
      where
        equal : nat_eq number x ≡ true → number ≡ x
        equal e = grind (arith, nat_tests)

        go : (b : Bool) → nat_eq number x ≡ b → (one x number ≡ 0) ⊎ ((op_of (book run) x ≡ None) × (one x number ≡ 1))
        go true same = inr (subst (λ (k : ℕ). op_of (book run) k ≡ None) (equal same) (new_number g known run e a numbered.1 number timeout op is), ap (one x) (equal same) ∙ one_self x)
        go false other = inl (one_other x number other)
    is_asked Elect is = inl refl
    is_asked Beat is = inl refl
    is_asked Flush is = inl refl
    is_asked Apply is = inl refl
    is_asked Compact is = inl refl
    is_asked (Deliver k) is = inl refl
    is_asked Tick is = inl refl
    is_asked Idle is = inl refl

    -- who runs now is the one that acted, or another that ran before
    others : (j : NodeId) (m : Node) → Runs g.first (Then run e) j m → ((j ≡ a.who) × (m ≡ (t g known run e a).node)) ⊎ ((j ≢ a.who) × Runs g.first run j m)
    others j m r = go (bytes_eq j a.who) refl
      where
        node_of : (n m : Node) → Running n ≡ Running m → n ≡ m
        node_of n m e = ap in_place e
          where
            in_place : NodeState → Node
            in_place (Running y) = y
            in_place (Down kept rest) = n

        go : (b : Bool) → bytes_eq j a.who ≡ b → ((j ≡ a.who) × (m ≡ (t g known run e a).node)) ⊎ ((j ≢ a.who) × Runs g.first run j m)
        go true same = let ij = id_true j a.who same in inl (ij, node_of m (t g known run e a).node (sym (subst (λ (k : NodeId). Runs g.first (Then run e) k m) ij r) ∙ runs_next g known run e a))
        go false other = inr (
          id_false j a.who other,
          ⊎_elim
              (λ (p : (j ≡ a.who) × ((t g known run e a).node ≡ m)). absurd (id_false j a.who other p.0))
              (λ (old : Runs g.first run j m). old)
              (who_runs g known run e a j m r),
        )

    -- the count of the node that acted, and of another
    mine : (m : Node) → m ≡ (t g known run e a).node → in_node x m ≡ in_node x (t g known run e a).node
    mine m is = ap (in_node x) is

    acted_alone : in_node x (t g known run e a).node + in_book x (book (Then run e)) ≤ 1
    acted_alone = ⊎_elim
        (λ (none : in_act x a.act ≡ 0). let b = next_book in let w = within in omega (arith, none, b, w, s.alone a.who a.node a.runs))
        (λ (new : (op_of (book run) x ≡ None) × (in_act x a.act ≡ 1)). let f = s.fresh new.0 in let z = f.1 a.who a.node a.runs in let b = next_book in let w = within in omega (arith, new.1, f.0, z, b, w))
        (is_asked a.act refl)

    other_alone : (j : NodeId) (m : Node) → j ≢ a.who → Runs g.first run j m → in_node x m + in_book x (book (Then run e)) ≤ 1
    other_alone j m other r = ⊎_elim
        (λ (none : in_act x a.act ≡ 0).
        let b = next_book in
        let w = within in
        let some : in_answers x (t g known run e a).answers ≤ in_node x a.node = omega (arith, w, none) in
        let sum = apart_sum (in_node x a.node) (in_node x m) (in_book x (book run)) (in_answers x (t g known run e a).answers) (flip (s.apart j a.who m a.node other r a.runs)) (s.alone a.who a.node a.runs) (s.alone j m r) some in
        omega (arith, b, sum))
        (λ (new : (op_of (book run) x ≡ None) × (in_act x a.act ≡ 1)).
        let f = s.fresh new.0 in
        let z = f.1 a.who a.node a.runs in
        let y = f.1 j m r in
        let b = next_book in
        let w = within in
        omega (arith, new.1, f.0, z, y, b, w))
        (is_asked a.act refl)
      where
        flip : in_node x m + in_node x a.node ≤ 1 → in_node x a.node + in_node x m ≤ 1
        flip h = omega (arith, h)

    both_apart : (j : NodeId) (m : Node) → j ≢ a.who → Runs g.first run j m → in_node x (t g known run e a).node + in_node x m ≤ 1
    both_apart j m other r = ⊎_elim
        (λ (none : in_act x a.act ≡ 0). let w = within in omega (arith, none, w, s.apart j a.who m a.node other r a.runs))
        (λ (new : (op_of (book run) x ≡ None) × (in_act x a.act ≡ 1)). let f = s.fresh new.0 in let z = f.1 a.who a.node a.runs in let y = f.1 j m r in let w = within in omega (arith, new.1, z, y, w))
        (is_asked a.act refl)

    acted_single : Single (Then run e) x
    acted_single = record {
      answered = let b = acted_alone in omega (arith, b);
      alone = λ i n r. ⊎_elim
          (λ (p : (i ≡ a.who) × (n ≡ (t g known run e a).node)). let m = mine n p.1 in let b = acted_alone in omega (arith, m, b))
          (λ (o : (i ≢ a.who) × Runs g.first run i n). other_alone i n o.0 o.1)
          (others i n r);
      apart = λ i j n m differ r u. ⊎_elim
          (λ (p : (i ≡ a.who) × (n ≡ (t g known run e a).node)). ⊎_elim
          (λ (q : (j ≡ a.who) × (m ≡ (t g known run e a).node)). absurd (differ (p.0 ∙ sym q.0)))
          (λ (o : (j ≢ a.who) × Runs g.first run j m). let y = mine n p.1 in let b = both_apart j m o.0 o.1 in omega (arith, y, b))
          (others j m u))
          (λ (o : (i ≢ a.who) × Runs g.first run i n). ⊎_elim
          (λ (q : (j ≡ a.who) × (m ≡ (t g known run e a).node)). let y = mine m q.1 in let b = both_apart i n o.0 o.1 in omega (arith, y, b))
          (λ (v : (j ≢ a.who) × Runs g.first run j m). s.apart i j n m differ o.1 v.1)
          (others j m u))
          (others i n r);
      fresh = λ none.
          let was = op_before (book run) more x (sym (ap (λ (b : List Note). op_of b x) book_next) ∙ none) in
          let old = s.fresh was in
          let zero_act = unasked none in
          let b = next_book in
          let w = within in
          let z = old.1 a.who a.node a.runs in (
            omega (arith, b, w, z, zero_act, old.0),
            λ i n r. ⊎_elim
                (λ (p : (i ≡ a.who) × (n ≡ (t g known run e a).node)). let y = mine n p.1 in omega (arith, y, w, z, zero_act))
                (λ (o : (i ≢ a.who) × Runs g.first run i n). old.1 i n o.1)
                (others i n r),
          );
    }
      where
        noted : (b : Act) (rest : List Note) → op_of (book run) x ≡ None → op_of (book run ++ (note_of g.first a.who b ++ rest)) x ≡ None → in_act x b ≡ 0
        noted (Ask number timeout op) rest was none = go (nat_eq number x) refl
          where
            differ : Some op ≡ None → Prim.⊥
            differ e = cc

            go : (b : Bool) → nat_eq number x ≡ b → one x number ≡ 0
            go true same = absurd (differ (sym (ap (λ (b : Bool). cond b (Some op) (op_of rest x)) same) ∙ sym (op_behind (book run) (Asked number a.who op ∷ rest) x was) ∙ none))
            go false other = one_other x number other
        noted Elect rest was none = refl
        noted Beat rest was none = refl
        noted Flush rest was none = refl
        noted Apply rest was none = refl
        noted Compact rest was none = refl
        noted (Deliver k) rest was none = refl
        noted Tick rest was none = refl
        noted Idle rest was none = refl

        unasked : op_of (book (Then run e)) x ≡ None → in_act x a.act ≡ 0
        unasked none = noted a.act (at_place g.first (place_of g.first a.node a.act) (t g known run e a).answers)
            (op_before (book run) more x (sym (ap (λ (b : List Note). op_of b x) book_next) ∙ none))
            (sym (ap (λ (b : List Note). op_of b x) book_next) ∙ none)

  pub single : (run : Events) → IsNumbered g.first run → (x : ℕ) → Single run x
  single First numbered x = record {
    answered = omega arith;
    alone = λ i n r. absurd (none i n r);
    apart = λ i j n m differ r u. absurd (none i n r);
    fresh = λ e. (refl, λ i n r. absurd (none i n r));
  }
    where
      none : (i : NodeId) (n : Node) → Runs g.first First i n → Prim.⊥
      none i n e = cc
  single (Then run e) numbered x = ⊎_elim
      (λ (a : Acted g known run e). acted_single run e x numbered a (single run numbered.0 x))
      (λ (q : Still g known run e). still_single run e x numbered.0 q (single run numbered.0 x) numbered)
      (kind g known run e)

  pub answered_once : EachAskIsAnsweredOnce g.first
  answered_once run numbered j k number place other say more a b = found_at number (book run) j k place other say more (single run numbered number).answered a b

  -- ---- an answer stands behind the note of its ask

  abbrev Follows : List Note → Type 0
  Follows l = (k number place : ℕ) (say : Say) → slice_get l k ≡ Some (Answered number say place) → (op : Op) × (op_of (take k l) number ≡ Some op)

  follows_old : (old more : List Note) → Follows old → (k number place : ℕ) (say : Say) → slice_get old k ≡ Some (Answered number say place) → (op : Op) × (op_of (take k (old ++ more)) number ≡ Some op)
  follows_old old more before k number place say e = let o = before k number place say e in (o.0, ap (λ (l : List Note). op_of l number) (take_within old more k (Answered number say place) e) ∙ o.1)

  module _ (run : Events) (e : Event) (numbered : IsNumbered g.first (Then run e)) (a : Acted g known run e) (number : ℕ) where
    -- an ask that is noted now is noted before its answers
    noted_first : (b : Act) (rest : List Note) (j : ℕ) → in_act number b ≡ 1 → op_of (book run) number ≡ None → (op : Op) × (op_of (book run ++ take (length (note_of g.first a.who b) + j) (note_of g.first a.who b ++ rest)) number ≡ Some op)
    noted_first (Ask k timeout op) rest j once none = (op, found)
      where
        equal : (b : Bool) → nat_eq k number ≡ b → nat_eq k number ≡ true
        equal true is = is
        equal false is = let z = one_other number k is in absurd (omega (arith, z, once))

        found : op_of (book run ++ take (1 + j) (Asked k a.who op ∷ rest)) number ≡ Some op
        found =
            let next : 1 + j ≡ suc j = omega arith in
            ap (λ (m : ℕ). op_of (book run ++ take m (Asked k a.who op ∷ rest)) number) next
            ∙ op_behind (book run) (Asked k a.who op ∷ take j rest) number none
            ∙ ap (λ (b : Bool). cond b (Some op) (op_of (take j rest) number)) (equal (nat_eq k number) refl)
    noted_first Elect rest j once none = absurd (omega (arith, once))
    noted_first Beat rest j once none = absurd (omega (arith, once))
    noted_first Flush rest j once none = absurd (omega (arith, once))
    noted_first Apply rest j once none = absurd (omega (arith, once))
    noted_first Compact rest j once none = absurd (omega (arith, once))
    noted_first (Deliver k) rest j once none = absurd (omega (arith, once))
    noted_first Tick rest j once none = absurd (omega (arith, once))
    noted_first Idle rest j once none = absurd (omega (arith, once))

    abbrev said : List Note
    said = at_place g.first (place_of g.first a.node a.act) (t g known run e a).answers

    -- what is answered now was asked before, or is asked now
    follows_new : (j place : ℕ) (say : Say) → Single run number → slice_get said j ≡ Some (Answered number say place) → (op : Op) × (op_of (book run ++ take (length (note_of g.first a.who a.act) + j) (note_of g.first a.who a.act ++ said)) number ≡ Some op)
    follows_new j place say s at = ⊎_elim
        (λ (none : in_act number a.act ≡ 0). asked_before none (op_of (book run) number) refl)
        (λ (new : (op_of (book run) number ≡ None) × (in_act number a.act ≡ 1)). noted_first a.act said j new.1 new.0)
        (is_asked run e number numbered a s a.act refl)
      where
        asked_before : in_act number a.act ≡ 0 → (o : Option Op) → op_of (book run) number ≡ o → (op : Op) × (op_of (book run ++ take (length (note_of g.first a.who a.act) + j) (note_of g.first a.who a.act ++ said)) number ≡ Some op)
        asked_before none None is =
            let z = (s.fresh is).1 a.who a.node a.runs in
            let w = within run e number numbered a s in
            let f = found_once number said j place say at in
            let c = answers_noted number (place_of g.first a.node a.act) (t g known run e a).answers in
            absurd (omega (arith, z, w, f, c, none))
        asked_before none (Some op) is = (op, op_kept (book run) (take (length (note_of g.first a.who a.act) + j) (note_of g.first a.who a.act ++ said)) number op is)

  acted_follows : (run : Events) (e : Event) → IsNumbered g.first (Then run e) → (a : Acted g known run e) → Follows (book run) → Follows (book (Then run e))
  acted_follows run e numbered a before = subst Follows (sym (ap (λ (w : World). w.book) a.next)) both
    where
      notes : List Note
      notes = note_of g.first a.who a.act

      both : Follows (book run ++ (note_of g.first a.who a.act ++ said run e numbered a 0))
      both k number place say at = ⊎_elim
          (λ (old : slice_get (book run) k ≡ Some (Answered number say place)). follows_old (book run) (note_of g.first a.who a.act ++ said run e numbered a 0) before k number place say old)
          (λ (n : (m : ℕ) × (k ≡ length (book run) + m) × (slice_get (note_of g.first a.who a.act ++ said run e numbered a 0) m ≡ Some (Answered number say place))). ⊎_elim
          (λ (o : slice_get (note_of g.first a.who a.act) n.0 ≡ Some (Answered number say place)). absurd (notes_silent g known a.who a.act n.0 number place say o))
          (λ (x : (j : ℕ) × (n.0 ≡ length (note_of g.first a.who a.act) + j) × (slice_get (said run e numbered a 0) j ≡ Some (Answered number say place))).
          let f = follows_new run e numbered a number x.0 place say (single run numbered.0 number) x.2 in (
            f.0,
            ap (λ (i : ℕ). op_of (take i (book run ++ (note_of g.first a.who a.act ++ said run e numbered a 0))) number) n.1
                ∙ ap (λ (l : List Note). op_of l number) (take_beyond (book run) (note_of g.first a.who a.act ++ said run e numbered a 0) n.0)
                ∙ ap (λ (i : ℕ). op_of (book run ++ take i (note_of g.first a.who a.act ++ said run e numbered a 0)) number) x.1
                ∙ f.1,
          ))
          (get_both (note_of g.first a.who a.act) (said run e numbered a 0) n.0 (Answered number say place) n.2))
          (get_both (book run) (note_of g.first a.who a.act ++ said run e numbered a 0) k (Answered number say place) at)

  still_follows : (run : Events) (e : Event) → Still g known run e → Follows (book run) → Follows (book (Then run e))
  still_follows run e q before = subst Follows (sym q.book) both
    where
      both : Follows (book run ++ q.more)
      both k number place say at = ⊎_elim
          (λ (old : slice_get (book run) k ≡ Some (Answered number say place)). follows_old (book run) q.more before k number place say old)
          (λ (n : (m : ℕ) × (k ≡ length (book run) + m) × (slice_get q.more m ≡ Some (Answered number say place))). absurd (q.silent n.0 number place say n.2))
          (get_both (book run) q.more k (Answered number say place) at)

  pub follows_ask : EachAnswerFollowsItsAsk g.first
  follows_ask First numbered k number place say at = absurd (cc)
  follows_ask (Then run e) numbered k number place say at = ⊎_elim
      (λ (a : Acted g known run e). acted_follows run e numbered a (follows_ask run numbered.0) k number place say at)
      (λ (q : Still g known run e). still_follows run e q (follows_ask run numbered.0) k number place say at)
      (kind g known run e)

  pub answered_once_behind : EachAskIsAnsweredOnce g.first × EachAnswerFollowsItsAsk g.first
  answered_once_behind = (answered_once, follows_ask)
