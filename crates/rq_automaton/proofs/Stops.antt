-- The place at which reading within limits stops.
use Rattle.std.proofs.Common.{◌≡◌, ℕ, zero, suc, ◌+◌, ◌≤◌, ◌<◌, Bool, true, false, cond, [], ◌∷◌, ◌++◌, length, take, Option, Some, None, Result, Ok, Err, ◌⊎◌, inl, inr, ⊎_elim, refl, ◌∙◌, ap, subst, append_assoc, arith}
use Rattle.std.specs.Prelude.{nat_le, ◌&&◌}
use Rattle.std.proofs.lemmas.Bool.{le-leb}
use Rattle.std.proofs.str.Laws.{order}
use Rattle.rq_grammar.specs.declared.token.Token.{Token}
use Rattle.rq_grammar.specs.declared.stmt.Stmt.{Stmt}
use Rattle.rq_automaton.specs.declared.frame.State.{State}
use Rattle.rq_grammar.specs.Words.{Tokens}
use Rattle.rq_automaton.specs.Machine.{step, finish, parse, Start}
use Rattle.rq_grammar.specs.Depth.{open_behind, Limits, SpellsWithin, GoesOnWithin, Stop, NoStatement, TooDeep, Refuses, StopsAt}
use Rattle.rq_automaton.specs.Weight.{weight, due, limited, one_later, going, or_nothing, parse_within}
use Rattle.rq_automaton.proofs.Reduce.{go, went, never, never_end}
use Rattle.rq_automaton.proofs.SoundSteps.{step_sound, sound}
use Rattle.rq_automaton.proofs.CompleteStatements.{complete_stmt}
use Rattle.rq_automaton.proofs.Shallow.{ends_any}
use Rattle.rq_automaton.proofs.Reached as R
use Rattle.rq_automaton.proofs.Reached.{Reached}
use Rattle.rq_automaton.proofs.Limited.{IsWithin, ReadsWithin, within_reads, weighs, reads_within, limited_ok}
use Rattle.rq_automaton.proofs.Due.{widens}

or_nothing_err : (o : Option Stmt) (k : Stop × ℕ) → or_nothing o ≡ Err k → (o ≡ None) × ((NoStatement, 0) ≡ k)
or_nothing_err None k h = (refl, cc)
or_nothing_err (Some r) k h = absurd (cc)

one_later_err : (o : Result Stmt (Stop × ℕ)) (k : Stop × ℕ) → one_later o ≡ Err k → (m : Stop × ℕ) × ((m.0, suc m.1) ≡ k) × (o ≡ Err m)
one_later_err (Ok r) k h = absurd (cc)
one_later_err (Err m) k h = (m, cc, refl)

going_err : (o : Result State Stop) (f : State → Result Stmt (Stop × ℕ)) (k : Stop × ℕ) → going o f ≡ Err k → ((w : Stop) × (o ≡ Err w) × ((w, 0) ≡ k)) ⊎ ((q : State) × (m : Stop × ℕ) × (o ≡ Ok q) × ((m.0, suc m.1) ≡ k) × (f q ≡ Err m))
going_err (Err w) f k h = inl (w, refl, cc)
going_err (Ok q) f k h = let e = one_later_err (f q) k h in inr (q, e.0, refl, e.1, e.2)

abbrev chosen : Bool → State → Result State Stop
chosen b q = cond b (Ok q) (Err TooDeep)

chosen_err : (b : Bool) (q : State) (w : Stop) → chosen b q ≡ Err w → (b ≡ false) × (TooDeep ≡ w)
chosen_err true q w h = absurd (cc)
chosen_err false q w h = (refl, cc)

limited_err : (l : Limits) (n : ℕ) (o : Option State) (w : Stop) → limited l n o ≡ Err w → ((o ≡ None) × (NoStatement ≡ w)) ⊎ ((q : State) × (o ≡ Some q) × (TooDeep ≡ w) × (weight q ≤ l.depth → n + due q ≤ l.parens → ⊥))
limited_err l n None w h = inl (refl, cc)
limited_err l n (Some q) w h =
    let c = chosen_err (nat_le (weight q) l.depth && nat_le (n + due q) l.parens) q w h in
    inr (q, refl, c.1, λ d i. (let e : (nat_le (weight q) l.depth && nat_le (n + due q) l.parens) ≡ true = ap (λ b. b && nat_le (n + due q) l.parens) (le-leb (weight q) l.depth d) ∙ le-leb (n + due q) l.parens i in absurd (cc (e, c.0))))

-- from a state, with n open parentheses: what a refusal says
record StopsFrom (l : Limits) (n : ℕ) (z : State) (y : Tokens) (w : Stop × ℕ) : Type 0 where
  within : w.1 ≤ length y
  goes_on : (q : Tokens) × (r : Stmt) × ReadsWithin l n z (take w.1 y ++ q) r
  refuses : ((w.0 ≡ NoStatement) × (w.1 < length y → (q : Tokens) (r : Stmt) → parse z (take (suc w.1) y ++ q) ≡ Ok r → ⊥) × (w.1 ≡ length y → (r : Stmt) → parse z y ≡ Ok r → ⊥))
      ⊎ ((w.0 ≡ TooDeep) × (w.1 < length y) × ((q : Tokens) × (r : Stmt) × (parse z (take (suc w.1) y ++ q) ≡ Ok r)) × ((q : Tokens) (r : Stmt) → ReadsWithin l n z (take (suc w.1) y ++ q) r → ⊥))

-- one token further
past : (z : State) (u : Token) (y : Tokens) (q : State) (r : Stmt) → step z u ≡ Some q → parse z (u ∷ y) ≡ Ok r → parse q y ≡ Ok r
past z u y q r h k =
    let n = went z u y r k in
    let same : n.0 ≡ q = cc (n.1, h) in
    subst (λ v. parse v y ≡ Ok r) same n.2

can_end : {x y : Tokens} {z : State} (l : Limits) (n : ℕ) → Reached x z y → IsWithin l n z → (q : Tokens) × (r : Stmt) × ReadsWithin l n z q r
can_end l n k i = let e = ends_any k in (e.rest, e.stmt, record { reads = e.reads; shallow = omega (arith, e.shallow, i.shallow); narrow = omega (arith, e.narrow n, i.narrow) })

onward : {l : Limits} {n : ℕ} (z : State) (u : Token) (q : State) (y : Tokens) (r : Stmt) → IsWithin l n z → step z u ≡ Some q → ReadsWithin l (open_behind n u) q y r → ReadsWithin l n z (u ∷ y) r
onward z u q y r i h k = record { reads = go z u y q r h k.reads; shallow = k.shallow; narrow = omega (arith, k.narrow, i.narrow) }

back : {l : Limits} {n : ℕ} (z : State) (u : Token) (q : State) (y : Tokens) (r : Stmt) → step z u ≡ Some q → ReadsWithin l n z (u ∷ y) r → ReadsWithin l (open_behind n u) q y r
back z u q y r h k = record { reads = past z u y q r h k.reads; shallow = k.shallow; narrow = omega (arith, k.narrow) }

stops_at_end : {x : Tokens} (l : Limits) (n : ℕ) (z : State) → Reached x z [] → IsWithin l n z → finish z ≡ None → StopsFrom l n z [] (NoStatement, 0)
stops_at_end l n z k i h = record {
  within = omega arith;
  goes_on = can_end l n k i;
  refuses = inl (refl, (λ m q r e. absurd (omega arith)), λ _ r e. never_end z r h e);
}

stops_here : {x : Tokens} (l : Limits) (n : ℕ) (u : Token) (us : Tokens) (z : State) → Reached x z (u ∷ us) → IsWithin l n z → step z u ≡ None → StopsFrom l n z (u ∷ us) (NoStatement, 0)
stops_here l n u us z k i h = record {
  within = omega arith;
  goes_on = can_end l n k i;
  refuses = inl (refl, (λ _ q r e. never z u q r h e), λ m r e. never z u us r h e);
}

too_deep_here : {x : Tokens} (l : Limits) (n : ℕ) (u : Token) (us : Tokens) (z q : State) → Reached x z (u ∷ us) → IsWithin l n z → step z u ≡ Some q → (weight q ≤ l.depth → open_behind n u + due q ≤ l.parens → ⊥) → StopsFrom l n z (u ∷ us) (TooDeep, 0)
too_deep_here l n u us z q k i h out = record {
  within = omega arith;
  goes_on = can_end l n k i;
  refuses = (let e = ends_any (step_sound u k h) in inr (refl, omega arith, (e.rest, e.stmt, go z u e.rest q e.stmt h e.reads), λ t r j. (let b = back z u q t r h j in out (omega (arith, weighs t q r b.reads, b.shallow)) (omega (arith, widens t q r b.reads (open_behind n u), b.narrow)))));
}

stops_later : {l : Limits} {n : ℕ} {u : Token} {us : Tokens} {z q : State} {m : Stop × ℕ} → IsWithin l n z → step z u ≡ Some q → StopsFrom l (open_behind n u) q us m → StopsFrom l n z (u ∷ us) (m.0, suc m.1)
stops_later {u = u} {us = us} {z = z} {q = q} i h rest = record {
  within = omega (arith, rest.within);
  goes_on = (rest.goes_on.0, rest.goes_on.1, onward z u q _ rest.goes_on.1 i h rest.goes_on.2);
  refuses = ⊎_elim
      (λ no. inl (no.0, (λ l t r e. no.1 (omega arith) t r (past z u _ q r h e)), λ l r e. no.2 (omega arith) r (past z u us q r h e)))
      (λ deep. inr (deep.0, omega (arith, deep.1), (deep.2.0, deep.2.1, go z u _ q deep.2.1 h deep.2.2), λ t r e. deep.3 t r (back z u q _ r h e)))
      rest.refuses;
}

stops_from : {x : Tokens} (l : Limits) (n : ℕ) (y : Tokens) (z : State) (w : Stop × ℕ) → Reached x z y → IsWithin l n z → parse_within l n z y ≡ Err w → StopsFrom l n z y w
unfolding parse_within
stops_from l n [] z w k i h = let e = or_nothing_err (finish z) w h in subst (StopsFrom l n z []) e.1 (stops_at_end l n z k i e.0)
stops_from l n (u ∷ us) z w k i h =
    ⊎_elim
    (λ now. ⊎_elim
    (λ no. subst (StopsFrom l n z (u ∷ us)) (ap (λ v. (v, 0)) no.1 ∙ now.2) (stops_here l n u us z k i no.0))
    (λ deep. subst (StopsFrom l n z (u ∷ us)) (ap (λ v. (v, 0)) deep.2 ∙ now.2) (too_deep_here l n u us z deep.0 k i deep.1 deep.3))
    (limited_err l (open_behind n u) (step z u) now.0 now.1))
    (λ on.
    let fine = limited_ok l (open_behind n u) (step z u) on.0 on.2 in
    subst (StopsFrom l n z (u ∷ us)) on.3 (stops_later i fine.0 (stops_from l (open_behind n u) us on.0 on.1 (step_sound u k fine.0) fine.1 on.4)))
    (going_err (limited l (open_behind n u) (step z u)) (λ q. parse_within l (open_behind n u) q us) w h)

-- ---- the theorem

start_within : (l : Limits) → IsWithin l 0 Start
start_within l = record { shallow = omega arith; narrow = omega arith }

spelled : {l : Limits} {x : Tokens} {r : Stmt} → ReadsWithin l 0 Start x r → SpellsWithin l x r
spelled k = record { spells = sound k.reads; shallow = k.shallow; narrow = k.narrow }

read : {l : Limits} {x : Tokens} {r : Stmt} → SpellsWithin l x r → ReadsWithin l 0 Start x r
read k = record { reads = complete_stmt k.spells; shallow = k.shallow; narrow = k.narrow }

pub limited_sound : (l : Limits) (x : Tokens) (r : Stmt) → parse_within l 0 Start x ≡ Ok r → SpellsWithin l x r
limited_sound l x r h = spelled (within_reads l 0 x Start r (R.at_place R.at_start) (start_within l) h)

pub limited_complete : (l : Limits) (x : Tokens) (r : Stmt) → SpellsWithin l x r → parse_within l 0 Start x ≡ Ok r
limited_complete l x r h = reads_within l 0 x Start r (complete_stmt h.spells) h.shallow h.narrow

refuses_as : (l : Limits) (x : Tokens) (w : Stop) (n : ℕ) → StopsFrom l 0 Start x (w, n) → Refuses l x w n
refuses_as l x NoStatement n k = ⊎_elim
    (λ no. ((λ m g. no.1 m g.0 g.1 (complete_stmt g.2)), λ m r g. no.2 m r (complete_stmt g)))
    (λ deep. absurd (cc))
    k.refuses
refuses_as l x TooDeep n k = ⊎_elim
    (λ no. absurd (cc))
    (λ deep. (deep.1, (deep.2.0, deep.2.1, sound deep.2.2), λ g. deep.3 g.0 g.1 (read g.2)))
    k.refuses

pub limited_stops : (l : Limits) (x : Tokens) (w : Stop) (n : ℕ) → parse_within l 0 Start x ≡ Err (w, n) → StopsAt l x w n
limited_stops l x w n h =
    let k = stops_from l 0 x Start (w, n) (R.at_place R.at_start) (start_within l) h in
    record {
      within = k.within;
      goes_on = (k.goes_on.0, k.goes_on.1, spelled k.goes_on.2);
      refuses = refuses_as l x w n k;
    }

-- ---- one place

take_more : (m n : ℕ) (x : Tokens) → m ≤ n → (rest : Tokens) × (take n x ≡ take m x ++ rest)
take_more zero n x h = (take n x, refl)
take_more (suc m) zero x h = absurd (omega arith)
take_more (suc m) (suc n) [] h = ([], refl)
take_more (suc m) (suc n) (u ∷ x) h = let k = take_more m n x (omega arith) in (k.0, ap (λ v. u ∷ v) k.1)

-- fewer tokens go on too
fewer : (l : Limits) (m n : ℕ) (x : Tokens) → m ≤ n → GoesOnWithin l (take n x) → GoesOnWithin l (take m x)
fewer l m n x h g =
    let k = take_more m n x h in
    (k.0 ++ g.0, g.1, subst (λ v. SpellsWithin l v g.1) (ap (λ v. v ++ g.0) k.1 ∙ append_assoc (take m x) k.0 g.0) g.2)

stops_none : (l : Limits) (x : Tokens) (w : Stop) (n : ℕ) → n < length x → Refuses l x w n → GoesOnWithin l (take (suc n) x) → ⊥
stops_none l x NoStatement n h k g = k.0 h (g.0, g.1, g.2.spells)
stops_none l x TooDeep n h k g = k.2 g

no_later : (l : Limits) (x : Tokens) (w w' : Stop) (m n : ℕ) → StopsAt l x w m → StopsAt l x w' n → n ≤ m
no_later l x w w' m n h k = ⊎_elim
    (λ i. absurd (stops_none l x w m (omega (arith, k.within)) h.refuses (fewer l (suc m) n x i k.goes_on)))
    (λ i. i)
    (order m n)

one_cause : (l : Limits) (x : Tokens) (w w' : Stop) (n : ℕ) → Refuses l x w n → Refuses l x w' n → w ≡ w'
one_cause l x NoStatement NoStatement n h k = refl
one_cause l x TooDeep TooDeep n h k = refl
one_cause l x NoStatement TooDeep n h k = absurd (h.0 k.0 k.1)
one_cause l x TooDeep NoStatement n h k = absurd (k.0 h.0 h.1)

pub one_place : (l : Limits) (x : Tokens) (w w' : Stop) (m n : ℕ) → StopsAt l x w m → StopsAt l x w' n → (w ≡ w') × (m ≡ n)
one_place l x w w' m n h k =
    let e : m ≡ n = omega (arith, no_later l x w w' m n h k, no_later l x w' w n m k h) in
    (one_cause l x w w' n (subst (Refuses l x w) e h.refuses) k.refuses, e)
