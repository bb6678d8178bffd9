-- How a fact on each moment and what is now is kept by the moves.
use Rattle.std.proofs.Common.{◌≡◌, ◌≢◌, ◌⊎◌, ℕ, List, refl, inl, inr, ⊎_elim}
use Rattle.std.specs.Prelude.{bytes_eq, Bool, true, false}
use Rattle.std.specs.Cmp.Lexicographic.{bytes_decides}
use Rattle.rq_history.specs.History.{NodeId, EntryView, Node, History, Begin, After, Was, now, fresh, Led, WasBefore, IsEarlier}
use Rattle.rq_history.specs.Moves.{Move, Lawful, Held}
use Rattle.rq_history.proofs.Claims.{Sound}

module _ {E : Type 0} where
  abbrev Turned : History E → NodeId → NodeId → Node E → Type 0
  Turned h k i y = ((i ≡ k) × (now (After h k y) i ≡ y)) ⊎ ((i ≢ k) × (now (After h k y) i ≡ now h i))

  pub now_after : (h : History E) (k i : NodeId) (y : Node E) → Turned h k i y
  now_after h k i y = is_test (bytes_eq i k) refl
    where
      is_test : (b : Bool) → bytes_eq i k ≡ b → Turned h k i y
      is_test true e = inl ((bytes_decides i k).0 e, rw e refl)
      is_test false e = inr (λ q. absurd (other ((bytes_decides i k).1 q)), rw e refl)
        where
          other : bytes_eq i k ≡ true → Prim.⊥
          other t = cc

  pub now_self : (h : History E) (i : NodeId) (y : Node E) → now (After h i y) i ≡ y
  now_self h i y = ⊎_elim (λ (p : (i ≡ i) × (now (After h i y) i ≡ y)). p.1) (λ (p : (i ≢ i) × (now (After h i y) i ≡ now h i)). absurd (p.0 refl)) (now_after h i i y)

  was_turned : (h : History E) (k i : NodeId) (y : Node E) → Was h i (now h i) → Turned h k i y → Was (After h k y) i (now (After h k y) i)
  was_turned h k i y w (inl p) = inl p
  was_turned h k i y w (inr p) = inr (rw p.1 w)

  pub was_now : (h : History E) (i : NodeId) → Was h i (now h i)
  was_now Begin i = refl
  was_now (After h k y) i = was_turned h k i y (was_now h i) (now_after h k i y)

  pub ordered : (h : History E) (i : NodeId) (a b : Node E) → Was h i a → Was h i b → WasBefore h i a b ⊎ WasBefore h i b a
  ordered Begin i a b v w = inl (v, w)
  ordered (After h k y) i a b v (inl w) = inl (inl (w.0, w.1, v))
  ordered (After h k y) i a b (inl v) (inr w) = inr (inl (v.0, v.1, inr w))
  ordered (After h k y) i a b (inr v) (inr w) = ⊎_elim (λ p. inl (inr p)) (λ p. inr (inr p)) (ordered h i a b v w)

  before_turned : (h : History E) (k i : NodeId) (y a : Node E) → (Was h i a → WasBefore h i a (now h i)) → Turned h k i y → Was (After h k y) i a → WasBefore (After h k y) i a (now (After h k y) i)
  before_turned h k i y a old (inl p) w = inl (p.0, p.1, w)
  before_turned h k i y a old (inr p) (inl w) = absurd (p.0 w.0)
  before_turned h k i y a old (inr p) (inr w) = inr (rw p.1 (old w))

  -- what a node was is not after what it is now
  pub before_now : (h : History E) (i : NodeId) (a : Node E) → Was h i a → WasBefore h i a (now h i)
  before_now Begin i a w = (w, refl)
  before_now (After h k y) i a w = before_turned h k i y a (before_now h i a) (now_after h k i y) w

  now_is : (h : History E) (k i : NodeId) (y : Node E) → i ≡ k → now (After h k y) i ≡ y
  now_is h k i y e = ⊎_elim (λ (p : (i ≡ k) × (now (After h k y) i ≡ y)). p.1) (λ (p : (i ≢ k) × (now (After h k y) i ≡ now h i)). absurd (p.0 e)) (now_after h k i y)

  pub held_on : (h g : History E) (v : NodeId) (t n : ℕ) (log : List E) → IsEarlier h g → Held h v t n log → Held g v t n log
  held_on h g v t n log l p = record { holder = p.holder; was = l v p.holder p.was; in_term = p.in_term; same = p.same }

  pub led_on : (h g : History E) (j : NodeId) (t : ℕ) (z : Node E) → IsEarlier h g → Led h j t z → Led g j t z
  led_on h g j t z l p = record { was = l j z p.was; leads = p.leads; in_term = p.in_term }

module _ {E : Type 0} (view : EntryView E) where
  module _ (voters : List E → List NodeId) (L : History E → Type 0)
      (past : (h : History E) (k : NodeId) (y : Node E) → L (After h k y) → L h)
      (move : (h : History E) (k : NodeId) (y : Node E) → L (After h k y) → Move view voters h k (now h k) y)
      (R : History E → NodeId → Node E → Node E → Type 0)
      (start : (i : NodeId) → R Begin i fresh fresh)
      (kept : (h : History E) (k : NodeId) (y : Node E) (i : NodeId) (z x : Node E) → R h i z x → R (After h k y) i z x)
      (same : (h : History E) (i : NodeId) (y : Node E) → L (After h i y) → Move view voters h i (now h i) y → R (After h i y) i y y)
      (next : (h : History E) (i : NodeId) (y z : Node E) → L (After h i y) → Move view voters h i (now h i) y → Was h i z → R h i z (now h i) → R (After h i y) i z y)
    where
      turn : (h : History E) (k : NodeId) (y : Node E) (i : NodeId) (z : Node E) → L (After h k y) → (Was h i z → R h i z (now h i))
          → Turned h k i y → Was (After h k y) i z → R (After h k y) i z (now (After h k y) i)
      turn h k y i z l ih (inl p) (inl w) = rw (p.1, w.1, p.0) (same h k y l (move h k y l))
      turn h k y i z l ih (inl p) (inr w) = rw (p.1, p.0) (next h k y z l (move h k y l) (rw p.0 at w) (rw p.0 at (ih w)))
      turn h k y i z l ih (inr p) (inl w) = absurd (p.0 w.0)
      turn h k y i z l ih (inr p) (inr w) = rw p.1 (kept h k y i z (now h i) (ih w))

      -- a fact on what a node was and what it is now
      pub since : (h : History E) → L h → (i : NodeId) (z : Node E) → Was h i z → R h i z (now h i)
      since Begin l i z w = rw w (start i)
      since (After h k y) l i z w = turn h k y i z l (since h (past h k y l) i z) (now_after h k i y) w

      -- the same, on what it was and what it was at that moment or later
      pub since2 : (h : History E) → L h → (i : NodeId) (a b : Node E) → WasBefore h i a b → R h i a b
      since2 Begin l i a b w = rw (w.0, w.1) (start i)
      since2 (After h k y) l i a b (inl w) = rw (w.1) (rw (now_is h k i y w.0) at (since (After h k y) l i a w.2))
      since2 (After h k y) l i a b (inr w) = kept h k y i a b (since2 h (past h k y l) i a b w)

  -- a fact on each moment
  module _ (voters : List E → List NodeId) (L : History E → Type 0)
      (past : (h : History E) (k : NodeId) (y : Node E) → L (After h k y) → L h)
      (move : (h : History E) (k : NodeId) (y : Node E) → L (After h k y) → Move view voters h k (now h k) y)
      (Q : History E → NodeId → Node E → Type 0)
      (start : (i : NodeId) → Q Begin i fresh)
      (kept : (h : History E) (k : NodeId) (y : Node E) (i : NodeId) (x : Node E) → L (After h k y) → Was h i x → Q h i x → Q (After h k y) i x)
      (step : (h : History E) (i : NodeId) (y : Node E) → L (After h i y) → ((j : NodeId) (z : Node E) → Was h j z → Q h j z) → Move view voters h i (now h i) y → Q (After h i y) i y)
    where
      pub each : (h : History E) → L h → (i : NodeId) (x : Node E) → Was h i x → Q h i x
      each Begin l i x w = rw w (start i)
      each (After h k y) l i x (inl w) = rw (w.1, w.0) (step h k y l (each h (past h k y l)) (move h k y l))
      each (After h k y) l i x (inr w) = kept h k y i x l w (each h (past h k y l) i x w)

  module _ (voters : List E → List NodeId) where
    pub law_past : (h : History E) (k : NodeId) (y : Node E) → Lawful view voters (After h k y) → Lawful view voters h
    law_past h k y l = l.0

    pub law_move : (h : History E) (k : NodeId) (y : Node E) → Lawful view voters (After h k y) → Move view voters h k (now h k) y
    law_move h k y l = l.1

    pub led_later : (h : History E) (k : NodeId) (y : Node E) (j : NodeId) (term : ℕ) (z : Node E) → Led h j term z → Led (After h k y) j term z
    led_later h k y j term z l = record { was = inr l.was; leads = l.leads; in_term = l.in_term }

    pub sound_past : (h : History E) (k : NodeId) (y : Node E) → Sound view voters (After h k y) → Sound view voters h
    sound_past h k y s = (s.0.0, λ i j term x z p q. s.1 i j term x z (led_later h k y i term x p) (led_later h k y j term z q))

    pub sound_move : (h : History E) (k : NodeId) (y : Node E) → Sound view voters (After h k y) → Move view voters h k (now h k) y
    sound_move h k y s = s.0.1
