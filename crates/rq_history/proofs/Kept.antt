-- What a node had of a leader's log stays, or a later leader had something else there.
use Rattle.std.proofs.Common.{◌≡◌, ◌≢◌, ◌⊎◌, ℕ, ◌+◌, ◌<◌, ◌≤◌, List, [], ◌∷◌, ◌++◌, length, take, refl, ap, sym, inl, inr, ⊎_elim, arith}
use Rattle.std.proofs.lemmas.Bool.{cases_lt, cases_eq}
use Rattle.std.proofs.lemmas.List.{take-take, take-append-le}
use Rattle.rq_history.specs.History.{NodeId, EntryView, Node, History, After, Was, now, Led, term_at}
use Rattle.rq_history.specs.Moves.{Move, Rise, Fall, Stand, Grant, Lead, Extend, Accept, Learn, Commit}
use Rattle.rq_history.proofs.Claims.{Sound}
use Rattle.rq_history.specs.Votes.{Lost}
use Rattle.rq_history.proofs.Moments.{sound_past, sound_move, since}
use Rattle.rq_history.proofs.Logs.{same_less, term_same, same_fits}
use Rattle.rq_history.proofs.Votes.{older}
use Rattle.rq_history.proofs.Origins.{origins, led_same, matching}

module _ {E : Type 0} (view : EntryView E) where
  pub lost_later : (h : History E) (k : NodeId) (y : Node E) (low high more n : ℕ) (log : List E) → high ≤ more → Lost h low high n log → Lost (After h k y) low more n log
  lost_later h k y low high more n log le o = record { who = o.who; leader = o.leader; was = inr o.was; leads = o.leads; above = o.above; under = omega (arith, o.under); lacks = o.lacks }

  module _ (voters : List E → List NodeId) where
    -- the log x, that was z, or a leader below high had others
    abbrev Stays : History E → ℕ → ℕ → List E → Node E → Type 0
    Stays h n high log z = (take n log ≡ take n z.log) ⊎ Lost h z.term high n z.log

    abbrev StillHas : History E → Node E → Node E → Type 0
    StillHas h z x = (n : ℕ) → 0 < n → n ≤ length z.log → term_at view z.log n ≡ z.term → Stays h n (x.term + 1) x.log z

    stays_same : (h : History E) (i : NodeId) (n : ℕ) (z x y : Node E) → y.log ≡ x.log → x.term ≤ y.term → Stays h n (x.term + 1) x.log z → Stays (After h i y) n (y.term + 1) y.log z
    stays_same h i n z x y e t (inl s) = inl (rw e s)
    stays_same h i n z x y e t (inr o) = inr (lost_later h i y z.term (x.term + 1) (y.term + 1) n z.log (omega arith) o)

    stays_push : (h : History E) (i : NodeId) (n : ℕ) (z x y : Node E) (e : E) → y.log ≡ x.log ++ e ∷ [] → x.term ≤ y.term → n ≤ length z.log → Stays h n (x.term + 1) x.log z → Stays (After h i y) n (y.term + 1) y.log z
    stays_push h i n z x y e l t fits (inl s) =
        let f : n ≤ length x.log = same_fits z.log x.log n fits (sym s) in
        inl (cc (ap (take n) l, take-append-le n x.log (e ∷ []) f))
    stays_push h i n z x y e l t fits (inr o) = inr (lost_later h i y z.term (x.term + 1) (y.term + 1) n z.log (omega arith) o)

    -- is the start of length n of the leader's log that of z
    pub same_or_not : (h : History E) → Sound view voters h → (i j : NodeId) (z w : Node E) → Was h i z → Was h j w → (n : ℕ) → n ≤ length z.log
        → ((n ≤ length w.log) × (take n w.log ≡ take n z.log)) ⊎ (take n w.log ≢ take n z.log)
    same_or_not h l i j z w a b n fits = go (cases_lt (length w.log) n) (cases_eq (term_at view w.log n) (term_at view z.log n))
      where
        go : (length w.log < n) ⊎ (n ≤ length w.log) → (term_at view w.log n ≡ term_at view z.log n) ⊎ (term_at view w.log n ≢ term_at view z.log n)
            → ((n ≤ length w.log) × (take n w.log ≡ take n z.log)) ⊎ (take n w.log ≢ take n z.log)
        go (inl short) q = inr (λ e. absurd (omega (arith, same_fits z.log w.log n fits (sym e))))
        go (inr long) (inl e) = inl (long, matching view voters h l j i w z b a n long fits e)
        go (inr long) (inr d) = inr (λ e. d (term_same view w.log z.log n n (omega arith) e))

    stays_accept : (h : History E) → Sound view voters h → (i j : NodeId) (m n : ℕ) (z x y w : Node E) → Was h i z → z.term ≤ x.term → Led h j x.term w → m ≤ length w.log → take m x.log ≢ take m w.log
        → y.log ≡ take m w.log → y.term ≡ x.term → 0 < n → n ≤ length z.log → term_at view z.log n ≡ z.term → take n x.log ≡ take n z.log → Stays (After h i y) n (y.term + 1) y.log z
    stays_accept h l i j m n z x y w was old led fits new log term some len own same = go (same_or_not h l i j z w was led.was n len) (cases_lt m n)
      where
        -- a prefix of w that z has too is in x
        short : m ≤ n → take m w.log ≡ take m z.log → Prim.⊥
        short le e = new (cc (same_less x.log z.log n m le same, e))

        one_term : take n w.log ≢ take n z.log → z.term ≡ x.term → Prim.⊥
        one_term d e =
            let o = origins view voters h l.0 i z was n some len in
            let led2 : Led h o.who x.term o.leader = record { was = o.led.was; leads = o.led.leads; in_term = cc (o.led.in_term) } in
            ⊎_elim
            (λ (lt : length w.log < n).
            let f : m ≤ n = omega arith in
            let p = led_same view voters h l o.who j x.term o.leader w led2 led m (omega (arith, o.fits)) fits in
            short f (cc (p, same_less o.leader.log z.log n m f o.same)))
            (λ (le : n ≤ length w.log).
            let p = led_same view voters h l o.who j x.term o.leader w led2 led n o.fits le in
            d (cc (p, o.same)))
            (cases_lt (length w.log) n)

        go : ((n ≤ length w.log) × (take n w.log ≡ take n z.log)) ⊎ (take n w.log ≢ take n z.log) → (m < n) ⊎ (n ≤ m) → Stays (After h i y) n (y.term + 1) y.log z
        go (inl p) (inl lt) = absurd (short (omega arith) (same_less w.log z.log n m (omega arith) p.1))
        go (inl p) (inr le) = inl (cc (ap (take n) log, take-take n m w.log le, p.1))
        go (inr d) q = ⊎_elim
            (λ (lt : z.term < x.term). inr (record { who = j; leader = w; was = inr led.was; leads = led.leads; above = omega (arith, led.in_term); under = omega (arith, led.in_term); lacks = d }))
            (λ (le : x.term ≤ z.term). absurd (one_term d (omega arith)))
            (cases_lt z.term x.term)

    move_still : (h : History E) → Sound view voters h → (i : NodeId) (z x y : Node E) → Was h i z → z.term ≤ x.term → Move view voters h i x y → StillHas h z x → StillHas (After h i y) z y
    move_still h l i z x y was old (Rise up a r c d) f n some len own = stays_same h i n z x y c (omega arith) (f n some len own)
    move_still h l i z x y was old (Fall a c r d e) f n some len own = stays_same h i n z x y d (omega arith) (f n some len own)
    move_still h l i z x y was old (Stand a c d e g) f n some len own = stays_same h i n z x y e (omega arith) (f n some len own)
    move_still h l i z x y was old (Grant c s a d e g none t j k q m) f n some len own = stays_same h i n z x y q (omega arith) (f n some len own)
    move_still h l i z x y was old (Lead a q c d e g k) f n some len own = stays_same h i n z x y g (omega arith) (f n some len own)
    move_still h l i z x y was old (Extend s a q c d e g k change) f n some len own = stays_push h i n z x y s g (omega arith) len (f n some len own)
    move_still h l i z x y was old (Accept j w m a c d e g k t q r) f n some len own = go (f n some len own)
      where
        go : Stays h n (x.term + 1) x.log z → Stays (After h i y) n (y.term + 1) y.log z
        go (inl s) = stays_accept h l i j m n z x y w was old a c d q g some len own s
        go (inr o) = inr (lost_later h i y z.term (x.term + 1) (y.term + 1) n z.log (omega arith) o)
    move_still h l i z x y was old (Learn j w a c d e g k t r q) f n some len own = stays_same h i n z x y q (omega arith) (f n some len own)
    move_still h l i z x y was old (Commit a c d e g k t r q) f n some len own = stays_same h i n z x y q (omega arith) (f n some len own)

    pub still_has : (h : History E) → Sound view voters h → (i : NodeId) (z : Node E) → Was h i z → StillHas h z (now h i)
    still_has = since view voters (Sound view voters) (sound_past view voters) (sound_move view voters) (λ h i z x. StillHas h z x)
        (λ i n some len own. absurd (omega arith))
        (λ h k y i z x f n some len own. stays_same_now h k y n z x (f n some len own))
        (λ h i y l m n some len own. inl refl)
        (λ h i y z l m w f. move_still h (sound_past view voters h i y l) i z (now h i) y w ((older view voters h l.0.0 i z w).term) m f)
      where
        stays_same_now : (h : History E) (k : NodeId) (y : Node E) (n : ℕ) (z x : Node E) → Stays h n (x.term + 1) x.log z → Stays (After h k y) n (x.term + 1) x.log z
        stays_same_now h k y n z x (inl s) = inl s
        stays_same_now h k y n z x (inr o) = inr (lost_later h k y z.term (x.term + 1) (x.term + 1) n z.log (omega arith) o)
