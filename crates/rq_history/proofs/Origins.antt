-- Each entry was in the log of a leader of its term, with all that stands before it.
use Rattle.std.proofs.Common.{◌≡◌, ◌⊎◌, ℕ, suc, zero, ◌+◌, ◌<◌, ◌≤◌, List, [], ◌∷◌, ◌++◌, length, take, refl, ap, sym, inl, inr, ⊎_elim, arith}
use Rattle.std.proofs.lemmas.Bool.{cases_lt}
use Rattle.std.proofs.lemmas.List.{length-append, length-take, take-take, take-append-le}
use Rattle.rq_history.specs.History.{NodeId, EntryView, Node, History, After, Was, now, Leader, Led, term_at, Origin}
use Rattle.rq_history.specs.Moves.{Move, Lawful, Rise, Fall, Stand, Grant, Lead, Extend, Accept, Learn, Commit}
use Rattle.rq_history.proofs.Claims.{Sound}
use Rattle.rq_history.proofs.Moments.{law_past, law_move, led_later, each, was_now}
use Rattle.rq_history.proofs.Logs.{term_new, term_same, prefix_same}
use Rattle.rq_history.proofs.Growth.{one_log}

module _ {E : Type 0} (view : EntryView E) where
  module _ (voters : List E → List NodeId) where
    abbrev Origins : History E → List E → Type 0
    Origins h log = (n : ℕ) → 0 < n → n ≤ length log → Origin view h log n

    pub origin_later : (h : History E) (k : NodeId) (y : Node E) (log : List E) (n : ℕ) → Origin view h log n → Origin view (After h k y) log n
    origin_later h k y log n o = record { who = o.who; leader = o.leader; led = led_later view voters h k y o.who (term_at view log n) o.leader o.led; fits = o.fits; same = o.same }

    -- the same prefix has the same origin
    pub origin_same : (h : History E) (a b : List E) (n : ℕ) → take n a ≡ take n b → Origin view h a n → Origin view h b n
    origin_same h a b n e o = record { who = o.who; leader = o.leader; led = record { was = o.led.was; leads = o.led.leads; in_term = cc (o.led.in_term, term_same view a b n n (omega arith) e) }; fits = o.fits; same = cc (o.same) }

    origins_take : (h : History E) (a : List E) (k : ℕ) → Origins h a → Origins h (take k a)
    origins_take h a k o n pos fits =
        let lt = length-take k a in
        origin_same h a (take k a) n (sym (take-take n k a (omega arith))) (o n pos (omega arith))

    origins_push : (h : History E) (i : NodeId) (x y : Node E) (e : E) → Origins h x.log → view.term_of e ≡ x.term → y.role ≡ Leader → y.term ≡ x.term → y.log ≡ x.log ++ e ∷ [] → Origins (After h i y) y.log
    origins_push h i x y e o et r t l n pos fits = go (cases_lt (length x.log) n)
      where
        go : (length x.log < n) ⊎ (n ≤ length x.log) → Origin view (After h i y) y.log n
        go (inr small) = origin_same (After h i y) x.log y.log n (rw l (sym (take-append-le n x.log (e ∷ []) small))) (origin_later h i y x.log n (o n pos small))
        go (inl big) =
            let eq : n ≡ length x.log + 1 = omega (arith, fits, ap length l, length-append x.log (e ∷ [])) in
            let et2 : term_at view y.log n ≡ view.term_of e = rw (l, eq) (term_new view x.log e) in
            record { who = i; leader = y; led = record { was = inl (refl, refl); leads = r; in_term = cc }; fits = fits; same = refl }

    origins_same : (h : History E) (i : NodeId) (a : List E) (y : Node E) → y.log ≡ a → Origins h a → Origins (After h i y) y.log
    origins_same h i a y e b n p f = origin_same (After h i y) a y.log n (ap (take n) (sym e)) (origin_later h i y a n (b n p (omega (arith, ap length e))))

    move_origins : (h : History E) (i : NodeId) (x y : Node E) → ((j : NodeId) (z : Node E) → Was h j z → Origins h z.log) → Origins h x.log → Move view voters h i x y → Origins (After h i y) y.log
    move_origins h i x y all b (Rise up a r c d) = origins_same h i x.log y c b
    move_origins h i x y all b (Fall a c r d e) = origins_same h i x.log y d b
    move_origins h i x y all b (Stand a c d e f) = origins_same h i x.log y e b
    move_origins h i x y all b (Grant c z a d e f none g j k l m) = origins_same h i x.log y l b
    move_origins h i x y all b (Lead a q c d e f g) = origins_same h i x.log y f b
    move_origins h i x y all b (Extend s a q c d e f g change) = origins_push h i x y s b q e c f
    move_origins h i x y all b (Accept j z n a c d e f g k l m) = origins_same h i (take n z.log) y l (origins_take h z.log n (all j z a.was))
    move_origins h i x y all b (Learn j z a c d e f g k m l) = origins_same h i x.log y l b
    move_origins h i x y all b (Commit a c d e f g k m l) = origins_same h i x.log y l b

    pub origins : (h : History E) → Lawful view voters h → (i : NodeId) (x : Node E) → Was h i x → Origins h x.log
    origins = each view voters (Lawful view voters) (law_past view voters) (law_move view voters) (λ h i x. Origins h x.log) (λ i n p f. absurd (omega arith)) (λ h k y i x l w o n p f. origin_later h k y x.log n (o n p f))
        (λ h i y l ih m. move_origins h i (now h i) y ih (ih i (now h i) (was_now h i)) m)

    -- two prefixes of the logs of leaders of one term are the same
    pub led_same : (h : History E) → Sound view voters h → (i j : NodeId) (term : ℕ) (x y : Node E) → Led h i term x → Led h j term y
        → (n : ℕ) → n ≤ length x.log → n ≤ length y.log → take n x.log ≡ take n y.log
    led_same h l i j term x y p q n a b = ⊎_elim (λ f. prefix_same x.log y.log n a f) (λ f. sym (prefix_same y.log x.log n b f)) (one_log view voters h l i j term x y p q)

    -- two logs with an entry of one term at one index are the same up to it
    pub matching : (h : History E) → Sound view voters h → (i j : NodeId) (x y : Node E) → Was h i x → Was h j y
        → (n : ℕ) → n ≤ length x.log → n ≤ length y.log → term_at view x.log n ≡ term_at view y.log n → take n x.log ≡ take n y.log
    matching h l i j x y v w zero a b e = refl
    matching h l i j x y v w (suc k) a b e =
        let o = origins h l.0 i x v (suc k) (omega arith) a in
        let p = origins h l.0 j y w (suc k) (omega arith) b in
        let led : Led h p.who (term_at view x.log (suc k)) p.leader = rw e p.led in
        let same = led_same h l o.who p.who (term_at view x.log (suc k)) o.leader p.leader o.led led (suc k) o.fits p.fits in
        cc (o.same, p.same, same)
