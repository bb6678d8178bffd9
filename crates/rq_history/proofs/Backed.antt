-- What a node has committed, a leader has committed.
use Rattle.std.proofs.Common.{◌≡◌, ◌≢◌, ℕ, ◌<◌, ◌≤◌, List, [], ◌∷◌, length, take, refl, ap, sym, subst, ◌∙◌, inl, inr, ⊎_elim, arith}
use Rattle.std.proofs.lemmas.Bool.{cases_lt}
use Rattle.std.proofs.lemmas.List.{length-append, length-take, take-take, take-append-le}
use Rattle.rq_history.specs.History.{NodeId, EntryView, Node, History, After, Was, now, Leader, Led, term_at}
use Rattle.rq_history.specs.Moves.{Move, Rise, Fall, Stand, Grant, Lead, Extend, Accept, Learn, Commit, Held}
use Rattle.rq_history.specs.Quorum.{Quorum}
use Rattle.rq_history.proofs.Claims.{Whole}
use Rattle.rq_history.specs.Commits.{DirectCommit, Backing, Backed}
use Rattle.rq_history.proofs.Moments.{led_later, sound_past, each, was_now}
use Rattle.rq_history.proofs.Logs.{same_less}
use Rattle.rq_history.proofs.Votes.{quorum_map}
use Rattle.rq_history.proofs.Origins.{led_same}

module _ {E : Type 0} (view : EntryView E) where
  module _ (voters : List E → List NodeId) where
    held_later : (h : History E) (k : NodeId) (y : Node E) (v : NodeId) (term n : ℕ) (log : List E) → Held h v term n log → Held (After h k y) v term n log
    held_later h k y v term n log d = record { holder = d.holder; was = inr d.was; in_term = d.in_term; same = d.same }

    pub direct_later : (h : History E) (k : NodeId) (y : Node E) (term n : ℕ) (l : Node E) → DirectCommit view voters h term n l → DirectCommit view voters (After h k y) term n l
    direct_later h k y term n l d = record {
      who = d.who;
      led = led_later view voters h k y d.who term l d.led;
      some = d.some;
      fits = d.fits;
      own = d.own;
      reached = d.reached;
      quorum = quorum_map view voters (voters l.log) (λ v. Held h v term n l.log) (λ v. Held (After h k y) v term n l.log) (λ v. held_later h k y v term n l.log) d.quorum;
    }

    pub whole_past : (h : History E) (k : NodeId) (y : Node E) → Whole view voters (After h k y) → Whole view voters h
    whole_past h k y w = (sound_past view voters h k y w.0, λ t n u j l z d led lt. w.1 t n u j l z (direct_later h k y t n l d) (led_later view voters h k y j u z led) lt)

    backing_to : (h : History E) (k : NodeId) (w x y : Node E) → w ≡ w → x.term ≤ y.term → y.commit ≤ x.commit → take y.commit y.log ≡ take y.commit x.log → Backing view voters h x → Backing view voters (After h k w) y
    backing_to h k w x y e t c same b = record {
      term = b.term;
      n = b.n;
      leader = b.leader;
      direct = direct_later h k w b.term b.n b.leader b.direct;
      not_later = omega (arith, b.not_later);
      covers = omega (arith, b.covers);
      same = cc (same, same_less x.log b.leader.log x.commit y.commit c b.same);
    }

    backed_same : (h : History E) (i : NodeId) (x y : Node E) → y.log ≡ x.log → x.term ≤ y.term → y.commit ≤ x.commit → Backed view voters h x → Backed view voters (After h i y) y
    backed_same h i x y e t c b = record {
      fits = omega (arith, b.fits, ap length e);
      by_leader = ⊎_elim (λ (z : x.commit ≡ 0). inl (omega arith)) (λ (g : Backing view voters h x). inr (backing_to h i y x y refl t c (ap (take y.commit) e) g)) b.by_leader;
    }

    -- a leader of a term that isn't lower has what is committed, as far as its log goes
    pub agree : (h : History E) → Whole view voters h → (j : NodeId) (term c : ℕ) (x w : Node E) → Backing view voters h x → Led h j term w → x.term ≤ term
        → c ≤ x.commit → c ≤ length w.log → take c w.log ≡ take c x.log
    agree h s j term c x w b led le small fits = ⊎_elim
        (λ (lt : b.term < term).
        let has = s.1 b.term b.n term j b.leader w b.direct led lt in
        cc (same_less w.log b.leader.log b.n c (omega (arith, b.covers)) has, same_less x.log b.leader.log x.commit c small b.same))
        (λ (ge : term ≤ b.term).
        let led2 : Led h j b.term w = record { was = led.was; leads = led.leads; in_term = omega (arith, led.in_term, b.not_later) } in
        let has = led_same view voters h s.0 b.direct.who j b.term b.leader w b.direct.led led2 c (omega (arith, b.covers, b.direct.fits)) fits in
        cc (has, same_less x.log b.leader.log x.commit c small b.same))
        (cases_lt b.term term)

    backed_accept : (h : History E) → Whole view voters h → (i j : NodeId) (m : ℕ) (x y w : Node E) → Led h j x.term w → m ≤ length w.log → take m x.log ≢ take m w.log
        → y.term ≡ x.term → y.log ≡ take m w.log → y.commit ≡ x.commit → Backed view voters h x → Backed view voters (After h i y) y
    backed_accept h s i j m x y w led fits new t e c b = ⊎_elim none some b.by_leader
      where
        none : x.commit ≡ 0 → Backed view voters (After h i y) y
        none z = record { fits = omega arith; by_leader = inl (omega arith) }

        some : Backing view voters h x → Backed view voters (After h i y) y
        some g =
            let covers : x.commit ≤ m = ⊎_elim
            (λ (lt : m < x.commit). absurd (new (sym (agree h s j x.term m x w g led (omega arith) (omega arith) fits))))
            (λ (ge : x.commit ≤ m). ge) (cases_lt m x.commit) in
            let same = agree h s j x.term x.commit x w g led (omega arith) (omega arith) (omega arith) in
            let both : take x.commit y.log ≡ take x.commit x.log = cc (ap (take x.commit) e, take-take x.commit m w.log covers, same) in
            record {
              fits = omega (arith, ap length e, length-take m w.log);
              by_leader = inr (backing_to h i y x y refl (omega arith) (omega arith) (subst (λ (k : ℕ). take k y.log ≡ take k x.log) (sym c) both) g);
            }

    backed_learn : (h : History E) (i : NodeId) (x y z : Node E) → z.term ≡ x.term → y.commit ≤ z.commit → y.commit ≤ length x.log → take y.commit x.log ≡ take y.commit z.log
        → y.term ≡ x.term → y.log ≡ x.log → Backed view voters h z → Backed view voters (After h i y) y
    backed_learn h i x y z zt c f same t e b = record {
      fits = omega (arith, ap length e);
      by_leader = ⊎_elim (λ (o : z.commit ≡ 0). inl (omega arith)) (λ (g : Backing view voters h z). inr (backing_to h i y z y refl (omega arith) c (ap (take y.commit) e ∙ same) g)) b.by_leader;
    }

    backed_commit : (h : History E) (i : NodeId) (x y : Node E) → y.role ≡ Leader → y.commit ≤ length x.log → term_at view x.log y.commit ≡ x.term → Quorum (voters x.log) (λ v. Held h v x.term y.commit x.log)
        → y.term ≡ x.term → y.log ≡ x.log → Backed view voters (After h i y) y
    backed_commit h i x y r f own q t e = record {
      fits = omega (arith, ap length e);
      by_leader = ⊎_elim (λ (pos : 0 < y.commit). inr (record {
        term = y.term;
        n = y.commit;
        leader = y;
        direct = record {
          who = i;
          led = record { was = inl (refl, refl); leads = r; in_term = refl };
          some = pos;
          fits = omega (arith, ap length e);
          own = cc (ap (λ (g : List E). term_at view g y.commit) e);
          reached = omega arith;
          quorum = in_term (in_log later);
        };
        not_later = omega arith;
        covers = omega arith;
        same = refl;
      }))
          (λ (z : y.commit ≤ 0). inl (omega arith)) (cases_lt 0 y.commit);
    }
      where
        later : Quorum (voters x.log) (λ v. Held (After h i y) v x.term y.commit x.log)
        later = quorum_map view voters (voters x.log) (λ v. Held h v x.term y.commit x.log) (λ v. Held (After h i y) v x.term y.commit x.log) (λ v. held_later h i y v x.term y.commit x.log) q

        in_log : Quorum (voters x.log) (λ v. Held (After h i y) v x.term y.commit x.log) → Quorum (voters y.log) (λ v. Held (After h i y) v x.term y.commit y.log)
        in_log p = subst (λ (g : List E). Quorum (voters g) (λ v. Held (After h i y) v x.term y.commit g)) (sym e) p

        in_term : Quorum (voters y.log) (λ v. Held (After h i y) v x.term y.commit y.log) → Quorum (voters y.log) (λ v. Held (After h i y) v y.term y.commit y.log)
        in_term p = subst (λ (g : ℕ). Quorum (voters y.log) (λ v. Held (After h i y) v g y.commit y.log)) (sym t) p

    move_backed : (h : History E) → Whole view voters h → (i : NodeId) (x y : Node E) → ((j : NodeId) (z : Node E) → Was h j z → Backed view voters h z) → Backed view voters h x → Move view voters h i x y → Backed view voters (After h i y) y
    move_backed h s i x y all b (Rise up a r e d) = backed_same h i x y e (omega arith) (omega arith) b
    move_backed h s i x y all b (Fall a c r e d) = backed_same h i x y e (omega arith) d b
    move_backed h s i x y all b (Stand a c d e g) = backed_same h i x y e (omega arith) (omega arith) b
    move_backed h s i x y all b (Grant c z a d e g none t k r e2 m) = backed_same h i x y e2 (omega arith) (omega arith) b
    move_backed h s i x y all b (Lead a q c d r e g) = backed_same h i x y e (omega arith) (omega arith) b
    move_backed h s i x y all b (Extend z a q t d r e c change) = record {
      fits = omega (arith, b.fits, ap length e, length-append x.log (z ∷ []));
      by_leader = ⊎_elim (λ (o : x.commit ≡ 0). inl (omega arith))
          (λ (g : Backing view voters h x). inr (backing_to h i y x y refl (omega arith) (omega arith) (ap (take y.commit) e ∙ take-append-le y.commit x.log (z ∷ []) (omega (arith, b.fits))) g)) b.by_leader;
    }
    move_backed h s i x y all b (Accept j w m a c d e t g k q r) = backed_accept h s i j m x y w a c d t q r b
    move_backed h s i x y all b (Learn j w a c d e g t k r q) = backed_learn h i x y w a.in_term c d e t q (all j w a.was)
    move_backed h s i x y all b (Commit a c d e g t k r q) = backed_commit h i x y r d e g t q

    -- what (each view) node has committed at any moment, a leader of no later term has committed by copies
    pub backed : (h : History E) → Whole view voters h → (i : NodeId) (x : Node E) → Was h i x → Backed view voters h x
    backed = each view voters (Whole view voters) whole_past (λ h k y w. w.0.0.1) (λ h i x. Backed view voters h x)
        (λ i. record { fits = omega arith; by_leader = inl refl })
        (λ h k y i x l w b. record { fits = b.fits; by_leader = ⊎_elim (λ (o : x.commit ≡ 0). inl o) (λ (g : Backing view voters h x). inr (backing_to h k y x x refl (omega arith) (omega arith) refl g)) b.by_leader })
        (λ h i y l ih m. move_backed h (whole_past h i y l) i (now h i) y ih (ih i (now h i) (was_now h i)) m)

    -- two nodes have committed the same, as far as both have
    pub same_committed : (h : History E) → Whole view voters h → (x y : Node E) → Backing view voters h x → Backing view voters h y → (c : ℕ) → c ≤ x.commit → c ≤ y.commit → take c x.log ≡ take c y.log
    same_committed h s x y a b c p q =
        let ea = same_less x.log a.leader.log x.commit c p a.same in
        let eb = same_less y.log b.leader.log y.commit c q b.same in
        let l : take c a.leader.log ≡ take c b.leader.log = ⊎_elim
        (λ (lt : a.term < b.term). sym (same_less b.leader.log a.leader.log a.n c (omega (arith, a.covers)) (s.1 a.term a.n b.term b.direct.who a.leader b.leader a.direct b.direct.led lt)))
        (λ (ge : b.term ≤ a.term). ⊎_elim
        (λ (lt : b.term < a.term). same_less a.leader.log b.leader.log b.n c (omega (arith, b.covers)) (s.1 b.term b.n a.term a.direct.who b.leader a.leader b.direct a.direct.led lt))
        (λ (le : a.term ≤ b.term).
        let led2 : Led h b.direct.who a.term b.leader = record { was = b.direct.led.was; leads = b.direct.led.leads; in_term = omega (arith, b.direct.led.in_term) } in
        led_same view voters h s.0 a.direct.who b.direct.who a.term a.leader b.leader a.direct.led led2 c (omega (arith, a.covers, a.direct.fits)) (omega (arith, b.covers, b.direct.fits)))
        (cases_lt b.term a.term))
        (cases_lt a.term b.term) in
        cc (ea, eb, l)
