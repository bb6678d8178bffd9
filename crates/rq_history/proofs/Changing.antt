-- Under configurations that change one at a time a lawful history has one leader in a term, and leaders have what was committed.
use Rattle.std.proofs.Common.{◌≡◌, ◌⊎◌, ℕ, suc, zero, ◌+◌, ◌<◌, List, take, refl, ap, sym, subst, ◌∙◌, inl, inr, ⊎_elim, arith}
use Rattle.rq_history.specs.History.{NodeId, EntryView, Node, History, Begin, After, Was, now, Follower, Candidate, Leader, Led, term_at, WasBefore}
use Rattle.rq_history.specs.Moves.{Move, Lawful, Rise, Fall, Stand, Grant, Lead, Extend, Accept, Learn, Commit, Voted}
use Rattle.rq_history.specs.Quorum.{Quorum}
use Rattle.rq_history.proofs.Claims.{Sound, Whole, CompleteAt, OneLeader}
use Rattle.rq_history.specs.Votes.{Ballot, Cast, Election}
use Rattle.rq_history.specs.Commits.{DirectCommit}
use Rattle.rq_history.proofs.Moments.{ordered, was_now}
use Rattle.rq_history.proofs.Logs.{same_fits, prefix_same}
use Rattle.rq_history.proofs.Quorums.{quorums_meet}
use Rattle.rq_history.proofs.Votes.{one_vote, quorum_map}
use Rattle.rq_history.proofs.Terms.{below}
use Rattle.rq_history.proofs.Ballots.{cast_of, one_stand2, elections}
use Rattle.rq_history.proofs.Changes.{changes, ready}
use Rattle.rq_history.proofs.Meets.{voters, AllChanged, has_all, stand_near}

module _ {E : Type 0} (view : EntryView E) where
  module _ (first : List NodeId) where
    below_stand : (h : History E) → Lawful view (voters view first) h → (j : NodeId) (u : ℕ) (e : Node E) → Was h j e → e.role ≡ Candidate → e.term ≡ u → (n : ℕ) → term_at view e.log n < u
    below_stand h l j u e w cand t n = omega (arith, (below view (voters view first) h l j e w).of_candidate cand n, t)

    -- leaders have what was committed, by their terms
    complete_below : (h : History E) → Sound view (voters view first) h → AllChanged view first h → (b t n u : ℕ) (j : NodeId) (l z : Node E) → DirectCommit view (voters view first) h t n l → Led h j u z → t < u → u < b → take n z.log ≡ take n l.log
    complete_below h s all zero t n u j l z d led lt ub = absurd (omega arith)
    complete_below h s all (suc b) t n u j l z d led lt ub =
        let e : Election view (voters view first) h j u z.log = subst (λ (g : ℕ). Election view (voters view first) h j g z.log) led.in_term (elections view (voters view first) h s j z led.was led.leads) in
        let low : (t2 n2 : ℕ) (l2 : Node E) → DirectCommit view (voters view first) h t2 n2 l2 → (k : NodeId) (m : ℕ) (w : Node E) → Led h k m w → t2 < m → m < u → take n2 w.log ≡ take n2 l2.log =
        λ t2 n2 l2 d2 k m w led2 a c. complete_below h s all b t2 n2 m k l2 w d2 led2 a (omega arith) in
        let has = has_all view first h s all u j e.stood e.was e.stands e.in_term low u (omega arith) e.quorum low t n l d lt in
        let fit = same_fits l.log e.stood.log n d.fits (sym has) in
        cc (has, prefix_same e.stood.log z.log n fit e.prefix)

    complete_at : (h : History E) → Sound view (voters view first) h → AllChanged view first h → CompleteAt view (voters view first) h
    complete_at h s all t n u j l z d led lt = complete_below h s all (u + 1) t n u j l z d led lt (omega arith)

    as_before : (h : History E) → Whole view (voters view first) h → (i b : NodeId) (x y z : Node E) → x ≡ now h i → x.role ≡ Leader → x.term ≡ y.term → Led h b y.term z → i ≡ b
    as_before h w i b x y z is lead t led = w.0.1 i b y.term x z (record { was = subst (λ (k : Node E). Was h i k) (sym is) (was_now h i); leads = lead; in_term = t }) led

    -- who comes to lead a term is the one that has led it
    elected_again : (h : History E) → Whole view (voters view first) h → AllChanged view first h → (i b : NodeId) (x z : Node E) → Was h i x → x.role ≡ Candidate → Quorum (voters view first x.log) (λ v. Voted h v i x.term) → Led h b x.term z → i ≡ b
    elected_again h w all i b x z wx cand q led =
        let s = w.0 in
        let e : Election view (voters view first) h b x.term z.log = subst (λ (g : ℕ). Election view (voters view first) h b g z.log) led.in_term (elections view (voters view first) h s b z led.was led.leads) in
        let low : (bound : ℕ) → (t2 n2 : ℕ) (l2 : Node E) → DirectCommit view (voters view first) h t2 n2 l2 → (k : NodeId) (m : ℕ) (y : Node E) → Led h k m y → t2 < m → m < bound → take n2 y.log ≡ take n2 l2.log =
        λ bound t2 n2 l2 d2 k m y led2 a c. w.1 t2 n2 m k l2 y d2 led2 a in
        let votes : Quorum (voters view first x.log) (λ v. Ballot view h v i x.term (x.term + 1) x.log) =
        quorum_map view (voters view first) (voters view first x.log) (λ v. Voted h v i x.term) (λ v. Ballot view h v i x.term (x.term + 1) x.log) (λ v p. ballot v p) q in
        let has_x = has_all view first h s all x.term i x wx cand refl (low x.term) (x.term + 1) (omega arith) votes (low (x.term + 1)) in
        let has_e = has_all view first h s all x.term b e.stood e.was e.stands e.in_term (low x.term) x.term (omega arith) e.quorum (low x.term) in
        let meet = stand_near view first h s all x.term i b x e.stood wx e.was has_x has_e (below_stand h s.0 i x.term x wx cand refl) (below_stand h s.0 b x.term e.stood e.was e.stands e.in_term) in
        let c = quorums_meet (voters view first x.log) (voters view first e.stood.log) (λ v. Voted h v i x.term) (λ v. Ballot view h v b x.term x.term e.stood.log) meet q e.quorum in
        one_vote view (voters view first) h s.0 c.0 i b x.term c.1 c.2.voted
      where
        ballot : (v : NodeId) → Voted h v i x.term → Ballot view h v i x.term (x.term + 1) x.log
        ballot v p =
            let k = cast_of view (voters view first) h w.0 v i x.term p in
            let same : k.stood.log ≡ x.log = stands k in
            subst (λ (g : List E). Ballot view h v i x.term (x.term + 1) g) same k.ballot
          where
            stands : (k : Cast view h v i x.term) → k.stood.log ≡ x.log
            stands k = ⊎_elim (λ (p : WasBefore h i k.stood x). one_stand2 view (voters view first) h w.0.0 i k.stood x p k.stands cand k.in_term) (λ (p : WasBefore h i x k.stood). sym (one_stand2 view (voters view first) h w.0.0 i x k.stood p cand k.stands (sym k.in_term))) (ordered h i k.stood x k.was wx)

    -- a new leader of a term against an earlier one
    new_leader : (h : History E) → Whole view (voters view first) h → AllChanged view first h → (i b : NodeId) (x y z : Node E) → x ≡ now h i → Move view (voters view first) h i x y → y.role ≡ Leader → Led h b y.term z → i ≡ b
    new_leader h w all i b x y z is (Rise up a r c d) lead led = absurd (cc)
    new_leader h w all i b x y z is (Fall a c r d e) lead led = absurd (cc)
    new_leader h w all i b x y z is (Stand a c d e g) lead led = absurd (cc)
    new_leader h w all i b x y z is (Grant c s a d e g none t v r e2 m) lead led = as_before h w i b x y z is (cc) (sym t) led
    new_leader h w all i b x y z is (Lead a q t d r e g) lead led =
        elected_again h w all i b x z (subst (λ (k : Node E). Was h i k) (sym is) (was_now h i)) a q (subst (λ (k : ℕ). Led h b k z) t led)
    new_leader h w all i b x y z is (Extend s a q t d r e c change) lead led = as_before h w i b x y z is a (sym t) led
    new_leader h w all i b x y z is (Accept j k m a c d e t g r q u) lead led = absurd (cc)
    new_leader h w all i b x y z is (Learn j k a c d e g t r q u) lead led = absurd (cc)
    new_leader h w all i b x y z is (Commit a c d e g t k r q) lead led = as_before h w i b x y z is a (sym t) led

    in_past : (h : History E) (k : NodeId) (y : Node E) (i : NodeId) (term : ℕ) (x : Node E) → (p : Led (After h k y) i term x) → ((i ≡ k) × (x ≡ y)) ⊎ Led h i term x
    in_past h k y i term x p = ⊎_elim (λ (n : (i ≡ k) × (x ≡ y)). inl n) (λ (w : Was h i x). inr (record { was = w; leads = p.leads; in_term = p.in_term })) p.was

    one_after : (h : History E) → Whole view (voters view first) h → AllChanged view first h → (k : NodeId) (y : Node E) → Move view (voters view first) h k (now h k) y → OneLeader (After h k y)
    one_after h w all k y m i j term x z p q = go (in_past h k y i term x p) (in_past h k y j term z q)
      where
        newer : (b : NodeId) (x z : Node E) → x ≡ y → x.role ≡ Leader → x.term ≡ term → Led h b term z → k ≡ b
        newer b x z e lead t led = new_leader h w all k b (now h k) y z refl m (subst (λ (g : Node E). g.role ≡ Leader) e lead) (subst (λ (g : ℕ). Led h b g z) (sym t ∙ ap (λ (g : Node E). g.term) e) led)

        go : ((i ≡ k) × (x ≡ y)) ⊎ Led h i term x → ((j ≡ k) × (z ≡ y)) ⊎ Led h j term z → i ≡ j
        go (inl a) (inl b) = a.0 ∙ sym b.0
        go (inl a) (inr b) = a.0 ∙ newer j x z a.1 p.leads p.in_term b
        go (inr a) (inl b) = sym (b.0 ∙ newer i z x b.1 q.leads q.in_term a)
        go (inr a) (inr b) = w.0.1 i j term x z a b

    -- with configurations that change one at a time
    pub whole : (h : History E) → Lawful view (voters view first) h → Whole view (voters view first) h
    whole Begin l = ((l, λ i j term x z p q. none i x p.was p.leads), λ t n u j x z d led lt. none j z led.was led.leads)
      where
        none : {A : Type 0} (i : NodeId) (x : Node E) → Was Begin i x → x.role ≡ Leader → A
        none i x w r = absurd (no (ap (λ (g : Node E). g.role) w) r)
          where
            no : x.role ≡ Follower → x.role ≡ Leader → Prim.⊥
            no a b = cc
    whole (After h k y) l =
        let w = whole h l.0 in
        let s : Sound view (voters view first) (After h k y) = (l, one_after h w (changes view (voters view first) h (l.0, ready view (voters view first) h w)) k y l.1) in
        (s, complete_at (After h k y) s (changes view (voters view first) (After h k y) (l, w)))
