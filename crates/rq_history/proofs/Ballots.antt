-- What a vote says of the voter's log, and a lead of the logs of a quorum.
use Rattle.std.proofs.Common.{◌≡◌, ◌⊎◌, ℕ, ◌+◌, ◌<◌, ◌≤◌, List, length, Option, Some, refl, ap, sym, subst, ◌∙◌, inl, inr, ⊎_elim, arith}
use Rattle.std.proofs.lemmas.Bool.{cases_lt}
use Rattle.rq_history.specs.History.{NodeId, EntryView, Node, History, After, Was, now, Candidate, Leader, IsPrefixOf, WasBefore}
use Rattle.rq_history.specs.Moves.{Move, Lawful, Rise, Fall, Stand, Grant, Lead, Extend, Accept, Learn, Commit, Voted, IsUpToDate}
use Rattle.rq_history.proofs.Claims.{Sound}
use Rattle.rq_history.specs.Votes.{Lost, Kept, Ballot, Cast, Election}
use Rattle.rq_history.proofs.Moments.{law_past, law_move, sound_past, sound_move, since, since2, each, was_now}
use Rattle.rq_history.proofs.Logs.{prefix_refl, prefix_push, prefix_trans}
use Rattle.rq_history.proofs.Votes.{older, move_older, IsOlder, quorum_map, voted_later}
use Rattle.rq_history.proofs.Growth.{no_return}
use Rattle.rq_history.proofs.Kept.{still_has, lost_later}

module _ {E : Type 0} (view : EntryView E) where
  module _ (voters : List E → List NodeId) where
    -- a new moment of a node is of no lower term
    older_new : (h : History E) (k : NodeId) (y : Node E) (v : NodeId) (x : Node E) → Lawful view voters (After h k y) → Was h v x → v ≡ k → x.term ≤ y.term
    older_new h k y v x l w e =
        let o = older view voters h l.0 k x (rw e at w) in
        let m = move_older view voters h k (now h k) y l.1 in
        omega (arith, o.term, m.term)

    kept_later : (h : History E) (k : NodeId) (y : Node E) (v : NodeId) (term bound : ℕ) (log : List E) → ((v ≡ k) → term ≤ y.term) → Kept view h v term bound log → Kept view (After h k y) v term bound log
    kept_later h k y v term bound log above f z n (inl w) low some len own = absurd (omega (arith, above w.0, ap (λ (x : Node E). x.term) w.1))
    kept_later h k y v term bound log above f z n (inr w) low some len own = ⊎_elim (λ s. inl s) (λ o. inr (lost_later view h k y z.term bound bound n z.log (omega arith) o)) (f z n w low some len own)

    pub ballot_later : (h : History E) (k : NodeId) (y : Node E) (v c : NodeId) (term bound : ℕ) (log : List E) → Lawful view voters (After h k y) → Ballot view h v c term bound log → Ballot view (After h k y) v c term bound log
    ballot_later h k y v c term bound log l b = record {
      voted = voted_later view voters h k y v c term b.voted;
      voter = b.voter;
      was = inr b.was;
      newer = b.newer;
      kept = kept_later h k y v term bound b.voter.log (λ e. omega (arith, older_new h k y v b.voted.ballot l b.voted.was e, b.voted.in_term)) b.kept;
    }

    cast_later : (h : History E) (k : NodeId) (y : Node E) (v c : NodeId) (term : ℕ) → Lawful view voters (After h k y) → Cast view h v c term → Cast view (After h k y) v c term
    cast_later h k y v c term l b = record { stood = b.stood; was = inr b.was; stands = b.stands; in_term = b.in_term; ballot = ballot_later h k y v c term (term + 1) b.stood.log l b.ballot }

    cast_same : (h : History E) (i c : NodeId) (x y : Node E) → Lawful view voters (After h i y) → y.term ≡ x.term → Cast view h i c x.term → Cast view (After h i y) i c y.term
    cast_same h i c x y l e b = subst (λ (t : ℕ). Cast view (After h i y) i c t) (sym e) (cast_later h i y i c x.term l b)

    -- the log of a voter now, of which what it had was kept
    kept_now : (h : History E) → Sound view voters h → (i : NodeId) (term : ℕ) (y : Node E) → (now h i).term < term + 1 → term ≤ y.term → Kept view (After h i y) i term (term + 1) (now h i).log
    kept_now h l i term y le at_y z n (inl w) low some len own = absurd (omega (arith, ap (λ (x : Node E). x.term) w.1))
    kept_now h l i term y le at_y z n (inr w) low some len own = ⊎_elim (λ s. inl s) (λ o. inr (lost_later view h i y z.term ((now h i).term + 1) (term + 1) n z.log (omega arith) o)) (still_has view voters h l i z w n some len own)

    Casts : History E → NodeId → Node E → Type 0
    Casts h v b = (c : NodeId) → b.vote ≡ Some c → Cast view h v c b.term

    some_same : (a b : ℕ) → Option.Some a ≡ Option.Some b → a ≡ b
    some_same a b e = cc

    move_cast : (h : History E) → Sound view voters h → (i : NodeId) (x y : Node E) → Lawful view voters (After h i y) → x ≡ now h i → ((c : NodeId) → x.vote ≡ Some c → Cast view h i c x.term) → Move view voters h i x y → (c : NodeId) → y.vote ≡ Some c → Cast view (After h i y) i c y.term
    move_cast h s i x y l is f (Rise up a r d e) c v = absurd (cc)
    move_cast h s i x y l is f (Fall a q d e g) c v = cast_same h i c x y l a (f c (cc))
    move_cast h s i x y l is f (Stand a q d e g) c v =
        let ci : i ≡ c = cc in
        let p : Cast view (After h i y) i i y.term = record {
          stood = y;
          was = inl (refl, refl);
          stands = d;
          in_term = refl;
          ballot = record {
            voted = record { ballot = y; was = inl (refl, refl); in_term = refl; for_c = q };
            voter = now h i;
            was = inr (was_now h i);
            newer = inr (cc, omega (arith, ap length e, ap (λ (z : Node E). length z.log) is));
            kept = kept_now h s i y.term y (omega (arith, ap (λ (z : Node E). z.term) is)) (omega arith);
          };
        } in
        subst (λ (k : NodeId). Cast view (After h i y) i k y.term) ci p
    move_cast h s i x y l is f (Grant d z a b e g none t q j k m) c v =
        let dc : d ≡ c = cc in
        let p : Cast view (After h i y) i d y.term = record {
          stood = z;
          was = inr a;
          stands = b;
          in_term = cc;
          ballot = record {
            voted = record { ballot = y; was = inl (refl, refl); in_term = refl; for_c = q };
            voter = now h i;
            was = inr (was_now h i);
            newer = subst (λ (w : Node E). IsUpToDate view z.log w.log) is g;
            kept = kept_now h s i y.term y (omega (arith, ap (λ (w : Node E). w.term) is)) (omega arith);
          };
        } in
        subst (λ (k : NodeId). Cast view (After h i y) i k y.term) dc p
    move_cast h s i x y l is f (Lead a q t d e g k) c v = cast_same h i c x y l t (f c (cc))
    move_cast h s i x y l is f (Extend z a q t d e g k change) c v = cast_same h i c x y l t (f c (cc))
    move_cast h s i x y l is f (Accept j w m a b d e t k q r u) c v = cast_same h i c x y l t (f c (cc))
    move_cast h s i x y l is f (Learn j w a b d e g t k r q) c v = cast_same h i c x y l t (f c (cc))
    move_cast h s i x y l is f (Commit a b d e g t k r q) c v = cast_same h i c x y l t (f c (cc))

    pub casts : (h : History E) → Sound view voters h → (v : NodeId) (b : Node E) → Was h v b → (c : NodeId) → b.vote ≡ Some c → Cast view h v c b.term
    casts = each view voters (Sound view voters) (sound_past view voters) (sound_move view voters) (λ h v b. (c : NodeId) → b.vote ≡ Some c → Cast view h v c b.term)
        (λ i c e. absurd (cc))
        (λ h k y i x l w f c e. cast_later h k y i c x.term l.0 (f c e))
        (λ h i y l ih m. move_cast h (sound_past view voters h i y l) i (now h i) y l.0 refl (ih i (now h i) (was_now h i)) m)

    -- a node stands in a term with one log
    abbrev pub OneStand : Node E → Node E → Type 0
    OneStand a x = a.role ≡ Candidate → x.role ≡ Candidate → a.term ≡ x.term → a.log ≡ x.log

    move_stand : (h : History E) (i : NodeId) (a x y : Node E) → IsOlder view a x → Move view voters h i x y → OneStand a x → OneStand a y
    move_stand h i a x y o (Rise up b r c d) f p q t = absurd (cc)
    move_stand h i a x y o (Fall b c r d e) f p q t = absurd (cc)
    move_stand h i a x y o (Stand b c d e g) f p q t = absurd (omega (arith, o.term))
    move_stand h i a x y o (Grant c z b d e g none t2 q2 j k m) f p q t = cc (f p (cc) (cc))
    move_stand h i a x y o (Lead b q2 c d e g k) f p q t = absurd (cc)
    move_stand h i a x y o (Extend s b q2 c d e g k change) f p q t = absurd (cc)
    move_stand h i a x y o (Accept j w m b c d e g k q2 r u) f p q t = absurd (cc)
    move_stand h i a x y o (Learn j w b c d e g k r q2 u) f p q t = absurd (cc)
    move_stand h i a x y o (Commit b c d e g k r q2 u) f p q t = absurd (cc)

    pub one_stand : (h : History E) → Lawful view voters h → (i : NodeId) (a : Node E) → Was h i a → OneStand a (now h i)
    one_stand = since view voters (Lawful view voters) (law_past view voters) (law_move view voters) (λ h i a x. OneStand a x) (λ i p q t. refl) (λ h k y i z x f. f)
        (λ h i y l m p q t. refl)
        (λ h i y a l m w f. move_stand h i a (now h i) y (older view voters h l.0 i a w) m f)

    pub one_stand2 : (h : History E) → Lawful view voters h → (i : NodeId) (a b : Node E) → WasBefore h i a b → OneStand a b
    one_stand2 = since2 view voters (Lawful view voters) (law_past view voters) (law_move view voters) (λ h i a x. OneStand a x) (λ i p q t. refl) (λ h k y i z x f. f)
        (λ h i y l m p q t. refl)
        (λ h i y a l m w f. move_stand h i a (now h i) y (older view voters h l.0 i a w) m f)

    -- at a lead, a vote for it is of before (each view) leader of the term
    pub strict : (h : History E) (i v : NodeId) (x y : Node E) → Sound view voters (After h i y) → x ≡ now h i → x.role ≡ Candidate → y.role ≡ Leader → y.term ≡ x.term → Cast view h v i x.term → Ballot view h v i x.term x.term x.log
    strict h i v x y l is cand lead t b = record {
      voted = b.ballot.voted;
      voter = b.ballot.voter;
      was = b.ballot.was;
      newer = subst (λ (e : List E). IsUpToDate view e b.ballot.voter.log) same b.ballot.newer;
      kept = λ z n w low some len own. ⊎_elim (λ s. inl s) (λ o. inr (under z n o (cases_lt o.leader.term x.term))) (b.ballot.kept z n w low some len own);
    }
      where
        same : b.stood.log ≡ x.log
        same = rw is (one_stand h l.0.0 i b.stood b.was b.stands (subst (λ (w : Node E). w.role ≡ Candidate) is cand) (b.in_term ∙ ap (λ (w : Node E). w.term) is))

        no : (j : NodeId) (m : Node E) → Was h j m → m.role ≡ Leader → m.term ≡ x.term → Prim.⊥
        no j m w r e =
            let ij : j ≡ i = l.1 j i x.term m y (record { was = inr w; leads = r; in_term = e }) (record { was = inl (refl, refl); leads = lead; in_term = t }) in
            no_return view voters h l.0.0 i m (rw ij at w) r (e ∙ ap (λ (w : Node E). w.term) is) (subst (λ (w : Node E). w.role ≡ Candidate) is cand)

        under : (z : Node E) (n : ℕ) (o : Lost h z.term (x.term + 1) n z.log) → (o.leader.term < x.term) ⊎ (x.term ≤ o.leader.term) → Lost h z.term x.term n z.log
        under z n o (inl lt) = record { who = o.who; leader = o.leader; was = o.was; leads = o.leads; above = o.above; under = lt; lacks = o.lacks }
        under z n o (inr ge) = absurd (no o.who o.leader o.was o.leads (omega (arith, o.under)))

    pub cast_of : (h : History E) → Sound view voters h → (v c : NodeId) (term : ℕ) → Voted h v c term → Cast view h v c term
    cast_of h l v c term p = subst (λ (t : ℕ). Cast view h v c t) p.in_term (casts h l v p.ballot p.was c p.for_c)

    election_later : (h : History E) (k i : NodeId) (term : ℕ) (y : Node E) (a b : List E) → Lawful view voters (After h k y) → Election view voters h i term a → IsPrefixOf a b → Election view voters (After h k y) i term b
    election_later h k i term y a b l e f = record {
      stood = e.stood;
      was = inr e.was;
      stands = e.stands;
      in_term = e.in_term;
      quorum = quorum_map view voters (voters e.stood.log) (λ v. Ballot view h v i term term e.stood.log) (λ v. Ballot view (After h k y) v i term term e.stood.log) (λ v p. ballot_later h k y v i term term e.stood.log l p) e.quorum;
      prefix = prefix_trans e.stood.log a b e.prefix f;
    }

    move_election : (h : History E) (i : NodeId) (x y : Node E) → Sound view voters (After h i y) → x ≡ now h i → (x.role ≡ Leader → Election view voters h i x.term x.log) → Move view voters h i x y → y.role ≡ Leader → Election view voters (After h i y) i y.term y.log
    move_election h i x y l is f (Rise up b r c d) q = absurd (cc)
    move_election h i x y l is f (Fall b c r d e) q = absurd (cc)
    move_election h i x y l is f (Stand b c d e g) q = absurd (cc)
    move_election h i x y l is f (Grant c z b d e g none t q2 j k m) q =
        let w = election_later h i i x.term y x.log y.log l.0 (f (cc)) (rw k (prefix_refl x.log)) in
        subst (λ (u : ℕ). Election view voters (After h i y) i u y.log) (sym t) w
    move_election h i x y l is f (Lead b q2 c d e g k) q =
        let w : Election view voters (After h i y) i x.term y.log = record {
          stood = x;
          was = inr (subst (λ (z : Node E). Was h i z) (sym is) (was_now h i));
          stands = b;
          in_term = refl;
          quorum = quorum_map view voters (voters x.log) (λ v. Voted h v i x.term) (λ v. Ballot view (After h i y) v i x.term x.term x.log)
              (λ v p. ballot_later h i y v i x.term x.term x.log l.0 (strict h i v x y l is b e c (cast_of h (sound_past view voters h i y l) v i x.term p))) q2;
          prefix = rw g (prefix_refl x.log);
        } in
        subst (λ (u : ℕ). Election view voters (After h i y) i u y.log) (sym c) w
    move_election h i x y l is f (Extend s b q2 c d e g k change) q =
        let w = election_later h i i x.term y x.log y.log l.0 (f b) (rw g (prefix_push x.log x.log s (prefix_refl x.log))) in
        subst (λ (u : ℕ). Election view voters (After h i y) i u y.log) (sym c) w
    move_election h i x y l is f (Accept j w m b c d e g k q2 r u) q = absurd (cc)
    move_election h i x y l is f (Learn j w b c d e g k r q2 u) q = absurd (cc)
    move_election h i x y l is f (Commit b c d e g t k r q2) q =
        let w = election_later h i i x.term y x.log y.log l.0 (f b) (rw q2 (prefix_refl x.log)) in
        subst (λ (u : ℕ). Election view voters (After h i y) i u y.log) (sym t) w

    -- who leads a term was voted for by a quorum, each view with a log that is no newer and of which what it had was kept
    pub elections : (h : History E) → Sound view voters h → (i : NodeId) (x : Node E) → Was h i x → x.role ≡ Leader → Election view voters h i x.term x.log
    elections = each view voters (Sound view voters) (sound_past view voters) (sound_move view voters) (λ h i x. x.role ≡ Leader → Election view voters h i x.term x.log)
        (λ i r. absurd (cc))
        (λ h k y i x l w f r. election_later h k i x.term y x.log x.log l.0 (f r) (prefix_refl x.log))
        (λ h i y l ih m. move_election h i (now h i) y l refl (ih i (now h i) (was_now h i)) m)
