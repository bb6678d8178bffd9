-- A node votes once in a term.
use Rattle.std.proofs.Common.{◌≡◌, ◌⊎◌, ℕ, ◌≤◌, List, Some, refl, sym, inl, inr, arith}
use Rattle.rq_history.specs.History.{NodeId, EntryView, Node, History, After, Was, now, Leader, Led, WasBefore}
use Rattle.rq_history.specs.Moves.{Move, Lawful, Rise, Fall, Stand, Grant, Lead, Extend, Accept, Learn, Commit, Voted}
use Rattle.rq_history.specs.Quorum.{Quorum, HaveCommon}
use Rattle.rq_history.proofs.Quorums.{quorums_meet}
use Rattle.rq_history.proofs.Moments.{law_past, law_move, since, since2, each, ordered, was_now}

module _ {E : Type 0} (view : EntryView E) where
  -- time went on: no lower term, and in the same term the same vote
  pub record IsOlder (z x : Node E) : Type 0 where
    pub term : z.term ≤ x.term
    pub vote : (c : NodeId) → z.term ≡ x.term → z.vote ≡ Some c → x.vote ≡ Some c

  older_trans : (z x y : Node E) → IsOlder z x → IsOlder x y → IsOlder z y
  older_trans z x y a b = record {
    term = omega (arith, a.term, b.term);
    vote = λ c e v. b.vote c (omega (arith, a.term, b.term)) (a.vote c (omega (arith, a.term, b.term)) v);
  }

  module _ (voters : List E → List NodeId) where
    pub move_older : (h : History E) (i : NodeId) (x y : Node E) → Move view voters h i x y → IsOlder x y
    move_older h i x y (Rise up a b c d) = record { term = omega arith; vote = λ n e v. absurd (omega arith) }
    move_older h i x y (Fall a b c d e) = record { term = omega arith; vote = λ n e v. cc }
    move_older h i x y (Stand a b c d e) = record { term = omega arith; vote = λ n e v. absurd (omega arith) }
    move_older h i x y (Grant c z a b d e f g j k l m) = record { term = omega arith; vote = λ n e v. cc }
    move_older h i x y (Lead a b c d e f g) = record { term = omega arith; vote = λ n e v. cc }
    move_older h i x y (Extend s a b c d e f g change) = record { term = omega arith; vote = λ n e v. cc }
    move_older h i x y (Accept j z n a b c d e f g k l) = record { term = omega arith; vote = λ n e v. cc }
    move_older h i x y (Learn j z a b c d e f g k l) = record { term = omega arith; vote = λ n e v. cc }
    move_older h i x y (Commit a b c d e f g k l) = record { term = omega arith; vote = λ n e v. cc }

    pub older : (h : History E) → Lawful view voters h → (i : NodeId) (z : Node E) → Was h i z → IsOlder z (now h i)
    older = since view voters (Lawful view voters) (law_past view voters) (law_move view voters) (λ h i z x. IsOlder z x)
        (λ i. record { term = omega arith; vote = λ c e v. v })
        (λ h k y i z x o. o)
        (λ h i y l m. record { term = omega arith; vote = λ c e v. v })
        (λ h i y z l m w o. older_trans z (now h i) y o (move_older h i (now h i) y m))

    pub older2 : (h : History E) → Lawful view voters h → (i : NodeId) (a b : Node E) → WasBefore h i a b → IsOlder a b
    older2 = since2 view voters (Lawful view voters) (law_past view voters) (law_move view voters) (λ h i z x. IsOlder z x)
        (λ i. record { term = omega arith; vote = λ c e v. v })
        (λ h k y i z x o. o)
        (λ h i y l m. record { term = omega arith; vote = λ c e v. v })
        (λ h i y z l m w o. older_trans z (now h i) y o (move_older h i (now h i) y m))

    one_vote_in_order : (a b : Node E) (c d : NodeId) → IsOlder a b → a.term ≡ b.term → a.vote ≡ Some c → b.vote ≡ Some d → c ≡ d
    one_vote_in_order a b c d o e v w = cc (o.vote c e v)

    -- a node votes for one in a term
    pub one_vote : (h : History E) → Lawful view voters h → (v c d : NodeId) (term : ℕ) → Voted h v c term → Voted h v d term → c ≡ d
    one_vote h l v c d term p q = go (ordered h v p.ballot q.ballot p.was q.was)
      where
        go : WasBefore h v p.ballot q.ballot ⊎ WasBefore h v q.ballot p.ballot → c ≡ d
        go (inl b) = one_vote_in_order p.ballot q.ballot c d (older2 h l v p.ballot q.ballot b) (cc (p.in_term, q.in_term)) p.for_c q.for_c
        go (inr b) = sym (one_vote_in_order q.ballot p.ballot d c (older2 h l v q.ballot p.ballot b) (cc (p.in_term, q.in_term)) q.for_c p.for_c)

    pub quorum_map : (vs : List NodeId) (P Q : NodeId → Type 0) → ((v : NodeId) → P v → Q v) → Quorum vs P → Quorum vs Q
    quorum_map vs P Q f q = record { in_set = q.in_set; most = q.most; each = λ v s. f v (q.each v s) }

    pub voted_later : (h : History E) (k : NodeId) (y : Node E) (v c : NodeId) (term : ℕ) → Voted h v c term → Voted (After h k y) v c term
    voted_later h k y v c term p = record { ballot = p.ballot; was = inr p.was; in_term = p.in_term; for_c = p.for_c }

    pub in_term : (h : History E) (v c : NodeId) (t u : ℕ) → Voted h v c t → t ≡ u → Voted h v c u
    in_term h v c t u p e = record { ballot = p.ballot; was = p.was; in_term = cc (p.in_term); for_c = p.for_c }

    -- who leads was voted for by a quorum
    abbrev Elected : History E → NodeId → Node E → Type 0
    Elected h i x = x.role ≡ Leader → (log : List E) × Quorum (voters log) (λ v. Voted h v i x.term)

    elected_same : (h : History E) (k i : NodeId) (y x z : Node E) → z.term ≡ x.term → ((log : List E) × Quorum (voters log) (λ v. Voted h v i x.term))
        → (log : List E) × Quorum (voters log) (λ v. Voted (After h k y) v i z.term)
    elected_same h k i y x z e q = rw e (q.0, quorum_map (voters q.0) (λ v. Voted h v i x.term) (λ v. Voted (After h k y) v i x.term) (λ v. voted_later h k y v i x.term) q.1)

    move_elected : (h : History E) (i : NodeId) (x y : Node E) → Move view voters h i x y → Elected h i x → y.role ≡ Leader → (log : List E) × Quorum (voters log) (λ v. Voted (After h i y) v i y.term)
    move_elected h i x y (Rise up a b c d) f r = absurd (cc)
    move_elected h i x y (Fall a b c d e) f r = absurd (cc)
    move_elected h i x y (Stand a b c d e) f r = absurd (cc)
    move_elected h i x y (Grant c z a b d e none g j k l m) f r = elected_same h i i y x y g (f (cc))
    move_elected h i x y (Lead a b c d e f g) q r = elected_same h i i y x y c (x.log, b)
    move_elected h i x y (Extend s a b c d e f g change) q r = elected_same h i i y x y c (q a)
    move_elected h i x y (Accept j z n a b c d e f g k l) q r = absurd (cc)
    move_elected h i x y (Learn j z a b c d e f g k l) q r = absurd (cc)
    move_elected h i x y (Commit a b c d e f g k l) q r = elected_same h i i y x y f (q a)

    pub elected : (h : History E) → Lawful view voters h → (i : NodeId) (x : Node E) → Was h i x → Elected h i x
    elected = each view voters (Lawful view voters) (law_past view voters) (law_move view voters) Elected (λ i r. absurd (cc)) (λ h k y i x l w f r. elected_same h k i y x x refl (f r))
        (λ h i y l ih m. move_elected h i (now h i) y m (ih i (now h i) (was_now h i)))

    -- at most one node ever leads a term, where the quorums of the two elections have a voter in common
    pub one_leader : (h : History E) → ((a b : List E) → HaveCommon (voters a) (voters b)) → Lawful view voters h → (i j : NodeId) (term : ℕ) (x y : Node E) → Led h i term x → Led h j term y → i ≡ j
    one_leader h meet l i j term x y p q =
        let a = elected h l i x p.was p.leads in
        let b = elected h l j y q.was q.leads in
        let v = quorums_meet (voters a.0) (voters b.0) (λ v. Voted h v i x.term) (λ v. Voted h v j y.term) (meet a.0 b.0) a.1 b.1 in
        one_vote h l v.0 i j term (in_term h v.0 i x.term term v.1 p.in_term) (in_term h v.0 j y.term term v.2 q.in_term)
