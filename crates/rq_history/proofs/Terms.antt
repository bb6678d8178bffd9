-- The terms of a log's entries.
use Rattle.std.proofs.Common.{◌≡◌, ◌≢◌, ◌⊎◌, ℕ, suc, zero, ◌+◌, ◌<◌, ◌≤◌, List, [], ◌∷◌, ◌++◌, length, take, inl, inr, ⊎_elim, arith}
use Rattle.std.proofs.lemmas.Bool.{cases_lt}
use Rattle.std.proofs.lemmas.List.{length-append, length-take}
use Rattle.rq_history.specs.History.{NodeId, EntryView, Node, History, Was, now, Candidate, term_at}
use Rattle.rq_history.specs.Moves.{Move, Lawful, Rise, Fall, Stand, Grant, Lead, Extend, Accept, Learn, Commit}
use Rattle.rq_history.proofs.Moments.{law_past, law_move, each, was_now}
use Rattle.rq_history.proofs.Logs.{push_cases, take_cases, term_take, term_pushed, term_new}

module _ {E : Type 0} (view : EntryView E) where
  module _ (voters : List E → List NodeId) where
    pub record Below (x : Node E) : Type 0 where
      pub terms : (n : ℕ) → term_at view x.log n ≤ x.term
      pub of_candidate : x.role ≡ Candidate → (n : ℕ) → term_at view x.log n < x.term

    below_same : (x y : Node E) → Below x → y.log ≡ x.log → x.term ≤ y.term → y.role ≢ Candidate → Below y
    below_same x y b e t r = record { terms = λ n. rw e (omega (arith, b.terms n)); of_candidate = λ q n. absurd (r q) }

    move_below : (h : History E) (i : NodeId) (x y : Node E) → ((j : NodeId) (z : Node E) → Was h j z → Below z) → Below x → Move view voters h i x y → Below y
    move_below h i x y all b (Rise up a r c d) = below_same x y b c (omega arith) (λ q. cc)
    move_below h i x y all b (Fall a c r d e) = below_same x y b d (omega arith) (λ q. cc)
    move_below h i x y all b (Stand a c d e f) = record { terms = λ n. rw e (omega (arith, b.terms n)); of_candidate = λ q n. rw e (omega (arith, b.terms n)) }
    move_below h i x y all b (Grant c z a d e f none g j k l m) = record { terms = λ n. rw l (omega (arith, b.terms n)); of_candidate = λ q n. rw l (omega (arith, b.of_candidate (cc) n)) }
    move_below h i x y all b (Lead a q c d e f g) = below_same x y b f (omega arith) (λ q. cc)
    move_below h i x y all b (Extend s a q c d e f g change) = record { terms = λ n. rw f (⊎_elim (λ same. omega (arith, b.terms n)) (λ new. omega (arith, new.1)) (push_cases view x.log s n)); of_candidate = λ q n. absurd (cc) }
    move_below h i x y all b (Accept j z n a c d e f g k l m) = record { terms = λ p. rw l (omega (arith, take_cases view z.log n p, (all j z a.was).terms p, a.in_term)); of_candidate = λ q p. absurd (cc) }
    move_below h i x y all b (Learn j z a c d e f g k m l) = below_same x y b l (omega arith) (λ q. cc)
    move_below h i x y all b (Commit a c d e f g k m l) = below_same x y b l (omega arith) (λ q. cc)

    -- no entry is of a term above the node's, and none of a candidate's own
    pub below : (h : History E) → Lawful view voters h → (i : NodeId) (x : Node E) → Was h i x → Below x
    below = each view voters (Lawful view voters) (law_past view voters) (law_move view voters) (λ h i x. Below x) (λ i. record { terms = λ n. start n; of_candidate = λ q n. absurd (cc) }) (λ h k y i x l w b. b)
        (λ h i y l ih m. move_below h i (now h i) y ih (ih i (now h i) (was_now h i)) m)
      where
        start : (n : ℕ) → term_at view [] n ≤ 0
        start zero = omega arith
        start (suc k) = omega arith

    abbrev pub IsSorted : List E → Type 0
    IsSorted log = (m n : ℕ) → m ≤ n → n ≤ length log → term_at view log m ≤ term_at view log n

    sorted_take : (a : List E) (k : ℕ) → IsSorted a → IsSorted (take k a)
    sorted_take a k s m n le fits =
        let lt = length-take k a in
        let a1 = term_take view a k m (omega arith) in
        let a2 = term_take view a k n (omega arith) in
        let o = s m n le (omega arith) in
        omega arith

    sorted_push : (a : List E) (e : E) → IsSorted a → ((n : ℕ) → term_at view a n ≤ view.term_of e) → IsSorted (a ++ e ∷ [])
    sorted_push a e s top m n le fits = go (cases_lt (length a) n)
      where
        go : (length a < n) ⊎ (n ≤ length a) → term_at view (a ++ e ∷ []) m ≤ term_at view (a ++ e ∷ []) n
        go (inr small) = omega (arith, s m n le small, term_pushed view a e n small, term_pushed view a e m (omega arith))
        go (inl big) =
            let eq : n ≡ length a + 1 = omega (arith, fits, length-append a (e ∷ [])) in
            let top_n : term_at view (a ++ e ∷ []) n ≡ view.term_of e = rw eq (term_new view a e) in
            ⊎_elim (λ (same : term_at view (a ++ e ∷ []) m ≡ term_at view a m). omega (arith, top m)) (λ (new : (m ≡ length a + 1) × (term_at view (a ++ e ∷ []) m ≡ view.term_of e)). omega (arith, new.1)) (push_cases view a e m)

    move_sorted : (h : History E) (i : NodeId) (x y : Node E) → ((j : NodeId) (z : Node E) → Was h j z → IsSorted z.log) → IsSorted x.log → Below x → Move view voters h i x y → IsSorted y.log
    move_sorted h i x y all b o (Rise up a r c d) = rw c b
    move_sorted h i x y all b o (Fall a c r d e) = rw d b
    move_sorted h i x y all b o (Stand a c d e f) = rw e b
    move_sorted h i x y all b o (Grant c z a d e f none g j k l m) = rw l b
    move_sorted h i x y all b o (Lead a q c d e f g) = rw f b
    move_sorted h i x y all b o (Extend s a q c d e f g change) = rw f (sorted_push x.log s b (λ n. omega (arith, o.terms n)))
    move_sorted h i x y all b o (Accept j z n a c d e f g k l m) = rw l (sorted_take z.log n (all j z a.was))
    move_sorted h i x y all b o (Learn j z a c d e f g k m l) = rw l b
    move_sorted h i x y all b o (Commit a c d e f g k m l) = rw l b

    -- terms never fall along a log
    pub sorted : (h : History E) → Lawful view voters h → (i : NodeId) (x : Node E) → Was h i x → IsSorted x.log
    sorted = each view voters (Lawful view voters) (law_past view voters) (law_move view voters) (λ h i x. IsSorted x.log) (λ i m n le fits. start m n le fits) (λ h k y i x l w b. b)
        (λ h i y l ih m. move_sorted h i (now h i) y ih (ih i (now h i) (was_now h i)) (below h l.0 i (now h i) (was_now h i)) m)
      where
        start : IsSorted []
        start m n le fits =
            let a : n ≡ 0 = omega arith in
            let b : m ≡ 0 = omega arith in
            rw (a, b) (omega arith)
