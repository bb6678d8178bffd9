-- The small runs are runs, and the wrong changes are none.
use Rattle.std.proofs.Common.{◌≡◌, Bool, true, false, List, [], ◌∷◌, length, refl, ap, sym, inl, inr, arith}
use Rattle.std.specs.Prelude.{bytes_eq, ◌||◌, Some, None}
use Rattle.std.specs.Cmp.Lexicographic.{bytes_decides}
use Rattle.std.proofs.lemmas.List.{length-take}
use Rattle.rq_history.specs.History.{NodeId, Follower, Candidate, Leader, Node, After, Was}
use Rattle.rq_history.specs.Quorum.{Quorum}
use Rattle.rq_history.specs.Configurations.{newest_voters, is_configuration}
use Rattle.rq_history.specs.Moves.{IsUpToDate, Move, Rise, Fall, Stand, Grant, Lead, Extend, Accept, Learn, Commit, Voted, Held}
use Rattle.rq_history.specs.Laws.{IsRun}
use Rattle.rq_history.specs.Examples.{Sample, sample, a, b, c, d, three, plain, change, node, stood, elected, copied, committed, changed, behind, succeeded, ExamplesAreRuns, VoteIsLost, OlderLogIsRefused, EarlierTermIsRefused, NeedlessCutIsRefused, EarlyChangeIsRefused}
use Rattle.rq_history.proofs.Quorums.{one_more}
use Rattle.rq_history.proofs.Statements.{one_leader}

-- what holds of a and of b holds of each of a set with these two
each_of : (P : NodeId → Type 0) (i j : NodeId) → P i → P j → (v : NodeId) → (bytes_eq v i || bytes_eq v j) ≡ true → P v
each_of P i j p q v e = go (bytes_eq v i) (bytes_eq v j) refl refl e
  where
    go : (s t : Bool) → bytes_eq v i ≡ s → bytes_eq v j ≡ t → (s || t) ≡ true → P v
    go true t vi vj h = rw ((bytes_decides v i).0 vi) p
    go false true vi vj h = rw ((bytes_decides v j).0 vj) q
    go false false vi vj h = absurd (cc)

two_of_three : (P : NodeId → Type 0) → P a → P b → Quorum three P
two_of_three P p q = record { in_set = λ v. bytes_eq v a || bytes_eq v b; most = omega arith; each = each_of P a b p q }

pub stood_run : IsRun sample three stood
stood_run = ((tt, Stand refl refl refl refl refl), Stand refl refl refl refl refl)

-- b's vote and a's own
a_and_b : Quorum three (λ v. Voted (After (After stood b (node 1 None Follower [] 0)) b (node 1 (Some a) Follower [] 0)) v a 1)
a_and_b = two_of_three (λ v. Voted (After (After stood b (node 1 None Follower [] 0)) b (node 1 (Some a) Follower [] 0)) v a 1)
    (record { ballot = node 1 (Some a) Candidate [] 0; was = inr (inr (inr (inl (refl, refl)))); in_term = refl; for_c = refl })
    (record { ballot = node 1 (Some a) Follower [] 0; was = inl (refl, refl); in_term = refl; for_c = refl })

pub elected_run : IsRun sample three elected
elected_run = (
  (
    (stood_run, Rise (omega arith) refl refl refl refl),
    Grant a (node 1 (Some a) Candidate [] 0) (inr (inr (inl (refl, refl)))) refl refl (inr (refl, omega arith)) refl refl refl refl refl refl,
  ),
  Lead refl a_and_b refl refl refl refl refl,
)

pub copied_run : IsRun sample three copied
copied_run = (
  (elected_run, Extend plain refl refl refl refl refl refl refl (λ e. absurd (cc))),
  Accept a (node 1 (Some a) Leader (plain ∷ []) 0) 1 (record { was = inl (refl, refl); leads = refl; in_term = refl }) (omega arith) (λ e. absurd (omega (arith, ap length e))) refl refl refl refl refl refl,
)

pub committed_run : IsRun sample three committed
committed_run = (
  (
    copied_run,
    Commit refl (omega arith) (omega arith) refl
        (two_of_three (λ v. Held copied v 1 1 (plain ∷ []))
        (record { holder = node 1 (Some a) Leader (plain ∷ []) 0; was = inr (inl (refl, refl)); in_term = refl; same = refl })
        (record { holder = node 1 (Some a) Follower (plain ∷ []) 0; was = inl (refl, refl); in_term = refl; same = refl }))
        refl refl refl refl,
  ),
  Learn a (node 1 (Some a) Leader (plain ∷ []) 1) (record { was = inl (refl, refl); leads = refl; in_term = refl }) (omega arith) (omega arith) refl refl refl refl refl refl,
)

pub changed_run : IsRun sample three changed
changed_run = (
  committed_run,
  Extend change refl refl refl refl refl refl refl (λ e. record { some = omega arith; own = refl; settled = omega arith; near = one_more three [] d }),
)

pub behind_run : IsRun sample three behind
behind_run = ((copied_run, Stand refl refl refl refl refl), Rise (omega arith) refl refl refl refl)

-- c's vote and b's own
b_and_c : Quorum three (λ v. Voted (After (After (After copied b (node 2 (Some b) Candidate (plain ∷ []) 0)) c (node 2 None Follower [] 0)) c (node 2 (Some b) Follower [] 0)) v b 2)
b_and_c = record {
  in_set = λ v. bytes_eq v b || bytes_eq v c;
  most = omega arith;
  each = each_of (λ v. Voted (After (After (After copied b (node 2 (Some b) Candidate (plain ∷ []) 0)) c (node 2 None Follower [] 0)) c (node 2 (Some b) Follower [] 0)) v b 2) b c
      (record { ballot = node 2 (Some b) Candidate (plain ∷ []) 0; was = inr (inr (inl (refl, refl))); in_term = refl; for_c = refl })
      (record { ballot = node 2 (Some b) Follower [] 0; was = inl (refl, refl); in_term = refl; for_c = refl });
}

pub succeeded_run : IsRun sample three succeeded
succeeded_run = (
  (
    ((copied_run, Stand refl refl refl refl refl), Rise (omega arith) refl refl refl refl),
    Grant b (node 2 (Some b) Candidate (plain ∷ []) 0) (inr (inl (refl, refl))) refl refl (inl (omega arith)) refl refl refl refl refl refl,
  ),
  Lead refl b_and_c refl refl refl refl refl,
)

pub examples : ExamplesAreRuns
examples = record { of_election = elected_run; of_commit = committed_run; of_change = changed_run; leads = refl; first_commit = refl; one_committed = refl; learned = refl }

pub vote_is_lost : VoteIsLost
vote_is_lost late run sub z led = differ (one_leader sample three late run c a 1 z (node 1 (Some a) Leader [] 0) led (record { was = sub a (node 1 (Some a) Leader [] 0) (inl (refl, refl)); leads = refl; in_term = refl }))
  where
    differ : c ≡ a → Prim.⊥
    differ e = let t = (bytes_decides c a).1 e in cc

not_earlier_term : Move sample (newest_voters sample three) succeeded b (node 2 (Some b) Leader (plain ∷ []) 0) (node 2 (Some b) Leader (plain ∷ []) 1) → Prim.⊥
not_earlier_term (Rise up vote role log commit) = omega arith
not_earlier_term (Fall term vote role log commit) = cc
not_earlier_term (Stand term vote role log commit) = omega arith
not_earlier_term (Grant i z was stands in_term newer none term vote role log commit) = cc
not_earlier_term (Lead stands votes term vote role log commit) = cc
not_earlier_term (Extend e leads own term vote role log commit may) = omega arith
not_earlier_term (Accept j z n led fits new follows term vote role log commit) = cc
not_earlier_term (Learn j z led covers fits same follows term vote role log) = cc
not_earlier_term (Commit leads up fits own copies term vote role log) = omega (arith, own)

pub earlier_term_is_refused : EarlierTermIsRefused
earlier_term_is_refused = record { before = succeeded_run; not_after = λ run. not_earlier_term run.1 }

-- who stood for term 2 there had an empty log
empty_log : (i : NodeId) (z : Node Sample) → Was behind i z → z.role ≡ Candidate → z.term ≡ 2 → z.log ≡ []
empty_log i z was stands in_two = go was
  where
    follower : (w : Node Sample) → z ≡ w → w.role ≡ Follower → z.log ≡ []
    follower w e r = absurd (no (ap (λ (n : Node Sample). n.role) e))
      where
        no : z.role ≡ w.role → Prim.⊥
        no q = cc

    leader : (w : Node Sample) → z ≡ w → w.role ≡ Leader → z.log ≡ []
    leader w e r = absurd (no (ap (λ (n : Node Sample). n.role) e))
      where
        no : z.role ≡ w.role → Prim.⊥
        no q = cc

    in_one : (w : Node Sample) → z ≡ w → w.term ≡ 1 → z.log ≡ []
    in_one w e t = absurd (omega (arith, ap (λ (n : Node Sample). n.term) e))

    go : Was behind i z → z.log ≡ []
    go (inl p) = follower (node 2 None Follower (plain ∷ []) 0) p.1 refl
    go (inr (inl p)) = ap (λ (n : Node Sample). n.log) p.1
    go (inr (inr (inl p))) = in_one (node 1 (Some a) Follower (plain ∷ []) 0) p.1 refl
    go (inr (inr (inr (inl p)))) = in_one (node 1 (Some a) Leader (plain ∷ []) 0) p.1 refl
    go (inr (inr (inr (inr (inl p))))) = in_one (node 1 (Some a) Leader [] 0) p.1 refl
    go (inr (inr (inr (inr (inr (inl p)))))) = in_one (node 1 (Some a) Follower [] 0) p.1 refl
    go (inr (inr (inr (inr (inr (inr (inl p))))))) = in_one (node 1 None Follower [] 0) p.1 refl
    go (inr (inr (inr (inr (inr (inr (inr (inl p)))))))) = in_one (node 1 (Some c) Candidate [] 0) p.1 refl
    go (inr (inr (inr (inr (inr (inr (inr (inr (inl p))))))))) = in_one (node 1 (Some a) Candidate [] 0) p.1 refl
    go (inr (inr (inr (inr (inr (inr (inr (inr (inr p))))))))) = ap (λ (n : Node Sample). n.log) p

not_newer : (log : List Sample) → log ≡ [] → IsUpToDate sample log (plain ∷ []) → Prim.⊥
not_newer log e newer = go (rw e at newer)
  where
    go : IsUpToDate sample [] (plain ∷ []) → Prim.⊥
    go (inl lt) = omega (arith, lt)
    go (inr p) = omega (arith, p.0)

not_older_log : Move sample (newest_voters sample three) behind b (node 2 None Follower (plain ∷ []) 0) (node 2 (Some c) Follower (plain ∷ []) 0) → Prim.⊥
not_older_log (Rise up vote role log commit) = omega arith
not_older_log (Fall term vote role log commit) = cc
not_older_log (Stand term vote role log commit) = omega arith
not_older_log (Grant i z was stands in_term newer none term vote role log commit) = not_newer z.log (empty_log i z was stands in_term) newer
not_older_log (Lead stands votes term vote role log commit) = cc
not_older_log (Extend e leads own term vote role log commit may) = cc
not_older_log (Accept j z n led fits new follows term vote role log commit) = cc
not_older_log (Learn j z led covers fits same follows term vote role log) = cc
not_older_log (Commit leads up fits own copies term vote role log) = cc

pub older_log_is_refused : OlderLogIsRefused
older_log_is_refused = record { before = behind_run; not_after = λ run. not_older_log run.1 }

not_needless_cut : Move sample (newest_voters sample three) copied b (node 1 (Some a) Follower (plain ∷ []) 0) (node 1 (Some a) Follower [] 0) → Prim.⊥
not_needless_cut (Rise up vote role log commit) = omega arith
not_needless_cut (Fall term vote role log commit) = omega (arith, ap length log)
not_needless_cut (Stand term vote role log commit) = omega arith
not_needless_cut (Grant i z was stands in_term newer none term vote role log commit) = cc
not_needless_cut (Lead stands votes term vote role log commit) = cc
not_needless_cut (Extend e leads own term vote role log commit may) = cc
not_needless_cut (Accept j z n led fits new follows term vote role log commit) =
    let none : n ≡ 0 = omega (arith, ap length log, length-take n z.log) in
    new (rw none refl)
not_needless_cut (Learn j z led covers fits same follows term vote role log) = omega (arith, ap length log)
not_needless_cut (Commit leads up fits own copies term vote role log) = cc

pub needless_cut_is_refused : NeedlessCutIsRefused
needless_cut_is_refused = record { before = copied_run; not_after = λ run. not_needless_cut run.1 }

not_early_change : Move sample (newest_voters sample three) copied a (node 1 (Some a) Leader (plain ∷ []) 0) (node 1 (Some a) Leader (plain ∷ change ∷ []) 0) → Prim.⊥
not_early_change (Rise up vote role log commit) = omega arith
not_early_change (Fall term vote role log commit) = cc
not_early_change (Stand term vote role log commit) = omega arith
not_early_change (Grant i z was stands in_term newer none term vote role log commit) = cc
not_early_change (Lead stands votes term vote role log commit) = cc
not_early_change (Extend e leads own term vote role log commit may) = omega (arith, (may (ap (λ (l : List Sample). is_configuration sample l 2) (sym log))).some)
not_early_change (Accept j z n led fits new follows term vote role log commit) = cc
not_early_change (Learn j z led covers fits same follows term vote role log) = cc
not_early_change (Commit leads up fits own copies term vote role log) = omega (arith, ap length log)

pub early_change_is_refused : EarlyChangeIsRefused
early_change_is_refused = record { before = copied_run; not_after = λ run. not_early_change run.1 }
