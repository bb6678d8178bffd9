-- A leader of a later term has what a leader committed.
use Rattle.std.proofs.Common.{◌≡◌, ℕ, suc, zero, ◌+◌, ◌<◌, ◌≤◌, List, length, take, refl, ap, sym, subst, ⊎_elim, arith}
use Rattle.std.proofs.lemmas.Bool.{cases_lt}
use Rattle.rq_history.specs.History.{NodeId, EntryView, Node, History, Was, Candidate, Led, term_at, last_term}
use Rattle.rq_history.specs.Moves.{Held, IsUpToDate}
use Rattle.rq_history.specs.Quorum.{Quorum, HaveCommon}
use Rattle.rq_history.proofs.Claims.{Sound}
use Rattle.rq_history.specs.Votes.{Lost, Ballot, Election}
use Rattle.rq_history.specs.Commits.{DirectCommit}
use Rattle.rq_history.proofs.Quorums.{quorums_meet}
use Rattle.rq_history.proofs.Logs.{same_less, term_same, same_fits, prefix_same}
use Rattle.rq_history.proofs.Terms.{below, sorted}
use Rattle.rq_history.proofs.Origins.{origins, led_same}
use Rattle.rq_history.proofs.Ballots.{elections}

module _ {E : Type 0} (view : EntryView E) where
  module _ (voters : List E → List NodeId) where
    -- who is at least as new as a log that has the committed prefix has it, where the leaders of later terms have it
    newest : (h : History E) → Sound view voters h → (i v who : NodeId) (n : ℕ) (e x l : Node E) → Was h i e → Was h v x → Was h who l → IsUpToDate view e.log x.log
        → 0 < n → n ≤ length l.log → take n x.log ≡ take n l.log
        → ((k : NodeId) (m : ℕ) (w : Node E) → Led h k m w → term_at view l.log n < m → m ≤ last_term view e.log → take n w.log ≡ take n l.log)
        → (n ≤ length e.log) × (take n e.log ≡ take n l.log)
    newest h s i v who n e x l we wx wl newer some fits same later = ⊎_elim above equal newer
      where
        x_fits : n ≤ length x.log
        x_fits = same_fits l.log x.log n fits (sym same)

        equal : (last_term view x.log ≡ last_term view e.log) × (length x.log ≤ length e.log) → (n ≤ length e.log) × (take n e.log ≡ take n l.log)
        equal p =
            let o1 = origins view voters h s.0 i e we (length e.log) (omega (arith, p.1, x_fits)) (omega arith) in
            let o2 = origins view voters h s.0 v x wx (length x.log) (omega (arith, x_fits)) (omega arith) in
            let led : Led h o2.who (last_term view e.log) o2.leader = rw p.0 at o2.led in
            let q = led_same view voters h s o1.who o2.who (last_term view e.log) o1.leader o2.leader o1.led led n (omega (arith, o1.fits, p.1, x_fits)) (omega (arith, o2.fits, x_fits)) in
            let f : n ≤ length e.log = omega (arith, p.1, x_fits) in
            (f, cc (q, same, same_less o1.leader.log e.log (length e.log) n f o1.same, same_less o2.leader.log x.log (length x.log) n x_fits o2.same))

        above : last_term view x.log < last_term view e.log → (n ≤ length e.log) × (take n e.log ≡ take n l.log)
        above lt =
            let pos : 0 < length e.log = ⊎_elim (λ (p : 0 < length e.log). p) (λ (z : length e.log ≤ 0). absurd (omega (arith, lt, ap (term_at view e.log) (none (length e.log) z)))) (cases_lt 0 (length e.log)) in
            let o = origins view voters h s.0 i e we (length e.log) pos (omega arith) in
            let up = sorted view voters h s.0 v x wx n (length x.log) x_fits (omega arith) in
            let at_n = term_same view x.log l.log n n (omega arith) same in
            let has = later o.who (last_term view e.log) o.leader o.led (omega (arith, lt, up, at_n)) (omega arith) in
            let f : n ≤ length e.log = ⊎_elim
            (λ (short : length e.log < n). absurd (omega (
              arith,
              lt,
              up,
              at_n,
              term_same view o.leader.log e.log (length e.log) (length e.log) (omega arith) o.same,
              term_same view o.leader.log l.log n (length e.log) (omega arith) has,
              sorted view voters h s.0 who l wl (length e.log) n (omega arith) fits,
            )))
            (λ (long : n ≤ length e.log). long)
            (cases_lt (length e.log) n) in
            (f, cc (has, same_less o.leader.log e.log (length e.log) n f o.same))
          where
            none : (k : ℕ) → k ≤ 0 → k ≡ 0
            none k z = omega arith

    -- who stands has it, where its votes and the commit have a voter in common, and the leaders between have it
    pub candidate_has : (h : History E) → Sound view voters h → (t n u bound : ℕ) (j : NodeId) (l e : Node E) → DirectCommit view voters h t n l → Was h j e → e.role ≡ Candidate → e.term ≡ u → Quorum (voters e.log) (λ v. Ballot view h v j u bound e.log)
        → HaveCommon (voters l.log) (voters e.log) → t < u → u ≤ bound
        → ((k : NodeId) (m : ℕ) (w : Node E) → Led h k m w → t < m → m < bound → take n w.log ≡ take n l.log)
        → (n ≤ length e.log) × (take n e.log ≡ take n l.log)
    candidate_has h s t n u bound j l e d was cand in_u votes meet lt le later =
        let c = quorums_meet (voters l.log) (voters e.log) (λ v. Held h v t n l.log) (λ v. Ballot view h v j u bound e.log) meet d.quorum votes in
        with_common c.0 c.1 c.2
      where
        from : (v : NodeId) (b : Ballot view h v j u bound e.log) → take n b.voter.log ≡ take n l.log → (n ≤ length e.log) × (take n e.log ≡ take n l.log)
        from v b same = newest h s j v d.who n e b.voter l was b.was d.led.was b.newer d.some d.fits same
            (λ k m w led low high. later k m w led (omega (arith, d.own)) (omega (arith, (below view voters h s.0 j e was).of_candidate cand (length e.log), in_u)))

        with_common : (v : NodeId) → Held h v t n l.log → Ballot view h v j u bound e.log → (n ≤ length e.log) × (take n e.log ≡ take n l.log)
        with_common v hd b =
            let own : term_at view hd.holder.log n ≡ hd.holder.term = cc (term_same view hd.holder.log l.log n n (omega arith) hd.same, d.own, hd.in_term) in
            ⊎_elim
            (λ (keeps : take n b.voter.log ≡ take n hd.holder.log). from v b (cc (keeps, hd.same)))
            (λ (o : Lost h hd.holder.term bound n hd.holder.log). absurd (o.lacks (cc (
              hd.same,
              later o.who o.leader.term o.leader (record { was = o.was; leads = o.leads; in_term = refl }) (omega (arith, o.above, hd.in_term)) o.under,
            ))))
            (b.kept hd.holder n hd.was (omega (arith, hd.in_term)) d.some (same_fits l.log hd.holder.log n d.fits (sym hd.same)) own)

    -- one step: the two quorums have a voter in common, and the leaders between have it
    pub step : (h : History E) → Sound view voters h → (t n u : ℕ) (j : NodeId) (l z : Node E) → DirectCommit view voters h t n l → (e : Election view voters h j u z.log) → HaveCommon (voters l.log) (voters e.stood.log) → t < u
        → ((k : NodeId) (m : ℕ) (w : Node E) → Led h k m w → t < m → m < u → take n w.log ≡ take n l.log)
        → take n z.log ≡ take n l.log
    step h s t n u j l z d e meet lt later =
        let has = candidate_has h s t n u u j l e.stood d e.was e.stands e.in_term e.quorum meet lt (omega arith) later in
        cc (has.1, prefix_same e.stood.log z.log n has.0 e.prefix)

    complete_below : (h : History E) → Sound view voters h → ((a b : List E) → HaveCommon (voters a) (voters b)) → (k t n u : ℕ) (j : NodeId) (l z : Node E) → DirectCommit view voters h t n l → Led h j u z → t < u → u < k → take n z.log ≡ take n l.log
    complete_below h s meet zero t n u j l z d led lt le = absurd (omega arith)
    complete_below h s meet (suc k) t n u j l z d led lt le =
        let e : Election view voters h j u z.log = subst (λ (g : ℕ). Election view voters h j g z.log) led.in_term (elections view voters h s j z led.was led.leads) in
        step h s t n u j l z d e (meet l.log e.stood.log) lt (λ i m w led2 low high. complete_below h s meet k t n m i l w d led2 low (omega arith))

    -- a leader of a later term has what a leader has committed, before or after
    pub complete : (h : History E) → Sound view voters h → ((a b : List E) → HaveCommon (voters a) (voters b)) → (t n u : ℕ) (j : NodeId) (l z : Node E) → DirectCommit view voters h t n l → Led h j u z → t < u → take n z.log ≡ take n l.log
    complete h s meet t n u j l z d led lt = complete_below h s meet (u + 1) t n u j l z d led lt (omega arith)
