-- A leader that a quorum still followed at a moment knew then all that was committed.
use Rattle.std.proofs.Common.{◌≡◌, ◌⊎◌, ℕ, suc, zero, ◌+◌, ◌<◌, ◌≤◌, List, length, take, ap, sym, subst, ◌∙◌, inl, inr, ⊎_elim, arith}
use Rattle.std.proofs.lemmas.Bool.{cases_lt}
use Rattle.rq_history.specs.History.{NodeId, EntryView, Node, History, Was, now, Leader, Led, IsPrefixOf, term_at, WasBefore, IsEarlier}
use Rattle.rq_history.specs.Moves.{Held}
use Rattle.rq_history.specs.Quorum.{Quorum}
use Rattle.rq_history.proofs.Claims.{Whole}
use Rattle.rq_history.specs.Votes.{Ballot, Election}
use Rattle.rq_history.specs.Commits.{DirectCommit, Backing}
use Rattle.rq_history.specs.Configurations.{configuration_index}
use Rattle.rq_history.proofs.Moments.{ordered, was_now, held_on, led_on}
use Rattle.rq_history.proofs.Logs.{term_same, same_fits, prefix_same, prefix_trans}
use Rattle.rq_history.proofs.Quorums.{quorums_meet}
use Rattle.rq_history.proofs.Votes.{quorum_map}
use Rattle.rq_history.proofs.Terms.{below, sorted}
use Rattle.rq_history.proofs.Growth.{grows_now}
use Rattle.rq_history.proofs.Ballots.{one_stand2, elections}
use Rattle.rq_history.proofs.Backed.{backed}
use Rattle.rq_history.proofs.Changes.{changes, ready}
use Rattle.rq_history.proofs.Meets.{voters, AllChanged, Told, tells, has_all, logs_near}

module _ {E : Type 0} (view : EntryView E) where
  module _ (first : List NodeId) where
    direct_on : (h g : History E) (t n : ℕ) (l : Node E) → IsEarlier h g → DirectCommit view (voters view first) h t n l → DirectCommit view (voters view first) g t n l
    direct_on h g t n l later d = record {
      who = d.who;
      led = led_on h g d.who t l later d.led;
      some = d.some;
      fits = d.fits;
      own = d.own;
      reached = d.reached;
      quorum = quorum_map view (voters view first) (voters view first l.log) (λ v. Held h v t n l.log) (λ v. Held g v t n l.log) (λ v. held_on h g v t n l.log later) d.quorum;
    }

    abbrev told_on : (h g : History E) (log : List E) (c : ℕ) → IsEarlier h g → Told view first h log c → Told view first g log c
    told_on h g log c later d = record { n = d.n; leader = d.leader; direct = direct_on h g (term_at view log c) d.n d.leader later d.direct; covers = d.covers; short = d.short; same = d.same; near = d.near }

    all_changed : (h : History E) → Whole view (voters view first) h → AllChanged view first h
    all_changed h w = changes view (voters view first) h (w.0.0, ready view (voters view first) h w)

    -- h0 is an earlier moment; i leads term at it and still at h
    module _ (h0 h : History E) (w0 : Whole view (voters view first) h0) (w : Whole view (voters view first) h) (later : IsEarlier h0 h) (i : NodeId) (term : ℕ)
        (lead0 : (now h0 i).role ≡ Leader) (in0 : (now h0 i).term ≡ term) (lead : (now h i).role ≡ Leader) (in1 : (now h i).term ≡ term)
        (followed : Quorum (voters view first (now h i).log) (λ v. (z : Node E) → Was h0 v z → z.term ≤ term))
      where
        was0 : Was h0 i (now h0 i)
        was0 = was_now h0 i

        prefix : IsPrefixOf (now h0 i).log (now h i).log
        prefix = (grows_now view (voters view first) h w.0.0 i (now h0 i) (later i (now h0 i) was0) lead0 lead (in0 ∙ sym in1)).log

        -- a leader of this term before
        own : (k : NodeId) (z : Node E) → Led h0 k term z → IsPrefixOf z.log (now h i).log
        own k z led =
            let ki : k ≡ i = w0.0.1 k i term z (now h0 i) led (record { was = was0; leads = lead0; in_term = in0 }) in
            let g = grows_now view (voters view first) h0 w0.0.0 i z (subst (λ (j : NodeId). Was h0 j z) ki led.was) led.leads lead0 (led.in_term ∙ sym in0) in
            prefix_trans z.log (now h0 i).log (now h i).log g.log prefix

        -- what was committed before in a term up to this one is in its log
        has_direct : (t n : ℕ) (l : Node E) → t ≤ term → DirectCommit view (voters view first) h0 t n l → take n (now h i).log ≡ take n l.log
        has_direct t n l le d = ⊎_elim
            (λ (lt : t < term). w.1 t n term i l (now h i) (direct_on h0 h t n l later d) (record { was = was_now h i; leads = lead; in_term = in1 }) lt)
            (λ (ge : term ≤ t).
            let e : t ≡ term = omega arith in
            sym (prefix_same l.log (now h i).log n d.fits (own d.who l (subst (λ (u : ℕ). Led h0 d.who u l) e d.led))))
            (cases_lt t term)

        step : (t : ℕ) → term < t → ((u : ℕ) (k : NodeId) (z : Node E) → term < u → u < t → Led h0 k u z → Prim.⊥) → (k : NodeId) (z : Node E) → Led h0 k t z → Prim.⊥
        step t up none k z led =
            let e : Election view (voters view first) h0 k t z.log = subst (λ (g : ℕ). Election view (voters view first) h0 k g z.log) led.in_term (elections view (voters view first) h0 w0.0 k z led.was led.leads) in
            let f : Election view (voters view first) h k t z.log = subst (λ (g : ℕ). Election view (voters view first) h k g z.log) led.in_term (elections view (voters view first) h w.0 k z (later k z led.was) led.leads) in
            let same = stood_same e f in
            let meet = logs_near view first h w.0 k i e.stood (now h i) (later k e.stood e.was) (was_now h i)
            (λ pos.
            let g = tells view first h (all_changed h w) i (now h i) (was_now h i) pos in
            let low = (below view (voters view first) h w.0.0 i (now h i) (was_now h i)).terms (configuration_index view (now h i).log) in
            let has = has_all view first h w.0 (all_changed h w) t k f.stood f.was f.stands f.in_term (all_low t) t (omega arith) f.quorum (all_low t) (term_at view (now h i).log (configuration_index view (now h i).log)) g.n g.leader g.direct (omega (arith, low, in1, up)) in
            (g, ap (take g.n) same ∙ has ∙ g.same))
            (λ pos.
            let g = tells view first h0 (all_changed h0 w0) k e.stood e.was pos in
            let le = not_above (term_at view e.stood.log (configuration_index view e.stood.log)) g.direct.who g.leader (under e (configuration_index view e.stood.log)) g.direct.led in
            (told_on h0 h e.stood.log (configuration_index view e.stood.log) later g, has_direct (term_at view e.stood.log (configuration_index view e.stood.log)) g.n g.leader le g.direct ∙ g.same)) in
            let c = quorums_meet (voters view first e.stood.log) (voters view first (now h i).log) (λ v. Ballot view h0 v k t t e.stood.log) (λ v. (x : Node E) → Was h0 v x → x.term ≤ term) meet e.quorum followed in
            too_late c.0 c.1 c.2
          where
            too_late : (v : NodeId) {log : List E} → Ballot view h0 v k t t log → ((x : Node E) → Was h0 v x → x.term ≤ term) → Prim.⊥
            too_late v b f = let a = f b.voted.ballot b.voted.was in omega (arith, b.voted.in_term)

            stood_same : (e : Election view (voters view first) h0 k t z.log) (f : Election view (voters view first) h k t z.log) → e.stood.log ≡ f.stood.log
            stood_same e f = ⊎_elim
                (λ (b : WasBefore h k e.stood f.stood). one_stand2 view (voters view first) h w.0.0 k e.stood f.stood b e.stands f.stands (e.in_term ∙ sym f.in_term))
                (λ (b : WasBefore h k f.stood e.stood). sym (one_stand2 view (voters view first) h w.0.0 k f.stood e.stood b f.stands e.stands (f.in_term ∙ sym e.in_term)))
                (ordered h k e.stood f.stood (later k e.stood e.was) f.was)

            all_low : (bound t2 n2 : ℕ) (l2 : Node E) → DirectCommit view (voters view first) h t2 n2 l2 → (j : NodeId) (m : ℕ) (y : Node E) → Led h j m y → t2 < m → m < bound → take n2 y.log ≡ take n2 l2.log
            all_low bound t2 n2 l2 d2 j m y led2 a c = w.1 t2 n2 m j l2 y d2 led2 a

            under : (e : Election view (voters view first) h0 k t z.log) (n : ℕ) → term_at view e.stood.log n < t
            under e n = omega (arith, (below view (voters view first) h0 w0.0.0 k e.stood e.was).of_candidate e.stands n, e.in_term)

            not_above : (u : ℕ) (j : NodeId) (y : Node E) → u < t → Led h0 j u y → u ≤ term
            not_above u j y lt led2 = ⊎_elim (λ (p : term < u). absurd (none u j y p lt led2)) (λ (p : u ≤ term). p) (cases_lt term u)

        -- nobody led a later term before
        none_before : (b t : ℕ) (k : NodeId) (z : Node E) → t < b → term < t → Led h0 k t z → Prim.⊥
        none_before zero t k z tb up led = omega arith
        none_before (suc b) t k z tb up led = step t up (λ u j y a c l. none_before b u j y (omega arith) a l) k z led

        pub covers : (at : ℕ) → 0 < at → (at ≤ length (now h0 i).log → term_at view (now h0 i).log at ≡ term) → (j : NodeId) (x : Node E) → Was h0 j x → (x.commit < at) ⊎ (x.commit ≤ (now h0 i).commit)
        covers at some is j x wx = ⊎_elim
            (λ (z : x.commit ≡ 0). inl (omega arith))
            (λ (g : Backing view (voters view first) h0 x). ⊎_elim
            (λ (lt : g.term < term).
            let has = w0.1 g.term g.n term i g.leader (now h0 i) g.direct (record { was = was0; leads = lead0; in_term = in0 }) lt in
            let e = term_same view (now h0 i).log g.leader.log g.n g.n (omega arith) has in
            let fit = same_fits g.leader.log (now h0 i).log g.n g.direct.fits (sym has) in
            inl (⊎_elim (λ (p : g.n < at). omega (arith, g.covers))
            (λ (p : at ≤ g.n). absurd (omega (arith, e, g.direct.own, is (omega (arith, p, fit)), sorted view (voters view first) h0 w0.0.0 i (now h0 i) was0 at g.n p fit)))
            (cases_lt g.n at)))
            (λ (ge : term ≤ g.term). ⊎_elim
            (λ (up : term < g.term). absurd (none_before (g.term + 1) g.term g.direct.who g.leader (omega arith) up g.direct.led))
            (λ (le : g.term ≤ term).
            let e : g.term ≡ term = omega arith in
            let led : Led h0 g.direct.who term g.leader = subst (λ (u : ℕ). Led h0 g.direct.who u g.leader) e g.direct.led in
            let ki : g.direct.who ≡ i = w0.0.1 g.direct.who i term g.leader (now h0 i) led (record { was = was0; leads = lead0; in_term = in0 }) in
            let up = grows_now view (voters view first) h0 w0.0.0 i g.leader (subst (λ (k : NodeId). Was h0 k g.leader) ki g.direct.led.was) g.direct.led.leads lead0 (led.in_term ∙ sym in0) in
            inr (omega (arith, g.covers, g.direct.reached, up.commit)))
            (cases_lt term g.term))
            (cases_lt g.term term))
            (backed view (voters view first) h0 w0 j x wx).by_leader
