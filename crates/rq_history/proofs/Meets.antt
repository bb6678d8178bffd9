-- Quorums of configurations that change one at a time meet where they must.
use Rattle.std.proofs.Common.{◌≡◌, ◌≢◌, ◌⊎◌, ℕ, suc, zero, ◌+◌, ◌-◌, ◌<◌, ◌≤◌, true, List, length, take, refl, ap, sym, subst, ◌∙◌, inl, inr, ⊎_elim, arith}
use Rattle.std.proofs.lemmas.Bool.{cases_lt}
use Rattle.std.proofs.lemmas.List.{length-take, take-take}
use Rattle.std.proofs.lemmas.List.{length-take-le}
use Rattle.rq_history.specs.History.{NodeId, EntryView, Node, History, Was, Candidate, Led, term_at, last_term}
use Rattle.rq_history.specs.Quorum.{Quorum, HaveCommon}
use Rattle.rq_history.proofs.Claims.{Sound, Changed}
use Rattle.rq_history.specs.Votes.{Ballot}
use Rattle.rq_history.specs.Commits.{DirectCommit}
use Rattle.rq_history.specs.Configurations.{newest_voters, is_configuration, configuration_index}
use Rattle.rq_history.proofs.Logs.{same_less, term_same, same_fits, term_take}
use Rattle.rq_history.proofs.Quorums.{in_one, common_swap}
use Rattle.rq_history.proofs.Terms.{below, sorted}
use Rattle.rq_history.proofs.Origins.{origins, led_same}
use Rattle.rq_history.proofs.Kept.{same_or_not}
use Rattle.rq_history.proofs.Complete.{candidate_has}
use Rattle.rq_history.proofs.Configs.{index_fits, index_is, index_within, voters_same, voters_take}

module _ {E : Type 0} (view : EntryView E) where
  module _ (first : List NodeId) where
    abbrev pub voters : List E → List NodeId
    voters log = newest_voters view first log

    -- each configuration of each log was appended after the one before had been committed
    abbrev pub AllChanged : History E → Type 0
    AllChanged h = (i : NodeId) (x : Node E) → Was h i x → (c : ℕ) → 0 < c → c ≤ length x.log → is_configuration view x.log c ≡ true → Changed view voters h (take c x.log)

    -- what a change at index c tells, without its prefix
    pub record Told (h : History E) (log : List E) (c : ℕ) : Type 0 where
      pub n : ℕ
      pub leader : Node E
      pub direct : DirectCommit view voters h (term_at view log c) n leader
      pub covers : configuration_index view (take (c - 1) log) ≤ n
      pub short : length leader.log < c
      pub same : take n leader.log ≡ take n log
      pub near : HaveCommon (voters (take (c - 1) log)) (voters log)

    pub tells : (h : History E) → AllChanged h → (i : NodeId) (x : Node E) → Was h i x → 0 < configuration_index view x.log → Told h x.log (configuration_index view x.log)
    tells h all i x w pos = go (configuration_index view x.log) pos (index_fits view x.log) (index_is view x.log pos) (omega arith)
      where
        go : (c : ℕ) → 0 < c → c ≤ length x.log → is_configuration view x.log c ≡ true → configuration_index view x.log ≤ c → Told h x.log c
        go c pos fits is top =
            let d = all i x w c pos fits is in
            let len : length (take c x.log) ≡ c = length-take-le c x.log fits in
            let last : last_term view (take c x.log) ≡ term_at view x.log c = ap (term_at view (take c x.log)) len ∙ term_take view x.log c c (omega arith) in
            let cut : take (length (take c x.log) - 1) (take c x.log) ≡ take (c - 1) x.log = ap (λ (k : ℕ). take (k - 1) (take c x.log)) len ∙ take-take (c - 1) c x.log (omega arith) in
            record {
              n = d.n;
              leader = d.leader;
              direct = subst (λ (k : ℕ). DirectCommit view voters h k d.n d.leader) last d.direct;
              covers = subst (λ (l : List E). configuration_index view l ≤ d.n) cut d.covers;
              short = omega (arith, d.short, len);
              same = d.same ∙ take-take d.n c x.log (omega (arith, d.short, d.direct.fits, len));
              near = subst (λ (l : List E). HaveCommon (voters l) (voters x.log)) cut (subst (λ (vs : List NodeId). HaveCommon (voters (take (length (take c x.log) - 1) (take c x.log))) vs) (voters_take view first x.log c fits top) d.near);
            }

    common_same : (a b : List E) → voters a ≡ voters b → HaveCommon (voters a) (voters b)
    common_same a b e = subst (λ (vs : List NodeId). HaveCommon (voters a) vs) e (in_one (voters a))

    -- a leader of term t has committed n entries, and the leaders between have them
    module _ (h : History E) (s : Sound view voters h) (all : AllChanged h) (u : ℕ) (j : NodeId) (e : Node E) (was : Was h j e) (cand : e.role ≡ Candidate) (in_u : e.term ≡ u)
        (low : (t n : ℕ) (l : Node E) → DirectCommit view voters h t n l → (k : NodeId) (m : ℕ) (w : Node E) → Led h k m w → t < m → m < u → take n w.log ≡ take n l.log)
      where
        under : (n : ℕ) → term_at view e.log n < u
        under n = omega (arith, (below view voters h s.0 j e was).of_candidate cand n, in_u)

        -- e can't lack it and have an entry of term t or later behind it
        no_later : (t n m d : ℕ) (l : Node E) → DirectCommit view voters h t n l → t < u → 0 < m → m ≤ n → m ≤ d → d ≤ length e.log → t ≤ term_at view e.log d → take m e.log ≢ take m l.log → Prim.⊥
        no_later t n m d l dir lt pos mn md fits le lacks =
            let o = origins view voters h s.0 j e was d (omega arith) fits in
            let me = same_less o.leader.log e.log d m md o.same in
            ⊎_elim
            (λ (up : t < term_at view e.log d).
            let has = low t n l dir o.who (term_at view e.log d) o.leader o.led up (under d) in
            lacks (cc (me, same_less o.leader.log l.log n m mn has)))
            (λ (eq : term_at view e.log d ≤ t).
            let led : Led h o.who t o.leader = record { was = o.led.was; leads = o.led.leads; in_term = omega (arith, o.led.in_term) } in
            let has = led_same view voters h s o.who dir.who t o.leader l led dir.led m (omega (arith, o.fits)) (omega (arith, dir.fits)) in
            lacks (cc (me, has)))
            (cases_lt t (term_at view e.log d))

        pub meets : (t n k : ℕ) (l : Node E) → DirectCommit view voters h t n l → t < u → suc k ≤ n → take k e.log ≡ take k l.log → take (suc k) e.log ≢ take (suc k) l.log
            → ((t2 n2 : ℕ) (l2 : Node E) → DirectCommit view voters h t2 n2 l2 → t2 < t → suc k ≤ n2 → take (suc k) e.log ≡ take (suc k) l2.log)
            → ((n2 : ℕ) (l2 : Node E) → DirectCommit view voters h t n2 l2 → configuration_index view l2.log < configuration_index view l.log → suc k ≤ n2 → take (suc k) e.log ≡ take (suc k) l2.log)
            → HaveCommon (voters l.log) (voters e.log)
        meets t n k l dir lt kn prev lacks less_term less_conf = ⊎_elim case1 case2 (flip (cases_lt k c))
          where
            c : ℕ
            c = configuration_index view l.log

            d : ℕ
            d = configuration_index view e.log

            flip : {A B : Type 0} → A ⊎ B → B ⊎ A
            flip (inl a) = inr a
            flip (inr b) = inl b

            c_fits : c ≤ length l.log
            c_fits = index_fits view l.log

            d_fits : d ≤ length e.log
            d_fits = index_fits view e.log

            k_fits : k ≤ length e.log
            k_fits = same_fits l.log e.log k (omega (arith, dir.fits)) (sym prev)

            -- the entries that the last change of e rests on are in l
            of_e : (g : Told h e.log d) → term_at view e.log d < t → take g.n e.log ≡ take g.n l.log
            of_e g small = sym g.same ∙ sym (low (term_at view e.log d) g.n g.leader g.direct dir.who t l dir.led small lt)

            case1 : c ≤ k → HaveCommon (voters l.log) (voters e.log)
            case1 ck = ⊎_elim
                (λ (dk : d ≤ k).
                let a = index_within view e.log l.log k dk prev (omega (arith, dir.fits)) in
                let b = index_within view l.log e.log k ck (sym prev) (omega (arith, k_fits)) in
                common_same l.log e.log (voters_same view first l.log e.log k ck (sym prev) (omega arith)))
                (λ (kd : k < d).
                let g = tells h all j e was (omega arith) in
                ⊎_elim
                (λ (small : term_at view e.log d < t).
                let same = of_e g small in
                let cut = take-take g.n (d - 1) e.log (omega (arith, g.short, g.direct.fits)) in
                let cutk = take-take k (d - 1) e.log (omega arith) in
                let fit = same_fits e.log l.log g.n (omega (arith, d_fits, g.short, g.direct.fits)) same in
                let a = index_within view (take (d - 1) e.log) l.log g.n g.covers (cut ∙ same) (omega (arith, g.covers)) in
                let b = index_within view l.log (take (d - 1) e.log) k ck (sym (cutk ∙ prev)) (omega (arith, length-take (d - 1) e.log, d_fits)) in
                let vs = voters_same view first l.log (take (d - 1) e.log) k ck (sym (cutk ∙ prev)) (omega arith) in
                subst (λ (x : List NodeId). HaveCommon x (voters e.log)) (sym vs) g.near)
                (λ (big : t ≤ term_at view e.log d). absurd (no_later t n (suc k) d l dir lt (omega arith) kn kd d_fits big lacks))
                (cases_lt (term_at view e.log d) t))
                (flip (cases_lt k d))

            case2 : k < c → HaveCommon (voters l.log) (voters e.log)
            case2 kc =
                let g = tells h all dir.who l dir.led.was (omega arith) in
                let tc : term_at view l.log c ≤ t = omega (arith, (below view voters h s.0 dir.who l dir.led.was).terms c, dir.led.in_term) in
                ⊎_elim
                (λ (big : suc k ≤ g.n).
                let has : take (suc k) e.log ≡ take (suc k) g.leader.log = ⊎_elim
                (λ (small : term_at view l.log c < t). less_term (term_at view l.log c) g.n g.leader g.direct small big)
                (λ (eq : t ≤ term_at view l.log c).
                let q : term_at view l.log c ≡ t = omega arith in
                less_conf g.n g.leader (subst (λ (x : ℕ). DirectCommit view voters h x g.n g.leader) q g.direct) (omega (arith, index_fits view g.leader.log, g.short)) big)
                (cases_lt (term_at view l.log c) t) in
                absurd (lacks (has ∙ same_less g.leader.log l.log g.n (suc k) big g.same)))
                (λ (small : g.n ≤ k). near g tc small kc)
                (cases_lt k g.n)
              where
                near : (g : Told h l.log c) → term_at view l.log c ≤ t → g.n ≤ k → k < c → HaveCommon (voters l.log) (voters e.log)
                near g tc small kc = ⊎_elim
                    (λ (dk : d ≤ k).
                    let cutk = take-take k (c - 1) l.log (omega arith) in
                    let a = index_within view e.log (take (c - 1) l.log) k dk (prev ∙ sym cutk) (omega (arith, length-take (c - 1) l.log, c_fits)) in
                    let b = index_within view (take (c - 1) l.log) e.log k (omega (arith, g.covers)) (cutk ∙ sym prev) (omega (arith, g.covers, k_fits)) in
                    let vs = voters_same view first e.log (take (c - 1) l.log) k dk (prev ∙ sym cutk) (omega arith) in
                    common_swap (voters e.log) (voters l.log) (subst (λ (x : List NodeId). HaveCommon x (voters l.log)) (sym vs) g.near))
                    (λ (kd : k < d). absurd (never kd))
                    (flip (cases_lt k d))
                  where
                    never : k < d → Prim.⊥
                    never kd = ⊎_elim
                        (λ (less : term_at view e.log d < t).
                        let f = tells h all j e was (omega arith) in
                        let same = of_e f less in
                        ⊎_elim
                        (λ (big : k < f.n). lacks (same_less e.log l.log f.n (suc k) big same))
                        (λ (le : f.n ≤ k).
                        let e_at = term_same view e.log l.log k g.n small prev in
                        let l_at = term_same view g.leader.log l.log g.n g.n (omega arith) g.same in
                        let up = sorted view voters h s.0 j e was g.n d (omega arith) d_fits in
                        let f_at = term_same view f.leader.log e.log f.n f.n (omega arith) f.same in
                        let l_at2 = term_same view e.log l.log f.n f.n (omega arith) same in
                        let down = sorted view voters h s.0 dir.who l dir.led.was f.n c (omega arith) c_fits in
                        let eq : term_at view e.log d ≡ term_at view l.log c = omega (arith, e_at, l_at, up, f_at, l_at2, down, g.direct.own, f.direct.own) in
                        let od = origins view voters h s.0 j e was d (omega arith) d_fits in
                        let oc = origins view voters h s.0 dir.who l dir.led.was c (omega arith) c_fits in
                        let led : Led h oc.who (term_at view e.log d) oc.leader = record { was = oc.led.was; leads = oc.led.leads; in_term = oc.led.in_term ∙ sym eq } in
                        let one = led_same view voters h s od.who oc.who (term_at view e.log d) od.leader oc.leader od.led led (suc k) (omega (arith, od.fits)) (omega (arith, oc.fits)) in
                        lacks (cc (one, same_less od.leader.log e.log d (suc k) kd od.same, same_less oc.leader.log l.log c (suc k) kc oc.same)))
                        (cases_lt k f.n))
                        (λ (big : t ≤ term_at view e.log d). no_later t n (suc k) d l dir lt (omega arith) kn kd d_fits big lacks)
                        (cases_lt (term_at view e.log d) t)

        -- e has what leaders of lower terms committed, index by index, and at each by terms and then by configurations
        module _ (bound : ℕ) (wide : u ≤ bound) (votes : Quorum (voters e.log) (λ v. Ballot view h v j u bound e.log))
            (low2 : (t n : ℕ) (l : Node E) → DirectCommit view voters h t n l → (k : NodeId) (m : ℕ) (w : Node E) → Led h k m w → t < m → m < bound → take n w.log ≡ take n l.log)
          where
            decide : (t n k : ℕ) (l : Node E) → DirectCommit view voters h t n l → t < u → suc k ≤ n → take k e.log ≡ take k l.log
                → ((t2 n2 : ℕ) (l2 : Node E) → DirectCommit view voters h t2 n2 l2 → t2 < t → suc k ≤ n2 → take (suc k) e.log ≡ take (suc k) l2.log)
                → ((n2 : ℕ) (l2 : Node E) → DirectCommit view voters h t n2 l2 → configuration_index view l2.log < configuration_index view l.log → suc k ≤ n2 → take (suc k) e.log ≡ take (suc k) l2.log)
                → take (suc k) e.log ≡ take (suc k) l.log
            decide t n k l dir lt kn prev less_term less_conf = ⊎_elim
                (λ (p : (suc k ≤ length e.log) × (take (suc k) e.log ≡ take (suc k) l.log)). p.1)
                (λ (lacks : take (suc k) e.log ≢ take (suc k) l.log).
                let meet = meets t n k l dir lt kn prev lacks less_term less_conf in
                let has = candidate_has view voters h s t n u bound j l e dir was cand in_u votes meet lt wide (λ k2 m w. low2 t n l dir k2 m w) in
                same_less e.log l.log n (suc k) kn has.1)
                (same_or_not view voters h s dir.who j l e dir.led.was was (suc k) (omega (arith, dir.fits)))

            by_conf : (c t k : ℕ) → ((n : ℕ) (l : Node E) → DirectCommit view voters h t n l → k ≤ n → take k e.log ≡ take k l.log)
                → ((t2 n2 : ℕ) (l2 : Node E) → DirectCommit view voters h t2 n2 l2 → t2 < t → suc k ≤ n2 → take (suc k) e.log ≡ take (suc k) l2.log)
                → (n : ℕ) (l : Node E) → DirectCommit view voters h t n l → t < u → configuration_index view l.log < c → suc k ≤ n → take (suc k) e.log ≡ take (suc k) l.log
            by_conf zero t k prev less n l dir lt cl kn = absurd (omega arith)
            by_conf (suc c) t k prev less n l dir lt cl kn = decide t n k l dir lt kn (prev n l dir (omega arith)) less
                (λ n2 l2 dir2 cl2 kn2. by_conf c t k prev less n2 l2 dir2 lt (omega arith) kn2)

            by_term : (b k : ℕ) → ((t n : ℕ) (l : Node E) → DirectCommit view voters h t n l → t < u → k ≤ n → take k e.log ≡ take k l.log)
                → (t n : ℕ) (l : Node E) → DirectCommit view voters h t n l → t < u → t < b → suc k ≤ n → take (suc k) e.log ≡ take (suc k) l.log
            by_term zero k prev t n l dir lt tb kn = absurd (omega arith)
            by_term (suc b) k prev t n l dir lt tb kn = by_conf (configuration_index view l.log + 1) t k (λ n2 l2 dir2 kn2. prev t n2 l2 dir2 lt kn2)
                (λ t2 n2 l2 dir2 less kn2. by_term b k prev t2 n2 l2 dir2 (omega arith) (omega arith) kn2) n l dir lt (omega arith) kn

            by_index : (m t n : ℕ) (l : Node E) → DirectCommit view voters h t n l → t < u → m ≤ n → take m e.log ≡ take m l.log
            by_index zero t n l dir lt mn = refl
            by_index (suc k) t n l dir lt mn = by_term u k (by_index k) t n l dir lt lt mn

            pub has_all : (t n : ℕ) (l : Node E) → DirectCommit view voters h t n l → t < u → take n e.log ≡ take n l.log
            has_all t n l dir lt = by_index n t n l dir lt (omega arith)

    -- of two logs, the one has what the last change of the other rests on
    near_or_same : (h : History E) → Sound view voters h → (i j : NodeId) (e f : Node E) → Was h i e → Was h j f → (g : Told h f.log (configuration_index view f.log)) → take g.n e.log ≡ take g.n f.log
        → term_at view e.log (configuration_index view e.log) ≤ term_at view f.log (configuration_index view f.log) → (0 < configuration_index view e.log → 0 < configuration_index view f.log → term_at view e.log (configuration_index view e.log) ≡ term_at view f.log (configuration_index view f.log) → configuration_index view e.log ≤ configuration_index view f.log)
        → 0 < configuration_index view f.log → HaveCommon (voters e.log) (voters f.log)
    near_or_same h s i j e f we wf g same le tie pos =
        ⊎_elim (λ (big : g.n < d). by_terms g same big) (λ (small : d ≤ g.n). joined g same small) (cases_lt g.n d)
      where
        d : ℕ
        d = configuration_index view e.log

        c : ℕ
        c = configuration_index view f.log

        c_fits : c ≤ length f.log
        c_fits = index_fits view f.log

        d_fits : d ≤ length e.log
        d_fits = index_fits view e.log

        -- the newest one of e stands in f before its newest one
        joined : (g : Told h f.log c) → take g.n e.log ≡ take g.n f.log → d ≤ g.n → HaveCommon (voters e.log) (voters f.log)
        joined g same small =
            let cut = take-take g.n (c - 1) f.log (omega (arith, g.short, g.direct.fits)) in
            let a = index_within view e.log (take (c - 1) f.log) g.n small (same ∙ sym cut) (omega (arith, length-take (c - 1) f.log, c_fits, g.short, g.direct.fits)) in
            let fit = same_fits f.log e.log g.n (omega (arith, c_fits, g.short, g.direct.fits)) (sym same) in
            let b = index_within view (take (c - 1) f.log) e.log g.n g.covers (cut ∙ sym same) (omega (arith, g.covers, fit)) in
            let vs = voters_same view first e.log (take (c - 1) f.log) g.n small (same ∙ sym cut) (omega arith) in
            subst (λ (x : List NodeId). HaveCommon x (voters f.log)) (sym vs) g.near

        by_terms : (g : Told h f.log c) → take g.n e.log ≡ take g.n f.log → g.n < d → HaveCommon (voters e.log) (voters f.log)
        by_terms g same big =
            let up = sorted view voters h s.0 i e we g.n d (omega arith) d_fits in
            let e_at = term_same view e.log f.log g.n g.n (omega arith) same in
            let f_at = term_same view g.leader.log f.log g.n g.n (omega arith) g.same in
            let eq : term_at view e.log d ≡ term_at view f.log c = omega (arith, up, e_at, f_at, g.direct.own) in
            let oe = origins view voters h s.0 i e we d (omega arith) d_fits in
            let og = origins view voters h s.0 j f wf c pos c_fits in
            let dc = tie (omega arith) pos eq in
            let led : Led h og.who (term_at view e.log d) og.leader = record { was = og.led.was; leads = og.led.leads; in_term = og.led.in_term ∙ sym eq } in
            let one = led_same view voters h s oe.who og.who (term_at view e.log d) oe.leader og.leader oe.led led d oe.fits (omega (arith, og.fits)) in
            let ef : take d e.log ≡ take d f.log = cc (one, oe.same, same_less og.leader.log f.log c d dc og.same) in
            ⊎_elim
            (λ (lt : d < c).
            let cut = take-take d (c - 1) f.log (omega arith) in
            let a = index_within view e.log (take (c - 1) f.log) d (omega arith) (ef ∙ sym cut) (omega (arith, length-take (c - 1) f.log, c_fits)) in
            absurd (omega (arith, a, g.covers)))
            (λ (ge : c ≤ d). common_same e.log f.log (voters_same view first e.log f.log d (omega arith) ef (omega arith)))
            (cases_lt d c)

    -- two logs, each of which has what the last change of the other rests on: their configurations are the same or neighbours
    pub logs_near : (h : History E) → Sound view voters h → (i j : NodeId) (e f : Node E) → Was h i e → Was h j f
        → (0 < configuration_index view f.log → (g : Told h f.log (configuration_index view f.log)) × (take g.n e.log ≡ take g.n f.log))
        → (0 < configuration_index view e.log → (g : Told h e.log (configuration_index view e.log)) × (take g.n f.log ≡ take g.n e.log))
        → HaveCommon (voters e.log) (voters f.log)
    logs_near h s i j e f we wf of_f of_e = go (cases_lt 0 c) (cases_lt 0 d) (cases_lt (term_at view e.log d) (term_at view f.log c)) (cases_lt (term_at view f.log c) (term_at view e.log d)) (cases_lt c d)
      where
        d : ℕ
        d = configuration_index view e.log

        c : ℕ
        c = configuration_index view f.log

        zero_at : (log : List E) (k : ℕ) → k ≤ 0 → term_at view log k ≡ 0
        zero_at log zero z = refl
        zero_at log (suc k) z = absurd (omega arith)

        f_on_e : 0 < c → term_at view e.log d ≤ term_at view f.log c → (0 < d → 0 < c → term_at view e.log d ≡ term_at view f.log c → d ≤ c) → HaveCommon (voters e.log) (voters f.log)
        f_on_e pos le tie = let g = of_f pos in near_or_same h s i j e f we wf g.0 g.1 le tie pos

        e_on_f : 0 < d → term_at view f.log c ≤ term_at view e.log d → (0 < c → 0 < d → term_at view f.log c ≡ term_at view e.log d → c ≤ d) → HaveCommon (voters e.log) (voters f.log)
        e_on_f pos le tie = let g = of_e pos in common_swap (voters f.log) (voters e.log) (near_or_same h s j i f e wf we g.0 g.1 le tie pos)

        go : (0 < c) ⊎ (c ≤ 0) → (0 < d) ⊎ (d ≤ 0) → (term_at view e.log d < term_at view f.log c) ⊎ (term_at view f.log c ≤ term_at view e.log d) → (term_at view f.log c < term_at view e.log d) ⊎ (term_at view e.log d ≤ term_at view f.log c) → (c < d) ⊎ (d ≤ c) → HaveCommon (voters e.log) (voters f.log)
        go (inr c0) (inr d0) p q r = common_same e.log f.log (voters_same view first e.log f.log 0 d0 refl (omega arith))
        go (inl cp) (inr d0) p q r = f_on_e cp (omega (arith, zero_at e.log d d0)) (λ dp. absurd (omega arith))
        go (inr c0) (inl dp) p q r = e_on_f dp (omega (arith, zero_at f.log c c0)) (λ cp. absurd (omega arith))
        go (inl cp) (inl dp) (inl lt) q r = f_on_e cp (omega arith) (λ a b e. absurd (omega arith))
        go (inl cp) (inl dp) (inr ge) (inl lt) r = e_on_f dp (omega arith) (λ a b e. absurd (omega arith))
        go (inl cp) (inl dp) (inr ge) (inr le) (inl cd) = e_on_f dp ge (λ a b e. omega arith)
        go (inl cp) (inl dp) (inr ge) (inr le) (inr dc) = f_on_e cp le (λ a b e. dc)

    -- two that stand in one term, each with what was committed before
    pub stand_near : (h : History E) → Sound view voters h → AllChanged h → (u : ℕ) (i j : NodeId) (e f : Node E) → Was h i e → Was h j f
        → ((t n : ℕ) (l : Node E) → DirectCommit view voters h t n l → t < u → take n e.log ≡ take n l.log)
        → ((t n : ℕ) (l : Node E) → DirectCommit view voters h t n l → t < u → take n f.log ≡ take n l.log)
        → ((n : ℕ) → term_at view e.log n < u) → ((n : ℕ) → term_at view f.log n < u) → HaveCommon (voters e.log) (voters f.log)
    stand_near h s all u i j e f we wf he hf ue uf = logs_near h s i j e f we wf
        (λ pos. let g = tells h all j f wf pos in (g, he (term_at view f.log (configuration_index view f.log)) g.n g.leader g.direct (uf (configuration_index view f.log)) ∙ g.same))
        (λ pos. let g = tells h all i e we pos in (g, hf (term_at view e.log (configuration_index view e.log)) g.n g.leader g.direct (ue (configuration_index view e.log)) ∙ g.same))
