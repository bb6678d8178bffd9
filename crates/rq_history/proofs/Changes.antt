-- Before a configuration was appended, its leader had committed the one before, with an entry of its own term.
use Rattle.std.proofs.Common.{◌≡◌, ◌⊎◌, ℕ, ◌+◌, ◌-◌, ◌<◌, ◌≤◌, true, List, [], ◌∷◌, ◌++◌, length, take, refl, ap, sym, subst, ◌∙◌, inl, inr, ⊎_elim, arith}
use Rattle.std.proofs.lemmas.Bool.{cases_lt}
use Rattle.std.proofs.lemmas.List.{length-append, length-take, take-take, take-append-le}
use Rattle.std.proofs.lemmas.List.{take_all, take_at}
use Rattle.std.specs.Prelude.{Option}
use Rattle.rq_history.specs.History.{NodeId, EntryView, Node, History, Begin, After, Was, now, Leader, Led, IsPrefixOf, term_at, last_term}
use Rattle.rq_history.specs.Moves.{Move, Lawful, Rise, Fall, Stand, Grant, Lead, Extend, Accept, Learn, Commit}
use Rattle.rq_history.specs.Quorum.{HaveCommon}
use Rattle.rq_history.proofs.Claims.{Whole, Changed, Ready}
use Rattle.rq_history.specs.Commits.{DirectCommit, Backing}
use Rattle.rq_history.specs.Configurations.{MayChange, is_given, is_configuration, configuration_index, voters_in}
use Rattle.rq_history.proofs.Moments.{each, was_now}
use Rattle.rq_history.proofs.Logs.{term_same, prefix_same, prefix_fits, term_new, entry_new}
use Rattle.rq_history.proofs.Terms.{sorted}
use Rattle.rq_history.proofs.Growth.{grows_now}
use Rattle.rq_history.proofs.Backed.{backed, direct_later, whole_past}
use Rattle.rq_history.proofs.Configs.{conf_same}

module _ {E : Type 0} (view : EntryView E) where
  module _ (voters : List E → List NodeId) where
    abbrev Changes : History E → List E → Type 0
    Changes h log = (c : ℕ) → 0 < c → c ≤ length log → is_configuration view log c ≡ true → Changed view voters h (take c log)

    changed_later : (h : History E) (k : NodeId) (y : Node E) (f : List E) → Changed view voters h f → Changed view voters (After h k y) f
    changed_later h k y f d = record { n = d.n; leader = d.leader; direct = direct_later view voters h k y (last_term view f) d.n d.leader d.direct; covers = d.covers; short = d.short; same = d.same; near = d.near }

    changes_later : (h : History E) (k : NodeId) (y : Node E) (log : List E) → Changes h log → Changes (After h k y) log
    changes_later h k y log f c pos fits is = changed_later h k y (take c log) (f c pos fits is)

    changes_same : (h : History E) (i : NodeId) (a : List E) (y : Node E) → y.log ≡ a → Changes h a → Changes (After h i y) y.log
    changes_same h i a y e f = subst (λ (g : List E). Changes (After h i y) g) (sym e) (changes_later h i y a f)

    changes_take : (h : History E) (a : List E) (k : ℕ) → Changes h a → Changes h (take k a)
    changes_take h a k f c pos fits is =
        let len = length-take k a in
        let t = take-take c k a (omega arith) in
        rw t (f c pos (omega arith) (sym (conf_same view (take k a) a c c (omega arith) t) ∙ is))

    -- the new configuration
    appends : (h : History E) → Whole view voters h → (i : NodeId) (x : Node E) (e : E) → x ≡ now h i → x.role ≡ Leader → view.term_of e ≡ x.term → MayChange view voters x e → Changed view voters h (x.log ++ e ∷ [])
    appends h w i x e is lead t m = ⊎_elim
        (λ (z : x.commit ≡ 0). absurd (omega (arith, m.some)))
        (λ (g : Backing view voters h x).
        let top : term_at view g.leader.log x.commit ≡ x.term = sym (term_same view x.log g.leader.log x.commit x.commit (omega arith) g.same) ∙ m.own in
        let up = sorted view voters h w.0.0 g.direct.who g.leader g.direct.led.was x.commit g.n g.covers g.direct.fits in
        let gt : g.term ≡ x.term = omega (arith, g.not_later, top, up, g.direct.own) in
        let led : Led h i x.term x = record { was = wx; leads = lead; in_term = refl } in
        let led2 : Led h g.direct.who x.term g.leader = record { was = g.direct.led.was; leads = g.direct.led.leads; in_term = g.direct.led.in_term ∙ gt } in
        let who : g.direct.who ≡ i = w.0.1 g.direct.who i x.term g.leader x led2 led in
        let grown = grows_now view voters h w.0.0 i g.leader (subst (λ (k : NodeId). Was h k g.leader) who g.direct.led.was) g.direct.led.leads (subst (λ (z : Node E). z.role ≡ Leader) is lead) (led2.in_term ∙ ap (λ (z : Node E). z.term) is) in
        let prefix : IsPrefixOf g.leader.log x.log = subst (λ (z : Node E). IsPrefixOf g.leader.log z.log) (sym is) grown.log in
        let fit = prefix_fits g.leader.log x.log prefix in
        let nfit : g.n ≤ length x.log = omega (arith, g.direct.fits) in
        let lt : last_term view (x.log ++ e ∷ []) ≡ g.term = ap (term_at view (x.log ++ e ∷ [])) len ∙ term_new view x.log e ∙ t ∙ sym gt in
        record {
          n = g.n;
          leader = g.leader;
          direct = subst (λ (k : ℕ). DirectCommit view voters h k g.n g.leader) (sym lt) g.direct;
          covers = subst (λ (l : List E). configuration_index view l ≤ g.n) (sym cut) (omega (arith, m.settled, g.covers));
          short = omega (arith, len);
          same = prefix_same g.leader.log x.log g.n g.direct.fits prefix ∙ sym (take-append-le g.n x.log (e ∷ []) nfit);
          near = subst (λ (l : List E). HaveCommon (voters l) (voters (x.log ++ e ∷ []))) (sym cut) m.near;
        })
        (backed view voters h w i x wx).by_leader
      where
        wx : Was h i x
        wx = subst (λ (z : Node E). Was h i z) (sym is) (was_now h i)

        len : length (x.log ++ e ∷ []) ≡ length x.log + 1
        len = length-append x.log (e ∷ [])

        cut : take (length (x.log ++ e ∷ []) - 1) (x.log ++ e ∷ []) ≡ x.log
        cut = let k : length (x.log ++ e ∷ []) - 1 ≡ length x.log = omega (arith, len) in rw k (take_at x.log (e ∷ []) (length x.log) refl)

    changes_push : (h : History E) → Whole view voters h → (i : NodeId) (x : Node E) (e : E) → x ≡ now h i → x.role ≡ Leader → view.term_of e ≡ x.term → (is_given (view.voters_of e) ≡ true → MayChange view voters x e) → Changes h x.log → Changes h (x.log ++ e ∷ [])
    changes_push h w i x e is lead t may f c pos fits conf = ⊎_elim
        (λ (old : c ≤ length x.log).
        let a = take-append-le c x.log (e ∷ []) old in
        rw a (f c pos old (sym (conf_same view (x.log ++ e ∷ []) x.log c c (omega arith) a) ∙ conf)))
        (λ (new : length x.log < c).
        let eq : c ≡ length x.log + 1 = omega (arith, len) in
        let all : take c (x.log ++ e ∷ []) ≡ x.log ++ e ∷ [] = take_all c (x.log ++ e ∷ []) (omega (arith, len)) in
        let body : is_given (view.voters_of e) ≡ true = sym (ap (λ (z : Option E). is_given (voters_in view z)) (entry_new x.log e)) ∙ ap (λ (k : ℕ). is_configuration view (x.log ++ e ∷ []) k) (sym eq) ∙ conf in
        rw all (appends h w i x e is lead t (may body)))
        (flip (cases_lt (length x.log) c))
      where
        len : length (x.log ++ e ∷ []) ≡ length x.log + 1
        len = length-append x.log (e ∷ [])

        flip : {A B : Type 0} → A ⊎ B → B ⊎ A
        flip (inl a) = inr a
        flip (inr b) = inl b

    move_changes : (h : History E) → Whole view voters h → (i : NodeId) (x y : Node E) → x ≡ now h i → ((j : NodeId) (z : Node E) → Was h j z → Changes h z.log) → Changes h x.log → Move view voters h i x y → Changes (After h i y) y.log
    move_changes h w i x y is all b (Rise up a r c d) = changes_same h i x.log y c b
    move_changes h w i x y is all b (Fall a c r d e) = changes_same h i x.log y d b
    move_changes h w i x y is all b (Stand a c d e f) = changes_same h i x.log y e b
    move_changes h w i x y is all b (Grant c z a d e f none g j k l m) = changes_same h i x.log y l b
    move_changes h w i x y is all b (Lead a q c d e f g) = changes_same h i x.log y f b
    move_changes h w i x y is all b (Extend s a q c d e f g change) = changes_same h i (x.log ++ s ∷ []) y f (changes_push h w i x s is a q change b)
    move_changes h w i x y is all b (Accept j z n a c d e f g k l m) = changes_same h i (take n z.log) y l (changes_take h z.log n (all j z a.was))
    move_changes h w i x y is all b (Learn j z a c d e f g k m l) = changes_same h i x.log y l b
    move_changes h w i x y is all b (Commit a c d e f g k m l) = changes_same h i x.log y l b

    abbrev Law : History E → Type 0
    Law h = Lawful view voters h × Ready view voters h

    pub ready : (h : History E) → Whole view voters h → Ready view voters h
    ready Begin w = tt
    ready (After h k y) w = whole_past view voters h k y w

    pub changes : (h : History E) → Lawful view voters h × Ready view voters h → (i : NodeId) (x : Node E) → Was h i x → Changes h x.log
    changes = each view voters Law (λ h k y l. (l.0.0, ready h l.1)) (λ h k y l. l.0.1) (λ h i x. Changes h x.log)
        (λ i c pos fits is. absurd (omega arith)) (λ h k y i x l w f. changes_later h k y x.log f)
        (λ h i y l ih m. move_changes h l.1 i (now h i) y refl ih (ih i (now h i) (was_now h i)) m)
