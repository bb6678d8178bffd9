-- A leader's log only grows while it leads, and it leads a term once.
use Rattle.std.proofs.Common.{◌≡◌, ◌≢◌, ◌⊎◌, ℕ, ◌≤◌, List, sym, inl, inr, arith}
use Rattle.rq_history.specs.History.{NodeId, EntryView, Node, History, Was, now, Candidate, Leader, Led, IsPrefixOf, WasBefore}
use Rattle.rq_history.specs.Moves.{Move, Lawful, Rise, Fall, Stand, Grant, Lead, Extend, Accept, Learn, Commit}
use Rattle.rq_history.proofs.Claims.{Sound}
use Rattle.rq_history.proofs.Moments.{law_past, law_move, since, since2, ordered}
use Rattle.rq_history.proofs.Logs.{prefix_refl, prefix_push}
use Rattle.rq_history.proofs.Votes.{older, IsOlder}

module _ {E : Type 0} (view : EntryView E) where
  module _ (voters : List E → List NodeId) where
    -- who has led a term isn't its candidate afterwards
    abbrev NoReturn : Node E → Node E → Type 0
    NoReturn z x = z.role ≡ Leader → z.term ≡ x.term → x.role ≢ Candidate

    move_no_return : (h : History E) (i : NodeId) (z x y : Node E) → Move view voters h i x y → IsOlder view z x → NoReturn z x → z.role ≡ Leader → z.term ≡ y.term → y.role ≡ Candidate → Prim.⊥
    move_no_return h i z x y (Rise up a b c d) o f r t q = cc
    move_no_return h i z x y (Fall a b c d e) o f r t q = cc
    move_no_return h i z x y (Stand a b c d e) o f r t q = omega (arith, o.term)
    move_no_return h i z x y (Grant c w a b d e none g j k l m) o f r t q = f r (cc) (cc)
    move_no_return h i z x y (Lead a b c d e f g) o n r t q = cc
    move_no_return h i z x y (Extend s a b c d e f g change) o n r t q = cc
    move_no_return h i z x y (Accept j w n a b c d e f g k l) o p r t q = cc
    move_no_return h i z x y (Learn j w a b c d e f g k l) o n r t q = cc
    move_no_return h i z x y (Commit a b c d e f g k l) o n r t q = cc

    pub no_return : (h : History E) → Lawful view voters h → (i : NodeId) (z : Node E) → Was h i z → NoReturn z (now h i)
    no_return = since view voters (Lawful view voters) (law_past view voters) (law_move view voters) (λ h i z x. NoReturn z x) (λ i r t q. cc) (λ h k y i z x f. f)
        (λ h i y l m r t q. cc)
        (λ h i y z l m w f. move_no_return h i z (now h i) y m (older view voters h l.0 i z w) f)

    pub no_return_later : (h : History E) → Lawful view voters h → (i : NodeId) (z x : Node E) → WasBefore h i z x → NoReturn z x
    no_return_later = since2 view voters (Lawful view voters) (law_past view voters) (law_move view voters) (λ h i z x. NoReturn z x) (λ i r t q. cc) (λ h k y i z x f. f)
        (λ h i y l m r t q. cc)
        (λ h i y z l m w f. move_no_return h i z (now h i) y m (older view voters h l.0 i z w) f)

    -- while it leads
    pub record Grows (z x : Node E) : Type 0 where
      pub log : IsPrefixOf z.log x.log
      pub commit : z.commit ≤ x.commit

    abbrev pub Leads : Node E → Node E → Type 0
    Leads z x = z.role ≡ Leader → x.role ≡ Leader → z.term ≡ x.term → Grows z x

    grows_same : (z x y : Node E) → Grows z x → y.log ≡ x.log → x.commit ≤ y.commit → Grows z y
    grows_same z x y g e c = record { log = rw e g.log; commit = omega (arith, g.commit) }

    move_grows : (h : History E) (i : NodeId) (z x y : Node E) → Move view voters h i x y → NoReturn z x → Leads z x → Leads z y
    move_grows h i z x y (Rise up a b c d) o f r q t = absurd (cc)
    move_grows h i z x y (Fall a b c d e) o f r q t = absurd (cc)
    move_grows h i z x y (Stand a b c d e) o f r q t = absurd (cc)
    move_grows h i z x y (Grant c w a b d e none g j k l m) o f r q t = grows_same z x y (f r (cc) (cc)) l (omega arith)
    move_grows h i z x y (Lead a b c d e f g) o n r q t = absurd (o r (cc) a)
    move_grows h i z x y (Extend s a b c d e f g change) o n r q t =
        let w = n r a (cc) in
        record { log = rw f (prefix_push z.log x.log s w.log); commit = omega (arith, w.commit) }
    move_grows h i z x y (Accept j w n a b c d e f g k l) o p r q t = absurd (cc)
    move_grows h i z x y (Learn j w a b c d e f g k l) o n r q t = absurd (cc)
    move_grows h i z x y (Commit a b c d e f g k l) o n r q t = grows_same z x y (n r a (cc)) l (omega arith)

    pub grows : (h : History E) → Lawful view voters h → (i : NodeId) (z x : Node E) → WasBefore h i z x → Leads z x
    grows = since2 view voters (Lawful view voters) (law_past view voters) (law_move view voters) (λ h i z x. Leads z x) (λ i r t q. absurd (cc)) (λ h k y i z x f. f)
        (λ h i y l m r t q. record { log = prefix_refl y.log; commit = omega arith })
        (λ h i y z l m w f. move_grows h i z (now h i) y m (no_return h l.0 i z w) f)

    -- of two logs with which a term was led, one is a prefix of the other
    pub one_log : (h : History E) → Sound view voters h → (i j : NodeId) (term : ℕ) (x y : Node E) → Led h i term x → Led h j term y
        → IsPrefixOf x.log y.log ⊎ IsPrefixOf y.log x.log
    one_log h l i j term x y p q = go (ordered h i x y p.was (rw (sym (l.1 i j term x y p q)) at q.was))
      where
        go : WasBefore h i x y ⊎ WasBefore h i y x → IsPrefixOf x.log y.log ⊎ IsPrefixOf y.log x.log
        go (inl b) = inl ((grows h l.0 i x y b p.leads q.leads (cc (p.in_term, q.in_term))).log)
        go (inr b) = inr ((grows h l.0 i y x b q.leads p.leads (cc (p.in_term, q.in_term))).log)

    pub grows_now : (h : History E) → Lawful view voters h → (i : NodeId) (z : Node E) → Was h i z → Leads z (now h i)
    grows_now = since view voters (Lawful view voters) (law_past view voters) (law_move view voters) (λ h i z x. Leads z x) (λ i r t q. absurd (cc)) (λ h k y i z x f. f)
        (λ h i y l m r t q. record { log = prefix_refl y.log; commit = omega arith })
        (λ h i y z l m w f. move_grows h i z (now h i) y m (no_return h l.0 i z w) f)
