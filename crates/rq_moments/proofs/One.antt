-- A moment shows one text of each kind.
use Rattle.std.proofs.Common.{◌≡◌, ℕ, ◌++◌, Option, Some, None, refl, sym, ap, ◌∙◌}
use Rattle.std.specs.Prelude.{codes, unsigned_abs}
use Rattle.jiff_core.specs.declared.civil.date.Date.{Date}
use Rattle.jiff_core.proofs.DateLemmas.{epoch_day_injective}
use Rattle.rq_moments.specs.declared.shown.Shown.{Shown}
use Rattle.rq_moments.specs.Moment.{date_digits, IsShown, MayShow}

same_digits : (a b : Date) → (a.year ≡ b.year) × (a.month ≡ b.month) × (a.day ≡ b.day) → date_digits (unsigned_abs a.year) a.month a.day ≡ date_digits (unsigned_abs b.year) b.month b.day
same_digits a b h = ap (λ y. date_digits (unsigned_abs y) a.month a.day) h.0 ∙ ap (λ m. date_digits (unsigned_abs b.year) m a.day) h.1 ∙ ap (λ d. date_digits (unsigned_abs b.year) b.month d) h.2

same_date : (m : ℕ) (t u : Shown) → IsShown m t → IsShown m u → t.date ≡ u.date
same_date m t u p q = p.date ∙ same_digits p.day q.day (epoch_day_injective p.day q.day (p.number ∙ sym q.number)) ∙ sym q.date

same_shown : (t u : Shown) → t.timestamp ≡ u.timestamp → t.date ≡ u.date → t.time ≡ u.time → t ≡ u
same_shown t u h k l = ap (λ x. record { timestamp = x; date = t.date; time = t.time }) h ∙ ap (λ x. record { timestamp = u.timestamp; date = x; time = t.time }) k ∙ ap (λ x. record { timestamp = u.timestamp; date = u.date; time = x }) l

one_shown : (m : ℕ) (t u : Shown) → IsShown m t → IsShown m u → t ≡ u
one_shown m t u p q =
    let d = same_date m t u p q in
    let e : t.time ≡ u.time = p.time ∙ sym q.time in
    same_shown t u (p.timestamp ∙ ap (λ x. x ++ codes " " ++ t.time) d ∙ ap (λ x. u.date ++ codes " " ++ x) e ∙ sym q.timestamp) d e

pub one : (m : ℕ) (t u : Option Shown) → MayShow m t → MayShow m u → t ≡ u
one m None None p q = refl
one m None (Some u) p q = absurd (cc)
one m (Some t) None p q = absurd (cc)
one m (Some t) (Some u) p q = ap Some (one_shown m t u p.1 q.1)
