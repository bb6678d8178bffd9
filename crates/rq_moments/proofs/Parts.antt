-- What a moment shows, by its parts.
use Rattle.std.proofs.Common.{◌≡◌, ℕ, ◌/◌, ◌%◌, List, ◌++◌, sym, ap, ◌∙◌, Result, Ok, Err, pos}
use Rattle.std.specs.Prelude.{codes, unsigned_abs, IfOk}
use Rattle.jiff_core.specs.declared.civil.date.Date.{Date}
use Rattle.jiff_core.specs.Date.{epoch_day}
use Rattle.rq_moments.specs.declared.shown.Shown.{Shown}
use Rattle.rq_moments.specs.Moment.{date_digits, time_digits, HasParts, IsShown}

shows : (moment : ℕ) (d : Date) (date time : List ℕ) (t : Shown) → epoch_day d ≡ pos (moment / 86400000) → date ≡ date_digits (unsigned_abs d.year) d.month d.day → time ≡ time_digits (moment / 1000 % 86400) → HasParts t date time → IsShown moment t
shows moment d date time t n h k q = record { day = d; number = n; date = q.0 ∙ h; time = q.1 ∙ k; timestamp = q.2 ∙ ap (λ x. x ++ codes " " ++ time) (sym q.0) ∙ ap (λ x. t.date ++ codes " " ++ x) (sym q.1) }

pub all_show : {E : Type 0} (r : Result Shown E) (moment : ℕ) (d : Date) (date time : List ℕ) → epoch_day d ≡ pos (moment / 86400000) → date ≡ date_digits (unsigned_abs d.year) d.month d.day → time ≡ time_digits (moment / 1000 % 86400) → IfOk r (λ t. HasParts t date time) → IfOk r (IsShown moment)
all_show (Ok t) moment d date time n h k q = shows moment d date time t n h k q
all_show (Err b) moment d date time n h k q = q
