-- Moments are milliseconds since 1970-01-01 00:00:00 UTC. A moment shows a civil date-time; milliseconds are dropped.
use Rattle.std.specs.Prelude.{ℕ, ◌≡◌, ◌+◌, ◌/◌, ◌%◌, Bool, true, false, Option, Some, None, nat_le, List, [], ◌∷◌, ◌++◌, codes, pos, unsigned_abs}
use Rattle.jiff_core.specs.declared.civil.date.Date.{Date}
use Rattle.jiff_core.specs.Date.{epoch_day}
use Rattle.rq_moments.specs.declared.shown.Shown.{Shown}

-- to the last millisecond of the year 9999
abbrev pub last_moment : ℕ
last_moment = 253402300799999

abbrev pub is_in_range : ℕ → Bool
is_in_range moment = nat_le moment last_moment

abbrev pub digit : ℕ → ℕ
digit n = 48 + n % 10

-- `YYYY-MM-DD`
abbrev pub date_digits : ℕ → ℕ → ℕ → List ℕ
date_digits y m d = digit (y / 1000) ∷ digit (y / 100) ∷ digit (y / 10) ∷ digit y ∷ 45 ∷ digit (m / 10) ∷ digit m ∷ 45 ∷ digit (d / 10) ∷ digit d ∷ []

-- `HH:MM:SS` of so many seconds of a day
abbrev pub time_digits : ℕ → List ℕ
time_digits s = digit (s / 60 / 60 / 10) ∷ digit (s / 60 / 60) ∷ 58 ∷ digit (s / 60 % 60 / 10) ∷ digit (s / 60 % 60) ∷ 58 ∷ digit (s % 60 / 10) ∷ digit (s % 60) ∷ []

-- what a moment in range shows: the date with its day number, and the seconds of that day
pub record IsShown (moment : ℕ) (t : Shown) : Type 0 where
  pub day : Date
  pub number : epoch_day day ≡ pos (moment / 86400000)
  pub date : t.date ≡ date_digits (unsigned_abs day.year) day.month day.day
  pub time : t.time ≡ time_digits (moment / 1000 % 86400)
  pub timestamp : t.timestamp ≡ t.date ++ codes " " ++ t.time

-- the date, the time and both
abbrev pub HasParts : Shown → List ℕ → List ℕ → Type 0
HasParts t date time = (t.date ≡ date) × (t.time ≡ time) × (t.timestamp ≡ date ++ codes " " ++ time)

-- what a moment shows, none exactly where it is out of range
abbrev pub MayShow : ℕ → Option Shown → Type 0
MayShow moment None = is_in_range moment ≡ false
MayShow moment (Some t) = (is_in_range moment ≡ true) × IsShown moment t
