-- Valid time texts: `YYYY-MM-DD` or `YYYY-MM-DD HH:MM:SS`; and their parts.
-- Source: SQLite, "Date And Time Functions", formats 1 and 4; the proleptic Gregorian calendar, years 0000 to 9999.
use Rattle.std.specs.Prelude.{ℕ, ◌+◌, ◌-◌, ◌*◌, ◌%◌, Bool, ◌&&◌, ◌||◌, not, if◌then◌else◌, ◌==◌, nat_lt, nat_le, List, ◌++◌, length, take, drop, codes, slice_index}
use Rattle.std.specs.Char.{is_ascii_digit}

abbrev pub is_leap : ℕ → Bool
is_leap y = (y % 4 == 0) && (not (y % 100 == 0) || (y % 400 == 0))

abbrev pub days_in : ℕ → ℕ → ℕ
days_in y m = if m == 2 then (if is_leap y then 29 else 28) else if (m == 4) || (m == 6) || (m == 9) || (m == 11) then 30 else 31

-- the number of two digits at a place
abbrev pub two : List ℕ → ℕ → ℕ
two s i = (slice_index s i - 48) * 10 + (slice_index s (i + 1) - 48)

abbrev pub two_digits : List ℕ → ℕ → Bool
two_digits s i = is_ascii_digit (slice_index s i) && is_ascii_digit (slice_index s (i + 1))

abbrev pub within : ℕ → ℕ → ℕ → Bool
within low high n = nat_le low n && nat_le n high

abbrev pub starts_with_date : List ℕ → Bool
starts_with_date s =
    two_digits s 0 && two_digits s 2 && (slice_index s 4 == 45) && two_digits s 5 && (slice_index s 7 == 45) && two_digits s 8
    && within 1 12 (two s 5) && within 1 (days_in (two s 0 * 100 + two s 2) (two s 5)) (two s 8)

abbrev pub is_time_of_day : List ℕ → Bool
is_time_of_day s =
    two_digits s 11 && (slice_index s 13 == 58) && two_digits s 14 && (slice_index s 16 == 58) && two_digits s 17
    && nat_lt (two s 11) 24 && nat_lt (two s 14) 60 && nat_lt (two s 17) 60

abbrev pub ends_with_time : List ℕ → Bool
ends_with_time s = (slice_index s 10 == 32) && is_time_of_day s

unfoldable pub is_time_text : List ℕ → Bool
is_time_text s = starts_with_date s && ((length s == 10) || ((length s == 19) && ends_with_time s))

-- ---- DATE, TIME and DATETIME of a valid time text; midnight where it has no time

abbrev pub has_time : List ℕ → Bool
has_time s = nat_lt 10 (length s)

abbrev pub date : List ℕ → List ℕ
date s = take 10 s

abbrev pub time : List ℕ → List ℕ
time s = if has_time s then drop 11 s else codes "00:00:00"

abbrev pub date_time : List ℕ → List ℕ
date_time s = if has_time s then s else s ++ codes " 00:00:00"
