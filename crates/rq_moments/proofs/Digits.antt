-- Dates and times of day are ASCII without NUL.
use Rattle.std.proofs.Common.{Bool, true, ◌≡◌, ℕ, ◌%◌, ◌/◌, ◌<◌, ◌&&◌, nat_lt, List, [], ◌∷◌, refl, arith}
use Rattle.std.specs.List.{list_all}
use Rattle.std.proofs.lemmas.Bool.{and_from}
use Rattle.std.proofs.lemmas.Bool.Decides.{nat_tests}
use Rattle.rq_values.specs.Text.{is_plain}
use Rattle.rq_moments.specs.Moment.{digit, date_digits, time_digits}

abbrev plain : ℕ → Bool
plain b = nat_lt 0 b && nat_lt b 128

digit_plain : (n : ℕ) → plain (digit n) ≡ true
digit_plain n = grind (arith, nat_tests)

pub record IsPlain (z : List ℕ) : Type 0 where
  pub is : list_all plain z ≡ true

end : IsPlain []
end = record { is = refl }

mark : {b : ℕ} {z : List ℕ} → plain b ≡ true → IsPlain z → IsPlain (b ∷ z)
mark {b} {z} h k = record { is = and_from (plain b) (list_all plain z) h k.is }

one : (n : ℕ) {z : List ℕ} → IsPlain z → IsPlain (digit n ∷ z)
one n k = mark (digit_plain n) k

all_date : (y m d : ℕ) → IsPlain (date_digits y m d)
all_date y m d = one (y / 1000) (one (y / 100) (one (y / 10) (one y (mark refl (one (m / 10) (one m (mark refl (one (d / 10) (one d end)))))))))

all_time : (s : ℕ) → IsPlain (time_digits s)
all_time s = one (s / 60 / 60 / 10) (one (s / 60 / 60) (mark refl (one (s / 60 % 60 / 10) (one (s / 60 % 60) (mark refl (one (s % 60 / 10) (one (s % 60) end)))))))

pub date_plain : (y m d : ℕ) → is_plain (date_digits y m d) ≡ true
date_plain y m d = (all_date y m d).is

pub time_plain : (s : ℕ) → is_plain (time_digits s) ≡ true
time_plain s = (all_time s).is
