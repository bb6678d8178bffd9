-- How many rows of a walk are enough.
use Rattle.std.specs.Prelude.{ℕ, Bool, false, nat_le, Option, Some, None}

abbrev pub are_enough : Option ℕ → ℕ → Bool
are_enough None n = false
are_enough (Some most) n = nat_le most n
