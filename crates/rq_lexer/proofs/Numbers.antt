-- More digits never spell less.
use Rattle.std.proofs.Common.{ℕ, ◌+◌, ◌*◌, ◌-◌, ◌≤◌, List, [], ◌∷◌, arith}
use Rattle.std.specs.List.{fold}

pub grows : (z : List ℕ) (n : ℕ) → n ≤ fold (λ n b. 10 * n + (b - 48)) n z
grows [] n = omega arith
grows (b ∷ z) n = omega (arith, grows z (10 * n + (b - 48)))
