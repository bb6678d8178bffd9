-- What is open behind an operand.
use Rattle.std.specs.Prelude.{ℕ, ◌≡◌, true, false, ◌&&◌, nat_le, Option, Some, None}
use Rattle.rq_grammar.specs.declared.expr.Expr.{Expr}
use Rattle.rq_automaton.specs.declared.frame.Frame.{Frame}
use Rattle.rq_automaton.specs.Stack.{Stack, room, pop_of}

-- whether an operator of level k may stand behind an operand of level m, and what is open then
abbrev pub IsTied : ℕ → ℕ → Stack × Expr → Option (Stack × Expr) → Type 0
IsTied k m p (Some q) = (q ≡ p) × (nat_le k m && nat_le (room p.0) k ≡ true)
IsTied k m p None = nat_le k m && nat_le (room p.0) k ≡ false

-- the innermost frame, and what is behind it
abbrev pub IsOpen : Stack × Expr → Option Frame → Stack → Expr → Type 0
IsOpen p g st a = (pop_of p.0 ≡ (g, st)) × (p.1 ≡ a)
