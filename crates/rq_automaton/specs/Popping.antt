-- What taking frames off a stack gives.
use Rattle.std.specs.Prelude.{ℕ, ◌≡◌, Bool, true, false, ◌∷◌, Option, Some, None}
use Rattle.rq_grammar.specs.declared.expr.BinaryOp.TheVariants as op
use Rattle.rq_grammar.specs.declared.expr.Expr.{Expr}
use Rattle.rq_automaton.specs.declared.frame.Frame.{Frame}
use Rattle.rq_automaton.specs.declared.frame.Frame.TheVariants as f
use Rattle.rq_automaton.specs.declared.frame.State.TheVariants as s
use Rattle.rq_automaton.specs.Stack.{Stack, closes, reduce, with_plus, tied, and_at}

-- the innermost frame, if its expression ends before an operator of level k
abbrev pub PopsClosing : ℕ → Stack → Option Frame → Stack → Type 0
PopsClosing k old (Some g) new = (old ≡ g ∷ new) × (closes k g ≡ true)
PopsClosing k old None new = (old ≡ new) × ((a : Expr) → reduce k old a ≡ (old, a))

-- whether one more prefix `+` makes no frame
abbrev pub IsBehindPlus : Stack → Bool → Type 0
IsBehindPlus st true = with_plus st ≡ st
IsBehindPlus st false = with_plus st ≡ f.Plus ∷ st

abbrev pub is_low : Frame → Bool
is_low (f.Low b a) = true
is_low _ = false

-- the innermost frame, if it waits for the low end of a BETWEEN; else an AND is the operator
abbrev pub PopsLow : Stack → Option (Bool × Expr) → Stack → Type 0
PopsLow old (Some q) new = old ≡ f.Low q.0 q.1 ∷ new
PopsLow old None new = (old ≡ new) × ((m : ℕ) (b : Expr) → and_at m old b ≡ tied 2 m (old, b) (λ st a. s.Operand (f.Binary op.And a ∷ st)))
