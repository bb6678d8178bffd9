-- The innermost frame, where it waits for the low end of a BETWEEN and where it doesn't.
use Rattle.std.proofs.Common.{◌≡◌, ℕ, false, [], ◌∷◌, refl}
use Rattle.rq_grammar.specs.declared.expr.BinaryOp.TheVariants as op
use Rattle.rq_grammar.specs.declared.expr.Expr.{Expr}
use Rattle.rq_automaton.specs.declared.frame.Frame.{Frame}
use Rattle.rq_automaton.specs.declared.frame.Frame.TheVariants as f
use Rattle.rq_automaton.specs.declared.frame.State.TheVariants as s
use Rattle.rq_automaton.specs.Stack.{Stack, tied, and_at}
use Rattle.rq_automaton.specs.Popping.{is_low}

pub no_low : (g : Frame) (st : Stack) → is_low g ≡ false → (m : ℕ) (b : Expr) → and_at m (g ∷ st) b ≡ tied 2 m (g ∷ st, b) (λ st a. s.Operand (f.Binary op.And a ∷ st))
no_low (f.Low d a) st h m b = absurd (cc)
no_low (f.Binary o a) st h m b = refl
no_low f.Not st h m b = refl
no_low f.Plus st h m b = refl
no_low f.Minus st h m b = refl
no_low (f.High d a c) st h m b = refl
no_low f.Paren st h m b = refl
no_low (f.Args n xs) st h m b = refl
no_low (f.Among d a xs) st h m b = refl
no_low (f.Clause k) st h m b = refl

pub no_frame : (m : ℕ) (b : Expr) → and_at m [] b ≡ tied 2 m ([], b) (λ st a. s.Operand (f.Binary op.And a ∷ st))
no_frame m b = refl
