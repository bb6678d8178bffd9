-- What the code's small steps give.
use Rattle.std.proofs.Common.{◌≡◌, ◌∙◌, ap, Option}
use Rattle.rq_grammar.specs.declared.expr.Expr.{Expr}
use Rattle.rq_automaton.specs.declared.frame.Frame.{Frame}
use Rattle.rq_automaton.specs.Stack.{Stack, popped, split}
use Rattle.rq_machine.specs.Behind.{IsOpen}

pub open_gives : {A : Type 0} (f : Option Frame → Stack → Expr → A) (p : Stack × Expr) (g : Option Frame) (st : Stack) (a : Expr) → IsOpen p g st a → split (popped f) p ≡ f g st a
open_gives f p g st a h = ap (λ q. f q.0 q.1 p.1) h.0 ∙ ap (λ b. f g st b) h.1
