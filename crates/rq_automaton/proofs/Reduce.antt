-- How the stack is reduced, and steps of the machine.
use Rattle.std.proofs.Common.{◌≡◌, ℕ, ◌≤◌, ◌<◌, true, false, cond, [], ◌∷◌, Option, Some, None, Result, Ok, Err, refl, ◌∙◌, ap, arith}
use Rattle.std.specs.Prelude.{nat_le, nat_lt}
use Rattle.std.proofs.lemmas.Bool.Decides.{nat_tests}
use Rattle.rq_grammar.specs.declared.expr.BinaryOp.{BinaryOp}
use Rattle.rq_grammar.specs.declared.expr.BinaryOp.TheVariants as op
use Rattle.rq_grammar.specs.declared.expr.Expr.{Expr}
use Rattle.rq_grammar.specs.declared.stmt.Stmt.{Stmt}
use Rattle.rq_grammar.specs.declared.token.Token.{Token}
use Rattle.rq_automaton.specs.declared.frame.Frame.{Frame}
use Rattle.rq_automaton.specs.declared.frame.Frame.TheVariants as f
use Rattle.rq_automaton.specs.declared.frame.State.{State}
use Rattle.rq_grammar.specs.Words.{Tokens}
use Rattle.rq_grammar.specs.Grammar.{level}
use Rattle.rq_automaton.specs.Stack.{Stack, order, room, closes, build, reduce}
use Rattle.rq_automaton.specs.Machine.{step, finish, parse, onward, one_further, or_here}

pub level_max : (o : BinaryOp) → level o ≤ 8
level_max op.Or = omega arith
level_max op.And = omega arith
level_max op.Equal = omega arith
level_max op.NotEqual = omega arith
level_max op.Is = omega arith
level_max op.IsNot = omega arith
level_max op.Like = omega arith
level_max op.NotLike = omega arith
level_max op.Less = omega arith
level_max op.LessEqual = omega arith
level_max op.Greater = omega arith
level_max op.GreaterEqual = omega arith
level_max op.Add = omega arith
level_max op.Sub = omega arith
level_max op.Mul = omega arith
level_max op.Div = omega arith
level_max op.Rem = omega arith
level_max op.Concat = omega arith

pub level_not_3 : (o : BinaryOp) → level o ≡ 3 → ⊥
level_not_3 op.Or h = omega arith
level_not_3 op.And h = omega arith
level_not_3 op.Equal h = omega arith
level_not_3 op.NotEqual h = omega arith
level_not_3 op.Is h = omega arith
level_not_3 op.IsNot h = omega arith
level_not_3 op.Like h = omega arith
level_not_3 op.NotLike h = omega arith
level_not_3 op.Less h = omega arith
level_not_3 op.LessEqual h = omega arith
level_not_3 op.Greater h = omega arith
level_not_3 op.GreaterEqual h = omega arith
level_not_3 op.Add h = omega arith
level_not_3 op.Sub h = omega arith
level_not_3 op.Mul h = omega arith
level_not_3 op.Div h = omega arith
level_not_3 op.Rem h = omega arith
level_not_3 op.Concat h = omega arith

pub above : (a b : ℕ) → b < a → nat_le a b ≡ false
above a b h = grind (arith, nat_tests)

pub below : (a b : ℕ) → a < b → nat_lt a b ≡ true
below a b h = grind (arith, nat_tests)

-- a frame that has room for level k does not end before k
pub stays : (k : ℕ) (x : Frame) → order x ≤ k → (k ≡ 3 → ⊥) → k ≤ 8 → closes k x ≡ false
stays k (f.Binary o a) h n m = above k (level o) (omega arith)
stays k f.Not h n m = above k 3 (grind arith)
stays k f.Plus h n m = absurd (omega arith)
stays k f.Minus h n m = absurd (omega arith)
stays k (f.Low b a) h n m = refl
stays k (f.High b a c) h n m = above k 4 (omega arith)
stays k _ h n m = refl

pub reduce_closed : (k : ℕ) (x : Frame) (st : Stack) (a : Expr) → closes k x ≡ true → reduce k (x ∷ st) a ≡ reduce k st (build x a)
reduce_closed k x st a h = ap (λ b. cond b (reduce k st (build x a)) (x ∷ st, a)) h

pub reduce_open : (k : ℕ) (x : Frame) (st : Stack) (a : Expr) → closes k x ≡ false → reduce k (x ∷ st) a ≡ (x ∷ st, a)
reduce_open k x st a h = ap (λ b. cond b (reduce k st (build x a)) (x ∷ st, a)) h

pub reduce_stays : (k : ℕ) (st : Stack) (a : Expr) → room st ≤ k → (k ≡ 3 → ⊥) → k ≤ 8 → reduce k st a ≡ (st, a)
reduce_stays k [] a h n m = refl
reduce_stays k (x ∷ st) a h n m = reduce_open k x st a (stays k x h n m)

-- the two stand for the same before each operator of level k or less
abbrev pub Same : ℕ → Stack → Expr → Stack → Expr → Type 0
Same k st' a' st a = (j : ℕ) → j ≤ k → reduce j st' a' ≡ reduce j st a

-- ---- steps

pub go : (x : State) (u : Token) (us : Tokens) (next : State) (r : Stmt) → step x u ≡ Some next → parse next us ≡ Ok r → parse x (u ∷ us) ≡ Ok r
unfolding parse
go x u us next r is h = ap (λ o. onward o (λ next. parse next us)) is ∙ ap one_further h

pub stop : (x : State) (r : Stmt) → finish x ≡ Some r → parse x [] ≡ Ok r
unfolding parse
stop x r h = ap or_here h

one_further_ok : (o : Result Stmt ℕ) (r : Stmt) → one_further o ≡ Ok r → o ≡ Ok r
one_further_ok (Err n) r h = absurd (cc)
one_further_ok (Ok p) r h = h

pub onward_ok : (o : Option State) (f : State → Result Stmt ℕ) (r : Stmt) → onward o f ≡ Ok r → (p : State) × (o ≡ Some p) × (f p ≡ Ok r)
onward_ok None f r h = absurd (cc)
onward_ok (Some p) f r h = (p, refl, one_further_ok (f p) r h)

pub or_here_ok : (o : Option Stmt) (r : Stmt) → or_here o ≡ Ok r → o ≡ Some r
or_here_ok None r h = absurd (cc)
or_here_ok (Some p) r h = cc

-- what is read makes a step, or ends
pub went : (x : State) (u : Token) (us : Tokens) (r : Stmt) → parse x (u ∷ us) ≡ Ok r → (p : State) × (step x u ≡ Some p) × (parse p us ≡ Ok r)
unfolding parse
went x u us r h = onward_ok (step x u) (λ next. parse next us) r h

pub ends_here : (x : State) (r : Stmt) → parse x [] ≡ Ok r → finish x ≡ Some r
unfolding parse
ends_here x r h = or_here_ok (finish x) r h

pub never : (x : State) (u : Token) (us : Tokens) (r : Stmt) → step x u ≡ None → parse x (u ∷ us) ≡ Ok r → ⊥
never x u us r h k = let n = went x u us r k in cc

pub never_end : (x : State) (r : Stmt) → finish x ≡ None → parse x [] ≡ Ok r → ⊥
never_end x r h k = let n = ends_here x r k in cc

-- the same step gives the same
pub as_step : (x y : State) (u : Token) (us : Tokens) (r : Stmt) → step x u ≡ step y u → parse y (u ∷ us) ≡ Ok r → parse x (u ∷ us) ≡ Ok r
as_step x y u us r h k = let n = went y u us r k in go x u us n.0 r (h ∙ n.1) n.2

pub as_end : (x y : State) (r : Stmt) → finish x ≡ finish y → parse y [] ≡ Ok r → parse x [] ≡ Ok r
as_end x y r h k = stop x r (h ∙ ends_here y r k)
