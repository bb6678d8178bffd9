-- The stack of what is open, and the states in which an expression is read.
use Rattle.std.specs.Prelude.{ℕ, suc, ◌^◌, Bool, true, false, ◌&&◌, ◌||◌, if◌then◌else◌, nat_le, nat_lt, List, [], ◌∷◌, Option, Some, None, pos, neg_ℤ}
use Rattle.rq_values.specs.declared.value.Value.TheVariants as v
use Rattle.rq_grammar.specs.declared.word.Word.{Word}
use Rattle.rq_grammar.specs.declared.word.Word.TheVariants as w
use Rattle.rq_grammar.specs.declared.token.Token.{Token}
use Rattle.rq_grammar.specs.declared.token.Token.TheVariants as t
use Rattle.rq_grammar.specs.declared.expr.BinaryOp.{BinaryOp}
use Rattle.rq_grammar.specs.declared.expr.BinaryOp.TheVariants as op
use Rattle.rq_grammar.specs.declared.expr.Expr.{Expr}
use Rattle.rq_grammar.specs.declared.expr.Expr.TheVariants as e
use Rattle.rq_automaton.specs.declared.frame.Frame.{Frame}
use Rattle.rq_automaton.specs.declared.frame.Frame.TheVariants as f
use Rattle.rq_automaton.specs.declared.frame.State.{State}
use Rattle.rq_automaton.specs.declared.frame.State.TheVariants as s
use Rattle.rq_grammar.specs.Words.{Text, is_reserved, is_time}
use Rattle.rq_grammar.specs.Grammar.{level}

abbrev pub Stack : Type 0
Stack = List Frame

-- the least level of an operand that the frame takes
abbrev pub order : Frame → ℕ
order (f.Binary o a) = suc (level o)
order f.Not = 3
order f.Plus = 9
order f.Minus = 9
order (f.Low d a) = 5
order (f.High d a b) = 5
order _ = 0

abbrev pub room : Stack → ℕ
room [] = 0
room (g ∷ st) = order g

-- whether the frame's expression ends before an operator of level k
abbrev pub closes : ℕ → Frame → Bool
closes k (f.Binary o a) = nat_le k (level o)
closes k f.Not = nat_le k 3
closes k f.Plus = true
closes k f.Minus = true
closes k (f.High d a b) = nat_le k 4
closes k _ = false

abbrev pub build : Frame → Expr → Expr
build (f.Binary o a) b = e.Binary o a b
build f.Not b = e.Not b
build f.Minus b = e.Minus b
build (f.High d a c) b = e.Between d a c b
build _ b = b

-- ends what ends before an operator of level k
abbrev pub reduce : ℕ → Stack → Expr → Stack × Expr
reduce k [] a = ([], a)
reduce k (g ∷ st) a = if closes k g then reduce k st (build g a) else (g ∷ st, a)

-- ---- where an operand is to come

-- several prefix `+` are one frame
abbrev pub with_plus : Stack → Stack
with_plus (f.Plus ∷ st) = f.Plus ∷ st
with_plus st = f.Plus ∷ st

abbrev pub operand_word : Stack → Text → Word → Option State
operand_word st n w.Null = Some (s.Done st 9 (e.Literal v.Null))
operand_word st n w.CurrentTimestamp = Some (s.Done st 9 e.CurrentTimestamp)
operand_word st n w.CurrentDate = Some (s.Done st 9 e.CurrentDate)
operand_word st n w.CurrentTime = Some (s.Done st 9 e.CurrentTime)
operand_word st n w.Not = if nat_le (room st) 3 then Some (s.Operand (f.Not ∷ st)) else None
operand_word st n w.Count = Some (s.Named st true n)
operand_word st n c = if is_reserved c then None else Some (s.Named st false n)

abbrev pub operand : Stack → Token → Option State
operand st (t.Word n c) = operand_word st n c
operand st (t.Quoted n) = Some (s.Quoted st n)
operand st (t.String n) = Some (s.Done st 9 (e.Literal (v.Text n)))
operand st (t.Blob n) = Some (s.Done st 9 (e.Literal (v.Blob n)))
operand st (t.Numeral n) = if nat_lt n (2 ^ 63) then Some (s.Done st 9 (e.Literal (v.Int (pos n)))) else None
operand st (t.Parameter n) = Some (s.Done st 9 (e.Param n))
operand st t.Open = Some (s.Operand (f.Paren ∷ st))
operand st t.Plus = Some (s.Operand (with_plus st))
operand st t.Minus = Some (s.Signed st)
operand st _ = None

abbrev pub signed : Stack → Token → Option State
signed st (t.Numeral n) = if nat_le n (2 ^ 63) then Some (s.Done st 9 (e.Literal (v.Int (neg_ℤ (pos n))))) else None
signed st u = operand (f.Minus ∷ st) u

-- ---- behind an operand of level m

-- goes on with an operator of level k, if one may stand here
abbrev pub tied : ℕ → ℕ → Stack × Expr → (Stack → Expr → State) → Option State
tied k m r next = if nat_le k m && nat_le (room r.0) k then Some (next r.0 r.1) else None

abbrev pub binary : BinaryOp → ℕ → Stack → Expr → Option State
binary o m st a = tied (level o) m (reduce (level o) st a) (λ st a. s.Operand (f.Binary o a ∷ st))

-- a token of the group of `=`
abbrev pub grouped : ℕ → Stack → Expr → (Stack → Expr → State) → Option State
grouped m st a next = tied 4 m (reduce 4 st a) next

-- the innermost frame, and what is behind it
abbrev pub pop_of : Stack → Option Frame × Stack
pop_of [] = (None, [])
pop_of (g ∷ st) = (Some g, st)

abbrev pub push_back : Option Frame → Stack → Stack
push_back None st = st
push_back (Some g) st = g ∷ st

abbrev pub popped : {A : Type 0} → (Option Frame → Stack → Expr → A) → Stack → Expr → A
popped f st a = let q = pop_of st in f q.0 q.1 a

abbrev pub split : {A : Type 0} → (Stack → Expr → A) → Stack × Expr → A
split f r = f r.0 r.1

-- the AND of a BETWEEN, or the operator
abbrev pub and_on : ℕ → Option Frame → Stack → Expr → Option State
and_on m (Some (f.Low d a)) st b = Some (s.Operand (f.High d a b ∷ st))
and_on m g st b = tied 2 m (push_back g st, b) (λ st a. s.Operand (f.Binary op.And a ∷ st))

abbrev pub and_at : ℕ → Stack → Expr → Option State
and_at m = popped (and_on m)

-- ---- names, calls, IN

abbrev pub dotted : Stack → Text → Token → Option State
dotted st n (t.Word m c) = if is_reserved c || is_time c then None else Some (s.Done st 9 (e.Qualified n m))
dotted st n (t.Quoted m) = Some (s.Done st 9 (e.Qualified n m))
dotted st n _ = None

abbrev pub opened : Stack → Bool → Text → Token → Option State
opened st c n t.Close = Some (s.Done st 9 (e.Call n []))
opened st true n t.Star = Some (s.Counted st)
opened st c n u = operand (f.Args n [] ∷ st) u

abbrev pub counted : Stack → Token → Option State
counted st t.Close = Some (s.Done st 9 e.CountAll)
counted st _ = None

abbrev pub denied : Stack → Expr → Token → Option State
denied st a (t.Word n w.Like) = Some (s.Operand (f.Binary op.NotLike a ∷ st))
denied st a (t.Word n w.In) = Some (s.In st true a)
denied st a (t.Word n w.Between) = Some (s.Operand (f.Low true a ∷ st))
denied st a _ = None

abbrev pub is : Stack → Expr → Token → Option State
is st a (t.Word n w.Not) = Some (s.Operand (f.Binary op.IsNot a ∷ st))
is st a u = operand (f.Binary op.Is a ∷ st) u

abbrev pub among : Stack → Bool → Expr → Token → Option State
among st d a t.Open = Some (s.Listed st d a)
among st d a _ = None

abbrev pub listed : Stack → Bool → Expr → Token → Option State
listed st d a t.Close = Some (s.Done st 4 (e.InList d a []))
listed st d a u = operand (f.Among d a [] ∷ st) u
