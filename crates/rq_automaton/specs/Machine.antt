-- The machine that reads one token at a time: a state and a token give the next state.
use Rattle.std.specs.Prelude.{ℕ, suc, Bool, false, List, [], ◌∷◌, ◌++◌, Option, Some, None, Result, Ok, Err}
use Rattle.rq_grammar.specs.declared.word.Word.{Word}
use Rattle.rq_grammar.specs.declared.word.Word.TheVariants as w
use Rattle.rq_grammar.specs.declared.token.Token.{Token}
use Rattle.rq_grammar.specs.declared.token.Token.TheVariants as t
use Rattle.rq_grammar.specs.declared.expr.BinaryOp.TheVariants as op
use Rattle.rq_grammar.specs.declared.expr.Expr.{Expr}
use Rattle.rq_grammar.specs.declared.expr.Expr.TheVariants as e
use Rattle.rq_grammar.specs.declared.stmt.ResultItem.TheVariants as item
use Rattle.rq_grammar.specs.declared.stmt.Stmt.{Stmt}
use Rattle.rq_grammar.specs.declared.stmt.Stmt.TheVariants as stmt
use Rattle.rq_automaton.specs.declared.place.Target.{Target}
use Rattle.rq_automaton.specs.declared.place.Query.{Query}
use Rattle.rq_automaton.specs.declared.place.Stage.TheVariants as stage
use Rattle.rq_automaton.specs.declared.place.Place.{Place}
use Rattle.rq_automaton.specs.declared.place.Place.TheVariants as p
use Rattle.rq_automaton.specs.declared.place.InsertPlace.TheVariants as ip
use Rattle.rq_automaton.specs.declared.place.UpdatePlace.TheVariants as up
use Rattle.rq_automaton.specs.declared.place.SelectPlace.TheVariants as sp
use Rattle.rq_automaton.specs.declared.frame.Clause.{Clause}
use Rattle.rq_automaton.specs.declared.frame.Clause.TheVariants as c
use Rattle.rq_automaton.specs.declared.frame.Frame.{Frame}
use Rattle.rq_automaton.specs.declared.frame.Frame.TheVariants as f
use Rattle.rq_automaton.specs.declared.frame.State.{State}
use Rattle.rq_automaton.specs.declared.frame.State.TheVariants as s
use Rattle.rq_grammar.specs.Words.{Text, Tokens}
use Rattle.rq_grammar.specs.Grammar.{upper}
use Rattle.rq_grammar.specs.Statements.{rising, falling}
use Rattle.rq_automaton.specs.Stack.{Stack, reduce, split, popped, binary, grouped, and_at, operand, signed, dotted, opened, counted, denied, is, among, listed}
use Rattle.rq_automaton.specs.Places.{flat, inside, add_result, with_filter, add_term, with_limit, with_offset, place_step, place_finish}

-- where the machine stands once the clause's expression has ended; a row goes on or is closed
abbrev pub land : Clause → Expr → Option Place
land (c.Row i rs xs) a = None
land (c.Results q) a = Some (p.Select (sp.Tail stage.Results (add_result q (item.Value a None))))
land (c.Filter q) a = Some (p.Select (sp.Tail stage.Filtered (with_filter q a)))
land (c.Order q) a = Some (p.Select (sp.Tail stage.Ordered (add_term q (rising a))))
land (c.Limit q) a = Some (p.Select (sp.Tail stage.Limited (with_limit q a)))
land (c.Offset q) a = Some (p.Select (sp.Tail stage.Limited (with_offset q a)))
land (c.Set n is m) a = Some (p.Update (up.Sets n (is ++ (m, a) ∷ [])))
land (c.UpdateFilter n is) a = Some (p.Ended (stmt.Update n is (Some a)))
land (c.DeleteFilter n) a = Some (p.Ended (stmt.Delete n (Some a)))

abbrev pub landed : Option Place → Token → Option State
landed None u = None
landed (Some x) u = place_step x u

abbrev pub landed_end : Option Place → Option Stmt
landed_end None = None
landed_end (Some x) = place_finish x

-- ---- the token behind a clause's expression

abbrev pub row_on : Target → List (List Expr) → List Expr → Expr → Token → Option State
row_on i rs xs a t.Comma = inside (c.Row i rs (xs ++ a ∷ []))
row_on i rs xs a t.Close = flat (p.Insert (ip.Rows i (rs ++ (xs ++ a ∷ []) ∷ [])))
row_on i rs xs a _ = None

abbrev pub results_on : Query → Expr → Token → Option State
results_on q a (t.Word n w.As) = flat (p.Select (sp.Alias q a))
results_on q a u = landed (land (c.Results q) a) u

abbrev pub order_on : Query → Expr → Token → Option State
order_on q a (t.Word n w.Asc) = flat (p.Select (sp.Tail stage.Ordered (add_term q (rising a))))
order_on q a (t.Word n w.Desc) = flat (p.Select (sp.Tail stage.Ordered (add_term q (falling a))))
order_on q a u = landed (land (c.Order q) a) u

abbrev pub limit_on : Query → Expr → Token → Option State
limit_on q a (t.Word n w.Offset) = inside (c.Offset (with_limit q a))
limit_on q a u = landed (land (c.Limit q) a) u

unfoldable pub clause_on : Clause → Expr → Token → Option State
clause_on (c.Row i rs xs) a u = row_on i rs xs a u
clause_on (c.Results q) a u = results_on q a u
clause_on (c.Order q) a u = order_on q a u
clause_on (c.Limit q) a u = limit_on q a u
clause_on x a u = landed (land x a) u

-- ---- the token behind an expression that it ends

abbrev pub args_on : Text → List Expr → Stack → Expr → Token → Option State
args_on n xs st a t.Comma = Some (s.Operand (f.Args n (xs ++ a ∷ []) ∷ st))
args_on n xs st a t.Close = Some (s.Done st 9 (e.Call n (xs ++ a ∷ [])))
args_on n xs st a _ = None

abbrev pub among_on : Bool → Expr → List Expr → Stack → Expr → Token → Option State
among_on d b xs st a t.Comma = Some (s.Operand (f.Among d b (xs ++ a ∷ []) ∷ st))
among_on d b xs st a t.Close = Some (s.Done st 4 (e.InList d b (xs ++ a ∷ [])))
among_on d b xs st a _ = None

abbrev pub paren_on : Stack → Expr → Token → Option State
paren_on st a t.Close = Some (s.Done st 9 a)
paren_on st a _ = None

unfoldable pub ended_on : Token → Option Frame → Stack → Expr → Option State
ended_on u (Some f.Paren) st a = paren_on st a u
ended_on u (Some (f.Args n xs)) st a = args_on n xs st a u
ended_on u (Some (f.Among d b xs)) st a = among_on d b xs st a u
ended_on u (Some (f.Clause x)) st a = clause_on x a u
ended_on u _ st a = None

abbrev pub ended_at : Token → Stack → Expr → Option State
ended_at u = popped (ended_on u)

unfoldable pub end_on : Option Frame → Stack → Expr → Option Stmt
end_on (Some (f.Clause x)) st a = landed_end (land x a)
end_on _ st a = None

abbrev pub end_at : Stack → Expr → Option Stmt
end_at = popped end_on

-- ---- the token behind an operand of level m

abbrev pub done_word : ℕ → Stack → Expr → Text → Word → Option State
done_word m st a n w.Or = binary op.Or m st a
done_word m st a n w.And = split (and_at m) (reduce 2 st a)
done_word m st a n w.Is = grouped m st a s.Is
done_word m st a n w.Like = binary op.Like m st a
done_word m st a n w.Not = grouped m st a s.Denied
done_word m st a n w.In = grouped m st a (λ st a. s.In st false a)
done_word m st a n w.Between = grouped m st a (λ st a. s.Operand (f.Low false a ∷ st))
done_word m st a n w.As = split (ended_at (t.Word n w.As)) (reduce 0 st a)
done_word m st a n w.From = split (ended_at (t.Word n w.From)) (reduce 0 st a)
done_word m st a n w.Where = split (ended_at (t.Word n w.Where)) (reduce 0 st a)
done_word m st a n w.Order = split (ended_at (t.Word n w.Order)) (reduce 0 st a)
done_word m st a n w.Asc = split (ended_at (t.Word n w.Asc)) (reduce 0 st a)
done_word m st a n w.Desc = split (ended_at (t.Word n w.Desc)) (reduce 0 st a)
done_word m st a n w.Limit = split (ended_at (t.Word n w.Limit)) (reduce 0 st a)
done_word m st a n w.Offset = split (ended_at (t.Word n w.Offset)) (reduce 0 st a)
done_word m st a n _ = None

unfoldable pub done : ℕ → Stack → Expr → Token → Option State
done m st a (t.Word n v) = done_word m st a n v
done m st a t.Equal = binary op.Equal m st a
done m st a t.EqualEqual = binary op.Equal m st a
done m st a t.LessGreater = binary op.NotEqual m st a
done m st a t.BangEqual = binary op.NotEqual m st a
done m st a t.Less = binary op.Less m st a
done m st a t.LessEqual = binary op.LessEqual m st a
done m st a t.Greater = binary op.Greater m st a
done m st a t.GreaterEqual = binary op.GreaterEqual m st a
done m st a t.Plus = binary op.Add m st a
done m st a t.Minus = binary op.Sub m st a
done m st a t.Star = binary op.Mul m st a
done m st a t.Slash = binary op.Div m st a
done m st a t.Percent = binary op.Rem m st a
done m st a t.BarBar = binary op.Concat m st a
done m st a t.Comma = split (ended_at t.Comma) (reduce 0 st a)
done m st a t.Close = split (ended_at t.Close) (reduce 0 st a)
done m st a t.Semi = split (ended_at t.Semi) (reduce 0 st a)
done m st a _ = None

abbrev pub quoted : Stack → Text → Token → Option State
quoted st n t.Dot = Some (s.Dotted st n)
quoted st n u = done 9 st (e.Name n) u

abbrev pub named : Stack → Bool → Text → Token → Option State
named st b n t.Dot = Some (s.Dotted st n)
named st b n t.Open = Some (s.Opened st b (upper n))
named st b n u = done 9 st (e.Name n) u

-- ---- the machine

unfoldable pub step : State → Token → Option State
step (s.Flat x) u = place_step x u
step (s.Operand st) u = operand st u
step (s.Signed st) u = signed st u
step (s.Quoted st n) u = quoted st n u
step (s.Named st b n) u = named st b n u
step (s.Dotted st n) u = dotted st n u
step (s.Opened st b n) u = opened st b n u
step (s.Counted st) u = counted st u
step (s.Done st m a) u = done m st a u
step (s.Denied st a) u = denied st a u
step (s.Is st a) u = is st a u
step (s.In st d a) u = among st d a u
step (s.Listed st d a) u = listed st d a u

-- the statement, if the tokens end here
unfoldable pub finish : State → Option Stmt
finish (s.Flat x) = place_finish x
finish (s.Quoted st n) = split end_at (reduce 0 st (e.Name n))
finish (s.Named st b n) = split end_at (reduce 0 st (e.Name n))
finish (s.Done st m a) = split end_at (reduce 0 st a)
finish _ = None

abbrev pub one_further : Result Stmt ℕ → Result Stmt ℕ
one_further (Ok r) = Ok r
one_further (Err n) = Err (suc n)

abbrev pub or_here : Option Stmt → Result Stmt ℕ
or_here (Some r) = Ok r
or_here None = Err 0

abbrev pub onward : Option State → (State → Result Stmt ℕ) → Result Stmt ℕ
onward None next = Err 0
onward (Some q) next = one_further (next q)

-- the statement, or how many tokens there are before the one that is refused
unfoldable pub parse : State → Tokens → Result Stmt ℕ
parse q [] = or_here (finish q)
parse q (u ∷ us) = onward (step q u) (λ next. parse next us)

abbrev pub Start : State
Start = s.Flat p.Start
