-- The machine within limits: each state has a weight, the least depth of a statement that goes on from it, and a due, the `(` that must still come.
use Rattle.std.specs.Prelude.{ℕ, suc, ◌+◌, max, nat_le, ◌&&◌, if◌then◌else◌, [], ◌∷◌, Option, Some, None, Result, Ok, Err}
use Rattle.rq_grammar.specs.declared.stmt.Stmt.{Stmt}
use Rattle.rq_automaton.specs.declared.place.Stage.TheVariants as stage
use Rattle.rq_automaton.specs.declared.place.Place.{Place}
use Rattle.rq_automaton.specs.declared.place.Place.TheVariants as p
use Rattle.rq_automaton.specs.declared.place.CreatePlace.TheVariants as cp
use Rattle.rq_automaton.specs.declared.place.InsertPlace.TheVariants as ip
use Rattle.rq_automaton.specs.declared.place.UpdatePlace.TheVariants as up
use Rattle.rq_automaton.specs.declared.place.SelectPlace.TheVariants as sp
use Rattle.rq_automaton.specs.declared.frame.Frame.TheVariants as f
use Rattle.rq_automaton.specs.declared.frame.State.{State}
use Rattle.rq_automaton.specs.declared.frame.State.TheVariants as s
use Rattle.rq_grammar.specs.Words.{Tokens}
use Rattle.rq_automaton.specs.Stack.{Stack}
use Rattle.rq_automaton.specs.Machine.{step, finish}
use Rattle.rq_automaton.specs.Load.{stage_depth, clause_least}
use Rattle.rq_grammar.specs.Depth.{depth, depths, rows_depth, sets_depth, deepest, open_behind, Limits, Stop, NoStatement, TooDeep}

-- the least depth of a statement in which an operand of depth d stands on the stack
abbrev pub least : Stack → ℕ → ℕ
least [] d = d
least (f.Binary o a ∷ st) d = least st (suc (max (depth a) d))
least (f.Not ∷ st) d = least st (suc d)
least (f.Plus ∷ st) d = least st d
least (f.Minus ∷ st) d = least st (suc d)
least (f.Low b a ∷ st) d = least st (suc (max (depth a) (max d 1)))
least (f.High b a a' ∷ st) d = least st (suc (max (depth a) (max (depth a') d)))
least (f.Paren ∷ st) d = least st d
least (f.Args n xs ∷ st) d = least st (suc (max 1 (max (depths xs) d)))
least (f.Among b a xs ∷ st) d = least st (suc (max (depth a) (max (depths xs) d)))
least (f.Clause k ∷ st) d = clause_least k d

abbrev pub place_weight : Place → ℕ
place_weight (p.Insert (ip.Values i rs)) = max 1 (rows_depth rs)
place_weight (p.Insert (ip.Rows i rs)) = rows_depth rs
place_weight (p.Update up.Begun) = 1
place_weight (p.Update (up.Table n)) = 1
place_weight (p.Update (up.SetStart n is)) = max 1 (sets_depth is)
place_weight (p.Update (up.SetName n is m)) = max 1 (sets_depth is)
place_weight (p.Update (up.Sets n is)) = sets_depth is
place_weight (p.Select (sp.Result q)) = stage_depth stage.Results q
place_weight (p.Select (sp.Alias q a)) = max (stage_depth stage.Results q) (depth a)
place_weight (p.Select (sp.Tail g q)) = stage_depth g q
place_weight (p.Select (sp.From q)) = stage_depth stage.Results q
place_weight (p.Select (sp.Order q)) = max 1 (stage_depth stage.Filtered q)
place_weight (p.Ended r) = deepest r
place_weight _ = 0

-- `COUNT (` may become a node without arguments
abbrev pub weight : State → ℕ
weight (s.Flat z) = place_weight z
weight (s.Operand st) = least st 1
weight (s.Signed st) = least st 1
weight (s.Quoted st n) = least st 1
weight (s.Named st b n) = least st 1
weight (s.Dotted st n) = least st 1
weight (s.Opened st b n) = least st (if b then 1 else 2)
weight (s.Counted st) = least st 1
weight (s.Done st m a) = least st (depth a)
weight (s.Denied st a) = least st (suc (depth a))
weight (s.Is st a) = least st (suc (max (depth a) 1))
weight (s.In st b a) = least st (suc (depth a))
weight (s.Listed st b a) = least st (suc (depth a))

abbrev pub place_due : Place → ℕ
place_due (p.Create cp.Begun) = 1
place_due (p.Create cp.Table) = 1
place_due (p.Create (cp.If n)) = 1
place_due (p.Create cp.IfNot) = 1
place_due (p.Create cp.IfNotExists) = 1
place_due (p.Create (cp.Named b n)) = 1
place_due (p.Insert (ip.Values i rs)) = 1
place_due _ = 0

-- how many `(` must still come
abbrev pub due : State → ℕ
due (s.Flat z) = place_due z
due (s.In st b a) = 1
due _ = 0

-- the state, if n open parentheses and it are within the limits
abbrev pub limited : Limits → ℕ → Option State → Result State Stop
limited l n None = Err NoStatement
limited l n (Some q) = if nat_le (weight q) l.depth && nat_le (n + due q) l.parens then Ok q else Err TooDeep

abbrev pub one_later : Result Stmt (Stop × ℕ) → Result Stmt (Stop × ℕ)
one_later (Ok r) = Ok r
one_later (Err w) = Err (w.0, suc w.1)

abbrev pub going : Result State Stop → (State → Result Stmt (Stop × ℕ)) → Result Stmt (Stop × ℕ)
going (Ok q) next = one_later (next q)
going (Err stop) next = Err (stop, 0)

abbrev pub or_nothing : Option Stmt → Result Stmt (Stop × ℕ)
or_nothing (Some r) = Ok r
or_nothing None = Err (NoStatement, 0)

-- the statement, or why and how many tokens behind reading stops; n parentheses are open
unfoldable pub parse_within : Limits → ℕ → State → Tokens → Result Stmt (Stop × ℕ)
parse_within l n q [] = or_nothing (finish q)
parse_within l n q (u ∷ us) = going (limited l (open_behind n u) (step q u)) (λ next. parse_within l (open_behind n u) next us)
