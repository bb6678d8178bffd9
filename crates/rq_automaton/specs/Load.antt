-- The least depth of a statement on a stack, as two numbers: what the frames need whatever the operand is, and the levels above the operand.
use Rattle.std.specs.Prelude.{ℕ, suc, ◌+◌, ◌≡◌, Bool, true, false, max, min, List, [], ◌∷◌, map}
use Rattle.rq_automaton.specs.declared.place.Query.{Query}
use Rattle.rq_automaton.specs.declared.place.Stage.{Stage}
use Rattle.rq_automaton.specs.declared.place.Stage.TheVariants as stage
use Rattle.rq_automaton.specs.declared.frame.Clause.{Clause}
use Rattle.rq_automaton.specs.declared.frame.Clause.TheVariants as c
use Rattle.rq_automaton.specs.declared.frame.Frame.{Frame}
use Rattle.rq_automaton.specs.declared.frame.Frame.TheVariants as f
use Rattle.rq_automaton.specs.declared.frame.Held.{Held}
use Rattle.rq_grammar.specs.Depth.{depth, depths, rows_depth, maybe_depth, results_depth, order_depth, sets_depth, select_depth}

-- the depth of the parts of a select that are read
abbrev pub stage_depth : Stage → Query → ℕ
stage_depth stage.Results q = results_depth q.select.results
stage_depth stage.Source q = results_depth q.select.results
stage_depth stage.Filtered q = max (results_depth q.select.results) (maybe_depth q.select.filter)
stage_depth stage.Ordered q = max (results_depth q.select.results) (max (maybe_depth q.select.filter) (order_depth q.select.order))
stage_depth stage.Limited q = select_depth q.select

-- the least depth of a statement in whose clause an operand of depth d stands
abbrev pub clause_least : Clause → ℕ → ℕ
clause_least (c.Row i rs xs) d = max (rows_depth rs) (max (depths xs) d)
clause_least (c.Results q) d = max (stage_depth stage.Results q) d
clause_least (c.Filter q) d = max (stage_depth stage.Results q) d
clause_least (c.Order q) d = max (stage_depth stage.Ordered q) d
clause_least (c.Limit q) d = max (stage_depth stage.Ordered q) d
clause_least (c.Offset q) d = max (stage_depth stage.Ordered q) (max (maybe_depth q.select.limit) d)
clause_least (c.Set n is m) d = max (sets_depth is) d
clause_least (c.UpdateFilter n is) d = max (sets_depth is) d
clause_least (c.DeleteFilter n) d = d

abbrev pub is_clause : Frame → Bool
is_clause (f.Clause k) = true
is_clause _ = false

-- what a frame needs whatever its operand is
abbrev pub needs : Frame → ℕ
needs (f.Binary o a) = suc (depth a)
needs (f.Low b a) = suc (max (depth a) 1)
needs (f.High b a a') = suc (max (depth a) (depth a'))
needs (f.Args n xs) = suc (max 1 (depths xs))
needs (f.Among b a xs) = suc (max (depth a) (depths xs))
needs _ = 0

-- the levels that a frame adds to its operand
abbrev pub adds : Frame → ℕ
adds f.Plus = 0
adds f.Paren = 0
adds (f.Clause k) = 0
adds _ = 1

abbrev pub height : List Frame → ℕ
height [] = 0
height (f.Clause k ∷ st) = 0
height (g ∷ st) = adds g + height st

abbrev pub floor : List Frame → ℕ
floor [] = 0
floor (f.Clause k ∷ st) = clause_least k 0
floor (g ∷ st) = max (floor st) (needs g + height st)

abbrev pub frames : List Held → List Frame
frames hs = map (λ h. h.frame) hs

-- each frame holds both numbers, counted up to 101
abbrev pub Loaded : List Held → Type 0
Loaded [] = Unit {0}
Loaded (h ∷ hs) = (h.floor ≡ min 101 (floor (h.frame ∷ frames hs))) × (h.height ≡ min 101 (height (h.frame ∷ frames hs))) × Loaded hs
