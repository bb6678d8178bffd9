-- An expression with values in place of its nodes, in source order.
use Rattle.std.specs.Prelude.{List, [], ◌∷◌, map, Option, Some, None}
use Rattle.rq_values.specs.declared.value.Value.{Value}
use Rattle.rq_grammar.specs.Words.{Text}
use Rattle.rq_grammar.specs.declared.expr.Expr.{Expr}
use Rattle.rq_grammar.specs.declared.expr.Expr.TheVariants as e
use Rattle.rq_grammar.specs.declared.expr.Expr.TheOpen.{Expr-F}
use Rattle.rq_grammar.specs.declared.expr.Expr.TheFolds.{fold-Expr}
use Rattle.rq_binding.specs.declared.node.Sort.{Sort}
use Rattle.rq_binding.specs.declared.node.Sort.TheVariants as sort
use Rattle.rq_binding.specs.declared.node.Drawn.{Drawn}
use Rattle.rq_binding.specs.declared.node.Drawn.TheVariants as drawn
use Rattle.rq_binding.specs.Nodes.{call_node}

-- what becomes of something where these values are left: it, and the values that are left then
abbrev pub Fill : Type 0 → Type 0
Fill A = List Value → A × List Value

-- an expression: the literal that it is, and what becomes of it
pub record Filling : Type 0 where
  pub literal : Option Value
  pub fill : Fill Expr

abbrev pub still : Expr → Fill Expr
still a left = (a, left)

-- the next value; where none is left it stays
abbrev pub next_or : Expr → Fill Expr
next_or a [] = (a, [])
next_or a (x ∷ left) = (e.Literal x, left)

abbrev pub filled_parameter : Sort → Expr → Fill Expr
filled_parameter sort.Parameters a = next_or a
filled_parameter sort.Drawn a = still a

abbrev pub filled_moment : Sort → Expr → Fill Expr
filled_moment sort.Parameters a = still a
filled_moment sort.Drawn a = next_or a

abbrev pub fill_all : List Filling → Fill (List Expr)
fill_all [] left = ([], left)
fill_all (a ∷ xs) left = let p : Expr × List Value = a.fill left in let q : List Expr × List Value = fill_all xs p.1 in (p.0 ∷ q.0, q.1)

-- the three calls keep their name, with the moment as their argument
abbrev pub call_with : Text → Value → Expr
call_with n x = e.Call n (e.Literal x ∷ [])

abbrev pub filled_node : Drawn → Text → Value → Expr
filled_node (drawn.Moment p) n x = call_with n x
filled_node _ n x = e.Literal x

abbrev pub filled_call : Option Drawn → Text → Fill (List Expr) → Fill Expr
filled_call None n f left = let p : List Expr × List Value = f left in (e.Call n p.0, p.1)
filled_call (Some a) n f [] = let p : List Expr × List Value = f [] in (e.Call n p.0, p.1)
filled_call (Some a) n f (x ∷ left) = (filled_node a n x, left)

abbrev pub filled_one : (Expr → Expr) → Filling → Fill Expr
filled_one make a left = let p : Expr × List Value = a.fill left in (make p.0, p.1)

abbrev pub filled_two : (Expr → Expr → Expr) → Filling → Filling → Fill Expr
filled_two make a b left = let p : Expr × List Value = a.fill left in let q : Expr × List Value = b.fill p.1 in (make p.0 q.0, q.1)

abbrev pub filled_list : (Expr → List Expr → Expr) → Filling → List Filling → Fill Expr
filled_list make a xs left = let p : Expr × List Value = a.fill left in let q : List Expr × List Value = fill_all xs p.1 in (make p.0 q.0, q.1)

abbrev pub filled_three : (Expr → Expr → Expr → Expr) → Filling → Filling → Filling → Fill Expr
filled_three make a b c left = let p : Expr × List Value = a.fill left in let q : Expr × List Value = b.fill p.1 in let r : Expr × List Value = c.fill q.1 in (make p.0 q.0 r.0, r.1)

abbrev pub becomes : Fill Expr → Filling
becomes f = record { literal = None; fill = f }

abbrev pub fill_step : Sort → Expr-F Filling → Filling
fill_step s (Expr-F.Literal a) = record { literal = Some a; fill = still (e.Literal a) }
fill_step s (Expr-F.Param n) = becomes (filled_parameter s (e.Param n))
fill_step s (Expr-F.Name n) = becomes (still (e.Name n))
fill_step s (Expr-F.Qualified n m) = becomes (still (e.Qualified n m))
fill_step s Expr-F.CurrentTimestamp = becomes (filled_moment s e.CurrentTimestamp)
fill_step s Expr-F.CurrentDate = becomes (filled_moment s e.CurrentDate)
fill_step s Expr-F.CurrentTime = becomes (filled_moment s e.CurrentTime)
fill_step s Expr-F.CountAll = becomes (still e.CountAll)
fill_step s (Expr-F.Call n xs) = becomes (filled_call (call_node s n (map (λ a. a.literal) xs)) n (fill_all xs))
fill_step s (Expr-F.Minus a) = becomes (filled_one e.Minus a)
fill_step s (Expr-F.Not a) = becomes (filled_one e.Not a)
fill_step s (Expr-F.Binary o a b) = becomes (filled_two (e.Binary o) a b)
fill_step s (Expr-F.InList d a xs) = becomes (filled_list (e.InList d) a xs)
fill_step s (Expr-F.Between d a b c) = becomes (filled_three (e.Between d) a b c)

abbrev pub filling : Sort → Expr → Filling
filling s = fold-Expr Filling (fill_step s)

-- the expression with the next values in place of its nodes, and the values that are left
abbrev pub filled : Sort → Expr → Fill Expr
filled s a = (filling s a).fill

abbrev pub all_filled : Sort → List Expr → Fill (List Expr)
all_filled s xs = fill_all (map (filling s) xs)

-- ---- the same, part by part

abbrev pub filled_args : Sort → Text → List Expr → Fill Expr
filled_args s n xs left = (e.Call n (all_filled s xs left).0, (all_filled s xs left).1)

abbrev pub filled_items : (List Expr → Expr) → Sort → List Expr → Fill Expr
filled_items make s xs left = (make (all_filled s xs left).0, (all_filled s xs left).1)
