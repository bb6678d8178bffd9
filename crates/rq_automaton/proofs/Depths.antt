-- A token never makes a statement less deep, and parentheses that are due come.
use Rattle.std.proofs.Common.{◌≡◌, ℕ, suc, max, Bool, List, [], ◌∷◌, ◌++◌, map, Option, arith}
use Rattle.rq_grammar.specs.declared.expr.BinaryOp.{BinaryOp}
use Rattle.rq_grammar.specs.declared.expr.Expr.{Expr}
use Rattle.rq_grammar.specs.declared.expr.Expr.TheVariants as e
use Rattle.rq_grammar.specs.declared.stmt.ResultItem.{ResultItem}
use Rattle.rq_grammar.specs.declared.stmt.OrderTerm.{OrderTerm}
use Rattle.rq_values.specs.declared.value.Value.{Value}
use Rattle.rq_grammar.specs.declared.expr.Expr.TheOpen.{Expr-F}
use Rattle.rq_grammar.specs.declared.expr.Expr.TheViews.{roll-Expr}
use Rattle.rq_grammar.specs.declared.expr.Expr.TheFolds.{fold-roll-Expr}
use Rattle.rq_grammar.specs.Words.{Text}
use Rattle.rq_grammar.specs.Depth.{most, depth_step, depth, depths, rows_depth, item_depth, results_depth, order_depth, term_depth, sets_depth, set_depth}

pub depth_literal : (a : Value) → depth (e.Literal a) ≡ 1
unfolding roll-Expr denote.Hole.Carrier.roll
depth_literal a = fold-roll-Expr ℕ depth_step (Expr-F.Literal a)

pub depth_param : (n : Option Text) → depth (e.Param n) ≡ 1
unfolding roll-Expr denote.Hole.Carrier.roll
depth_param n = fold-roll-Expr ℕ depth_step (Expr-F.Param n)

pub depth_name : (n : Text) → depth (e.Name n) ≡ 1
unfolding roll-Expr denote.Hole.Carrier.roll
depth_name n = fold-roll-Expr ℕ depth_step (Expr-F.Name n)

pub depth_qualified : (n m : Text) → depth (e.Qualified n m) ≡ 1
unfolding roll-Expr denote.Hole.Carrier.roll
depth_qualified n m = fold-roll-Expr ℕ depth_step (Expr-F.Qualified n m)

pub depth_timestamp : depth e.CurrentTimestamp ≡ 1
unfolding roll-Expr denote.Hole.Carrier.roll
depth_timestamp = fold-roll-Expr ℕ depth_step Expr-F.CurrentTimestamp

pub depth_date : depth e.CurrentDate ≡ 1
unfolding roll-Expr denote.Hole.Carrier.roll
depth_date = fold-roll-Expr ℕ depth_step Expr-F.CurrentDate

pub depth_time : depth e.CurrentTime ≡ 1
unfolding roll-Expr denote.Hole.Carrier.roll
depth_time = fold-roll-Expr ℕ depth_step Expr-F.CurrentTime

pub depth_count_all : depth e.CountAll ≡ 1
unfolding roll-Expr denote.Hole.Carrier.roll
depth_count_all = fold-roll-Expr ℕ depth_step Expr-F.CountAll

pub depth_call : (n : Text) (xs : List Expr) → depth (e.Call n xs) ≡ suc (max 1 (depths xs))
unfolding roll-Expr denote.Hole.Carrier.roll
depth_call n xs = fold-roll-Expr ℕ depth_step (Expr-F.Call n xs)

pub depth_minus : (a : Expr) → depth (e.Minus a) ≡ suc (depth a)
unfolding roll-Expr denote.Hole.Carrier.roll
depth_minus a = fold-roll-Expr ℕ depth_step (Expr-F.Minus a)

pub depth_not : (a : Expr) → depth (e.Not a) ≡ suc (depth a)
unfolding roll-Expr denote.Hole.Carrier.roll
depth_not a = fold-roll-Expr ℕ depth_step (Expr-F.Not a)

pub depth_binary : (o : BinaryOp) (a b : Expr) → depth (e.Binary o a b) ≡ suc (max (depth a) (depth b))
unfolding roll-Expr denote.Hole.Carrier.roll
depth_binary o a b = fold-roll-Expr ℕ depth_step (Expr-F.Binary o a b)

pub depth_in : (d : Bool) (a : Expr) (xs : List Expr) → depth (e.InList d a xs) ≡ suc (max (depth a) (depths xs))
unfolding roll-Expr denote.Hole.Carrier.roll
depth_in d a xs = fold-roll-Expr ℕ depth_step (Expr-F.InList d a xs)

pub depth_between : (d : Bool) (a b c : Expr) → depth (e.Between d a b c) ≡ suc (max (depth a) (max (depth b) (depth c)))
unfolding roll-Expr denote.Hole.Carrier.roll
depth_between d a b c = fold-roll-Expr ℕ depth_step (Expr-F.Between d a b c)

most_more : {A : Type 0} (size : A → ℕ) (xs : List A) (a : A) → most (map size (xs ++ a ∷ [])) ≡ max (most (map size xs)) (size a)
most_more size [] a = omega arith
most_more size (x ∷ xs) a = omega (arith, most_more size xs a)

pub depths_more : (xs : List Expr) (a : Expr) → depths (xs ++ a ∷ []) ≡ max (depths xs) (depth a)
depths_more xs a = most_more depth xs a

pub rows_more : (rs : List (List Expr)) (xs : List Expr) → rows_depth (rs ++ xs ∷ []) ≡ max (rows_depth rs) (depths xs)
rows_more rs xs = most_more depths rs xs

pub results_more : (is : List ResultItem) (i : ResultItem) → results_depth (is ++ i ∷ []) ≡ max (results_depth is) (item_depth i)
results_more is i = most_more item_depth is i

pub order_more : (is : List OrderTerm) (i : OrderTerm) → order_depth (is ++ i ∷ []) ≡ max (order_depth is) (term_depth i)
order_more is i = most_more term_depth is i

pub sets_more : (is : List (Text × Expr)) (i : Text × Expr) → sets_depth (is ++ i ∷ []) ≡ max (sets_depth is) (set_depth i)
sets_more is i = most_more set_depth is i
