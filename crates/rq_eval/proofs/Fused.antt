-- The value of the resolved expression is the value of the expression.
use Rattle.std.proofs.Common.{Result, ◌≡◌, ℕ, Bool, true, false, if◌then◌else◌, List, [], ◌∷◌, map, suc, length, Option, Some, None, Ok, Err, pos, refl, sym, ◌∙◌, ap, subst}
use Rattle.rq_values.specs.declared.value.Value.{Value}
use Rattle.rq_values.specs.declared.value.Value.TheVariants as v
use Rattle.rq_grammar.specs.declared.expr.BinaryOp.{BinaryOp}
use Rattle.rq_grammar.specs.declared.expr.Expr.{Expr}
use Rattle.rq_grammar.specs.declared.expr.Expr.TheOpen.{Expr-F}
use Rattle.rq_grammar.specs.declared.expr.Expr.TheViews.{roll-Expr}
use Rattle.rq_grammar.specs.declared.expr.Expr.TheFolds.{fold-roll-Expr, ind-Expr, map-Expr}
use Rattle.rq_eval.specs.declared.error.EvalError.{EvalError}
use Rattle.rq_eval.specs.declared.error.StmtError.TheVariants as error
use Rattle.rq_eval.specs.declared.resolved.ResolveError.{ResolveError}
use Rattle.rq_eval.specs.declared.resolved.ResolveError.TheVariants as wrong
use Rattle.rq_operators.specs.declared.operators.UnaryOp.{UnaryOp}
use Rattle.rq_operators.specs.declared.operators.UnaryOp.TheVariants as u
use Rattle.rq_operators.specs.declared.operators.AggregateOp.{AggregateOp}
use Rattle.rq_operators.specs.declared.operators.Function.{Function}
use Rattle.rq_operators.specs.declared.operators.Function.TheVariants as f
use Rattle.rq_eval.specs.declared.resolved.ResolvedExpr.{ResolvedExpr}
use Rattle.rq_eval.specs.declared.resolved.ResolvedExpr.TheVariants as x
use Rattle.rq_eval.specs.declared.resolved.ResolvedExpr.TheOpen.{ResolvedExpr-F}
use Rattle.rq_eval.specs.declared.resolved.ResolvedExpr.TheViews.{roll-ResolvedExpr}
use Rattle.rq_eval.specs.declared.resolved.ResolvedExpr.TheFolds.{fold-roll-ResolvedExpr}
use Rattle.rq_eval.specs.declared.row.Scope.{Scope}
use Rattle.rq_eval.specs.Outcome.{Outcome, Answers, stated}
use Rattle.rq_operators.specs.Operators.{in_range}
use Rattle.rq_eval.specs.Names.{Row, place, qualified_place, value_at}
use Rattle.rq_operators.specs.Functions.{function_of, takes}
use Rattle.rq_operators.specs.Aggregates.{start}
use Rattle.rq_eval.specs.Aggregates.{over}
use Rattle.rq_eval.specs.Resolved.{evaluated, evaluated_step, resolved, resolved_step, error_of, column_or, sole_argument, applied_to, call_of, count_all, negated_if}
use Rattle.rq_eval.specs.Value.{Gives, Meaning, on_one, on_two, in_values, between_values, coalesced, found, sole, applied, called, count_of_rows, not_if, value_step, value_in}

-- ---- the equations of the fold over the resolved expression

module _ (rs : List Row) where
  ev_literal : (y : Value) → evaluated rs (x.Literal y) ≡ (λ r. Ok y)
  unfolding roll-ResolvedExpr denote.Hole.Carrier.roll
  ev_literal y = fold-roll-ResolvedExpr Gives (evaluated_step rs) (ResolvedExpr-F.Literal y)

  ev_column : (i : ℕ) → evaluated rs (x.Column i) ≡ (λ r. Ok (value_at r i))
  unfolding roll-ResolvedExpr denote.Hole.Carrier.roll
  ev_column i = fold-roll-ResolvedExpr Gives (evaluated_step rs) (ResolvedExpr-F.Column i)

  ev_error : (e : ResolveError) → evaluated rs (x.Error e) ≡ (λ r. Err (error_of e))
  unfolding roll-ResolvedExpr denote.Hole.Carrier.roll
  ev_error e = fold-roll-ResolvedExpr Gives (evaluated_step rs) (ResolvedExpr-F.Error e)

  ev_unary : (h : UnaryOp) (y : ResolvedExpr) → evaluated rs (x.Unary h y) ≡ on_one h (evaluated rs y)
  unfolding roll-ResolvedExpr denote.Hole.Carrier.roll
  ev_unary h y = fold-roll-ResolvedExpr Gives (evaluated_step rs) (ResolvedExpr-F.Unary h y)

  ev_binary : (h : BinaryOp) (y z : ResolvedExpr) → evaluated rs (x.Binary h y z) ≡ on_two h (evaluated rs y) (evaluated rs z)
  unfolding roll-ResolvedExpr denote.Hole.Carrier.roll
  ev_binary h y z = fold-roll-ResolvedExpr Gives (evaluated_step rs) (ResolvedExpr-F.Binary h y z)

  ev_in_list : (y : ResolvedExpr) (ys : List ResolvedExpr) → evaluated rs (x.InList y ys) ≡ in_values (evaluated rs y) (map (evaluated rs) ys)
  unfolding roll-ResolvedExpr denote.Hole.Carrier.roll
  ev_in_list y ys = fold-roll-ResolvedExpr Gives (evaluated_step rs) (ResolvedExpr-F.InList y ys)

  ev_between : (y z w : ResolvedExpr) → evaluated rs (x.Between y z w) ≡ between_values (evaluated rs y) (evaluated rs z) (evaluated rs w)
  unfolding roll-ResolvedExpr denote.Hole.Carrier.roll
  ev_between y z w = fold-roll-ResolvedExpr Gives (evaluated_step rs) (ResolvedExpr-F.Between y z w)

  ev_coalesce : (ys : List ResolvedExpr) → evaluated rs (x.Coalesce ys) ≡ coalesced (map (evaluated rs) ys)
  unfolding roll-ResolvedExpr denote.Hole.Carrier.roll
  ev_coalesce ys = fold-roll-ResolvedExpr Gives (evaluated_step rs) (ResolvedExpr-F.Coalesce ys)

  ev_count_all : evaluated rs x.CountAll ≡ (λ r. stated (in_range (pos (length rs))))
  unfolding roll-ResolvedExpr denote.Hole.Carrier.roll
  ev_count_all = fold-roll-ResolvedExpr Gives (evaluated_step rs) ResolvedExpr-F.CountAll

  ev_aggregate : (h : AggregateOp) (y : ResolvedExpr) → evaluated rs (x.Aggregate h y) ≡ (λ r. over h (evaluated rs y) (start h) rs)
  unfolding roll-ResolvedExpr denote.Hole.Carrier.roll
  ev_aggregate h y = fold-roll-ResolvedExpr Gives (evaluated_step rs) (ResolvedExpr-F.Aggregate h y)

-- ---- each node

abbrev pub Same : List Row → Scope → Expr → Type 0
Same rs s a = (g : Bool) → evaluated rs (resolved s a g) ≡ value_in rs s a g

module _ (rs : List Row) (s : Scope) where
  abbrev Item : Type 0
  Item = (y : Expr) × Same rs s y

  abbrev bare_of : List Item → List Expr
  bare_of es = map (λ i. i.0) es

  abbrev resolved_of : List Item → List (Bool → ResolvedExpr)
  resolved_of es = map (resolved s) (bare_of es)

  abbrev meanings_of : List Item → List Meaning
  meanings_of es = map (value_in rs s) (bare_of es)

  same_lengths : (es : List Item) → length (resolved_of es) ≡ length (meanings_of es)
  same_lengths [] = refl
  same_lengths (i ∷ es) = ap suc (same_lengths es)

  list_same : (es : List Item) (g : Bool) → map (evaluated rs) (map (λ y. y g) (resolved_of es)) ≡ map (λ y. y g) (meanings_of es)
  list_same [] g = refl
  list_same (i ∷ es) g = ap (λ (y : Gives). y ∷ map (evaluated rs) (map (λ y. y g) (resolved_of es))) (i.1 g) ∙ ap (λ (ys : List Gives). value_in rs s i.0 g ∷ ys) (list_same es g)

  column_same : (o : Option ℕ) (e : ResolveError) (g : Bool) → evaluated rs (column_or o e g) ≡ found o (error_of e) g
  column_same None e g = ev_error rs e
  column_same (Some i) e true = ev_error rs wrong.MisuseOfAggregate
  column_same (Some i) e false = ev_column rs i

  sole_same : (es : List Item) (g : Bool) → evaluated rs (sole_argument (resolved_of es) g) ≡ sole (meanings_of es) g
  sole_same [] g = ev_literal rs v.Null
  sole_same (i ∷ es) g = i.1 g

  applied_same : (h : Function) (es : List Item) (g : Bool) → evaluated rs (applied_to h (resolved_of es) g) ≡ applied rs h (meanings_of es) g
  applied_same (f.Unary h) es g = ev_unary rs h (sole_argument (resolved_of es) g) ∙ ap (on_one h) (sole_same es g)
  applied_same f.Coalesce es g = ev_coalesce rs (map (λ y. y g) (resolved_of es)) ∙ ap coalesced (list_same es g)
  applied_same f.IfNull es g = ev_coalesce rs (map (λ y. y g) (resolved_of es)) ∙ ap coalesced (list_same es g)
  applied_same (f.Aggregate h) es true = ev_aggregate rs h (sole_argument (resolved_of es) false) ∙ ap {B = Gives} (λ y r. over h y (start h) rs) (sole_same es false)
  applied_same (f.Aggregate h) es false = ev_error rs wrong.MisuseOfAggregate
  applied_same f.Random es g = ev_literal rs v.Null
  applied_same f.RandomBlob es g = ev_literal rs v.Null

  if_same : (b c : Bool) (y z : ResolvedExpr) (m n : Gives) → b ≡ c → evaluated rs y ≡ m → evaluated rs z ≡ n → evaluated rs (if b then y else z) ≡ (λ r. if c then m r else n r)
  if_same true true y z m n e h k = h
  if_same true false y z m n e h k = absurd (cc)
  if_same false true y z m n e h k = absurd (cc)
  if_same false false y z m n e h k = k

  called_same : (n : List ℕ) (o : Option Function) (es : List Item) (g : Bool) → evaluated rs (call_of n o (resolved_of es) g) ≡ called rs n o (meanings_of es) g
  called_same n None es g = ev_error rs (wrong.NoFunction n)
  called_same n (Some h) es g =
      if_same (takes h (length (resolved_of es))) (takes h (length (meanings_of es))) (applied_to h (resolved_of es) g) (x.Error (wrong.WrongArguments n)) (applied rs h (meanings_of es) g) (λ r. Err (error.WrongArguments n))
      (ap (takes h) (same_lengths es)) (applied_same h es g) (ev_error rs (wrong.WrongArguments n))

  count_same : (g : Bool) → evaluated rs (count_all g) ≡ count_of_rows rs g
  count_same true = ev_count_all rs
  count_same false = ev_error rs wrong.MisuseOfAggregate

  negated_same : (d : Bool) (y : ResolvedExpr) (m : Gives) → evaluated rs y ≡ m → evaluated rs (negated_if d y) ≡ not_if d m
  negated_same true y m e = ev_unary rs u.Not y ∙ ap (on_one u.Not) e
  negated_same false y m e = e

  in_list_same : (a : Item) (es : List Item) (g : Bool) → evaluated rs (x.InList (resolved s a.0 g) (map (λ y. y g) (resolved_of es))) ≡ in_values (value_in rs s a.0 g) (map (λ y. y g) (meanings_of es))
  in_list_same a es g =
      ev_in_list rs (resolved s a.0 g) (map (λ y. y g) (resolved_of es))
      ∙ ap (λ (y : Gives). in_values y (map (evaluated rs) (map (λ y. y g) (resolved_of es)))) (a.1 g) ∙ ap (in_values (value_in rs s a.0 g)) (list_same es g)

  between_same : (a b c : Item) (g : Bool) → evaluated rs (x.Between (resolved s a.0 g) (resolved s b.0 g) (resolved s c.0 g)) ≡ between_values (value_in rs s a.0 g) (value_in rs s b.0 g) (value_in rs s c.0 g)
  between_same a b c g =
      ev_between rs (resolved s a.0 g) (resolved s b.0 g) (resolved s c.0 g)
      ∙ ap (λ (y : Gives). between_values y (evaluated rs (resolved s b.0 g)) (evaluated rs (resolved s c.0 g))) (a.1 g)
      ∙ ap (λ (z : Gives). between_values (value_in rs s a.0 g) z (evaluated rs (resolved s c.0 g))) (b.1 g)
      ∙ ap (λ (w : Gives). between_values (value_in rs s a.0 g) (value_in rs s b.0 g) w) (c.1 g)

  layer : (y : Expr-F Item) (g : Bool)
      → evaluated rs (resolved_step s (map-Expr Expr (Bool → ResolvedExpr) (resolved s) (map-Expr Item Expr (λ i. i.0) y)) g)
      ≡ value_step rs s (map-Expr Expr Meaning (value_in rs s) (map-Expr Item Expr (λ i. i.0) y)) g
  layer (Expr-F.Literal a) g = ev_literal rs a
  layer (Expr-F.Param n) g = ev_literal rs v.Null
  layer (Expr-F.Name n) g = column_same (place s n) (wrong.NoColumn n) g
  layer (Expr-F.Qualified t n) g = column_same (qualified_place s t n) (wrong.NoQualifiedColumn t n) g
  layer Expr-F.CurrentTimestamp g = ev_literal rs v.Null
  layer Expr-F.CurrentDate g = ev_literal rs v.Null
  layer Expr-F.CurrentTime g = ev_literal rs v.Null
  layer Expr-F.CountAll g = count_same g
  layer (Expr-F.Call n es) g = called_same n (function_of n) es g
  layer (Expr-F.Minus a) g = ev_unary rs u.Minus (resolved s a.0 g) ∙ ap (on_one u.Minus) (a.1 g)
  layer (Expr-F.Not a) g = ev_unary rs u.Not (resolved s a.0 g) ∙ ap (on_one u.Not) (a.1 g)
  layer (Expr-F.Binary h a b) g =
      ev_binary rs h (resolved s a.0 g) (resolved s b.0 g) ∙ ap (λ (y : Gives). on_two h y (evaluated rs (resolved s b.0 g))) (a.1 g) ∙ ap (on_two h (value_in rs s a.0 g)) (b.1 g)
  layer (Expr-F.InList d a es) g = negated_same d _ _ (in_list_same a es g)
  layer (Expr-F.Between d a b c) g = negated_same d _ _ (between_same a b c g)

  whole : (y : Expr-F Item) → Same rs s (roll-Expr (map-Expr Item Expr (λ i. i.0) y))
  whole y g =
      let z = map-Expr Item Expr (λ i. i.0) y in
      ap (λ (f : Bool → ResolvedExpr). evaluated rs (f g)) (fold-roll-Expr (Bool → ResolvedExpr) (resolved_step s) z) ∙ layer y g
      ∙ sym (ap (λ (f : Meaning). f g) (fold-roll-Expr Meaning (value_step rs s) z))

  pub fused : (a : Expr) → Same rs s a
  fused = ind-Expr (Same rs s) (λ y z is. subst (λ y. Same rs s (roll-Expr y)) is (whole z))

-- the value of the resolved expression is the value of the expression, over every row
pub one_fold : (rs : List Row) (s : Scope) (a : Expr) (g : Bool) (r : Row) → evaluated rs (resolved s a g) r ≡ value_in rs s a g r
one_fold rs s a g r = ap (λ (h : Gives). h r) (fused rs s a g)

-- what is answered of the resolved expression is answered of the expression
pub answered : (rs : List Row) (s : Scope) (a : Expr) (g : Bool) (r : Row) (p : ResolvedExpr) (y : Result Value EvalError)
    → p ≡ resolved s a g → Answers (evaluated rs p r) y → Answers (value_in rs s a g r) y
answered rs s a g r p y is h =
    subst (λ (z : Outcome Value). Answers z y) (ap (λ (q : ResolvedExpr). evaluated rs q r) is ∙ one_fold rs s a g r) h
