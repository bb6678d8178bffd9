-- The same in two steps: names become places in a row and calls become operators, once for a statement; and that is evaluated.
use Rattle.std.specs.Prelude.{◌≡◌, ℕ, Bool, true, false, if◌then◌else◌, List, [], ◌∷◌, map, length, Option, Some, None, Result, Ok, Err, pos}
use Rattle.rq_values.specs.declared.memory.NoMemory.{NoMemory}
use Rattle.rq_values.specs.declared.value.Value.{Value}
use Rattle.rq_values.specs.declared.value.Value.TheVariants as v
use Rattle.rq_grammar.specs.declared.expr.BinaryOp.{BinaryOp}
use Rattle.rq_grammar.specs.declared.expr.Expr.{Expr}
use Rattle.rq_grammar.specs.declared.expr.Expr.TheOpen.{Expr-F}
use Rattle.rq_grammar.specs.declared.expr.Expr.TheFolds.{fold-Expr}
use Rattle.rq_eval.specs.declared.error.StmtError.{StmtError}
use Rattle.rq_eval.specs.declared.error.StmtError.TheVariants as error
use Rattle.rq_eval.specs.declared.error.EvalError.{EvalError}
use Rattle.rq_eval.specs.declared.error.EvalError.TheVariants as e
use Rattle.rq_operators.specs.declared.operators.UnaryOp.{UnaryOp}
use Rattle.rq_operators.specs.declared.operators.UnaryOp.TheVariants as u
use Rattle.rq_operators.specs.declared.operators.Function.{Function}
use Rattle.rq_operators.specs.declared.operators.Function.TheVariants as f
use Rattle.rq_eval.specs.declared.resolved.ResolveError.{ResolveError}
use Rattle.rq_eval.specs.declared.resolved.ResolveError.TheVariants as wrong
use Rattle.rq_eval.specs.declared.resolved.ResolvedExpr.{ResolvedExpr}
use Rattle.rq_eval.specs.declared.resolved.ResolvedExpr.TheVariants as x
use Rattle.rq_eval.specs.declared.resolved.ResolvedExpr.TheOpen.{ResolvedExpr-F}
use Rattle.rq_eval.specs.declared.resolved.ResolvedExpr.TheFolds.{fold-ResolvedExpr}
use Rattle.rq_eval.specs.declared.row.Scope.{Scope}
use Rattle.rq_eval.specs.declared.evaluation.Operand.{Operand}
use Rattle.rq_eval.specs.declared.evaluation.Operand.TheVariants as operand
use Rattle.rq_eval.specs.Outcome.{Outcome, then_with, all_of, stated}
use Rattle.rq_operators.specs.Operators as o
use Rattle.rq_operators.specs.Operators.{in_range}
use Rattle.rq_eval.specs.Names.{Row, place, qualified_place, value_at}
use Rattle.rq_operators.specs.Functions.{function_of, takes, unary, binary}
use Rattle.rq_operators.specs.Aggregates.{start}
use Rattle.rq_eval.specs.Aggregates.{over}

-- ---- names

-- where aggregates may stand no column stands
abbrev pub column_at : ℕ → Bool → ResolvedExpr
column_at i true = x.Error wrong.MisuseOfAggregate
column_at i false = x.Column i

abbrev pub column_or : Option ℕ → ResolveError → Bool → ResolvedExpr
column_or None e g = x.Error e
column_or (Some i) e g = column_at i g

abbrev pub no_column : List ℕ → ResolveError
no_column n = wrong.NoColumn n

abbrev pub no_qualified_column : List ℕ → List ℕ → ResolveError
no_qualified_column t n = wrong.NoQualifiedColumn t n

-- ---- calls

abbrev pub sole_argument : List (Bool → ResolvedExpr) → Bool → ResolvedExpr
sole_argument [] g = x.Literal v.Null
sole_argument (y ∷ ys) g = y g

abbrev pub applied_to : Function → List (Bool → ResolvedExpr) → Bool → ResolvedExpr
applied_to (f.Unary h) ys g = x.Unary h (sole_argument ys g)
applied_to f.Coalesce ys g = x.Coalesce (map (λ y. y g) ys)
applied_to f.IfNull ys g = x.Coalesce (map (λ y. y g) ys)
applied_to (f.Aggregate h) ys true = x.Aggregate h (sole_argument ys false)
applied_to (f.Aggregate h) ys false = x.Error wrong.MisuseOfAggregate
applied_to f.Random ys g = x.Literal v.Null
applied_to f.RandomBlob ys g = x.Literal v.Null

abbrev pub call_of : List ℕ → Option Function → List (Bool → ResolvedExpr) → Bool → ResolvedExpr
call_of n None ys g = x.Error (wrong.NoFunction n)
call_of n (Some h) ys g = if takes h (length ys) then applied_to h ys g else x.Error (wrong.WrongArguments n)

abbrev pub count_all : Bool → ResolvedExpr
count_all true = x.CountAll
count_all false = x.Error wrong.MisuseOfAggregate

abbrev pub negated_if : Bool → ResolvedExpr → ResolvedExpr
negated_if true y = x.Unary u.Not y
negated_if false y = y

abbrev pub literal : Value → ResolvedExpr
literal y = x.Literal y

abbrev pub unary_of : UnaryOp → ResolvedExpr → ResolvedExpr
unary_of h y = x.Unary h y

abbrev pub binary_of : BinaryOp → ResolvedExpr → ResolvedExpr → ResolvedExpr
binary_of h y z = x.Binary h y z

abbrev pub in_list_of : Bool → ResolvedExpr → List ResolvedExpr → ResolvedExpr
in_list_of d y ys = negated_if d (x.InList y ys)

abbrev pub between_of : Bool → ResolvedExpr → ResolvedExpr → ResolvedExpr → ResolvedExpr
between_of d y z w = negated_if d (x.Between y z w)

-- ---- an expression with places and operators

abbrev pub resolved_step : Scope → Expr-F (Bool → ResolvedExpr) → Bool → ResolvedExpr
resolved_step s (Expr-F.Literal y) g = x.Literal y
resolved_step s (Expr-F.Param n) g = x.Literal v.Null
resolved_step s (Expr-F.Name n) g = column_or (place s n) (wrong.NoColumn n) g
resolved_step s (Expr-F.Qualified t n) g = column_or (qualified_place s t n) (wrong.NoQualifiedColumn t n) g
resolved_step s Expr-F.CurrentTimestamp g = x.Literal v.Null
resolved_step s Expr-F.CurrentDate g = x.Literal v.Null
resolved_step s Expr-F.CurrentTime g = x.Literal v.Null
resolved_step s Expr-F.CountAll g = count_all g
resolved_step s (Expr-F.Call n ys) g = call_of n (function_of n) ys g
resolved_step s (Expr-F.Minus y) g = x.Unary u.Minus (y g)
resolved_step s (Expr-F.Not y) g = x.Unary u.Not (y g)
resolved_step s (Expr-F.Binary h y z) g = x.Binary h (y g) (z g)
resolved_step s (Expr-F.InList d y ys) g = negated_if d (x.InList (y g) (map (λ z. z g) ys))
resolved_step s (Expr-F.Between d y z w) g = negated_if d (x.Between (y g) (z g) (w g))

abbrev pub resolved : Scope → Expr → Bool → ResolvedExpr
resolved s = fold-Expr (Bool → ResolvedExpr) (resolved_step s)

abbrev pub all_resolved : Scope → List Expr → Bool → List ResolvedExpr
all_resolved s ys g = map (λ y. y g) (map (resolved s) ys)

-- the operator on the operand, unless memory ran out
abbrev pub IsUnary : UnaryOp → Result ResolvedExpr NoMemory → Result ResolvedExpr NoMemory → Type 0
IsUnary h (Ok y) (Ok z) = z ≡ x.Unary h y
IsUnary h (Ok y) (Err e) = ⊥
IsUnary h (Err e) (Ok z) = ⊥
IsUnary h (Err e) (Err f) = Unit {0}

-- ---- its value over a row, with the rows that aggregates are over

abbrev pub error_of : ResolveError → StmtError
error_of (wrong.NoColumn n) = error.NoColumn n
error_of (wrong.NoQualifiedColumn t n) = error.NoQualifiedColumn t n
error_of (wrong.NoFunction n) = error.NoFunction n
error_of (wrong.WrongArguments n) = error.WrongArguments n
error_of wrong.MisuseOfAggregate = error.MisuseOfAggregate

abbrev pub evaluated_step : List Row → ResolvedExpr-F (Row → Outcome Value) → Row → Outcome Value
evaluated_step rs (ResolvedExpr-F.Literal y) r = Ok y
evaluated_step rs (ResolvedExpr-F.Column i) r = Ok (value_at r i)
evaluated_step rs (ResolvedExpr-F.Error e) r = Err (error_of e)
evaluated_step rs (ResolvedExpr-F.Unary h y) r = then_with (y r) (λ a. stated (unary h a))
evaluated_step rs (ResolvedExpr-F.Binary h y z) r = then_with (y r) (λ a. then_with (z r) (λ b. stated (binary h a b)))
evaluated_step rs (ResolvedExpr-F.InList y ys) r = then_with (y r) (λ a. then_with (all_of (map (λ z. z r) ys)) (λ bs. Ok (o.in_list a bs)))
evaluated_step rs (ResolvedExpr-F.Between y z w) r = then_with (y r) (λ a. then_with (z r) (λ b. then_with (w r) (λ c. Ok (o.between a b c))))
evaluated_step rs (ResolvedExpr-F.Coalesce ys) r = then_with (all_of (map (λ z. z r) ys)) (λ bs. Ok (o.first_non_null bs))
evaluated_step rs ResolvedExpr-F.CountAll r = stated (in_range (pos (length rs)))
evaluated_step rs (ResolvedExpr-F.Aggregate h y) r = over h y (start h) rs

abbrev pub evaluated : List Row → ResolvedExpr → Row → Outcome Value
evaluated rs = fold-ResolvedExpr (Row → Outcome Value) (evaluated_step rs)

abbrev pub all_evaluated : List Row → List ResolvedExpr → Row → Outcome (List Value)
all_evaluated rs ys r = all_of (map (λ y. y r) (map (evaluated rs) ys))

-- ---- an operand's value, where it stands or made

abbrev pub operand_value : Operand → Value
operand_value (operand.Literal literal) = literal.now
operand_value (operand.Column column) = column.now
operand_value (operand.Made made) = made

abbrev pub IsOperand : Outcome Value → Result Operand EvalError → Type 0
IsOperand o (Ok y) = o ≡ Ok (operand_value y)
IsOperand o (Err (e.Says s)) = o ≡ Err s
IsOperand o (Err e.NoMemory) = Unit {0}
