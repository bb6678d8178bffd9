-- The value of an expression, by one fold over it, as docs/SQL.md has it under "The value of an expression".
--
-- An expression stands where aggregates may stand, and is then evaluated over all rows, or where they may not, over one row.
-- It gives a value, or the first error in the order of evaluation: operands and arguments from left to right, and then the operator.
use Rattle.std.specs.Prelude.{ℕ, Bool, true, false, if◌then◌else◌, List, [], ◌∷◌, map, length, Option, Some, None, Ok, Err, pos}
use Rattle.rq_values.specs.declared.value.Value.{Value}
use Rattle.rq_values.specs.declared.value.Value.TheVariants as v
use Rattle.rq_grammar.specs.declared.expr.BinaryOp.{BinaryOp}
use Rattle.rq_grammar.specs.declared.expr.Expr.{Expr}
use Rattle.rq_grammar.specs.declared.expr.Expr.TheOpen.{Expr-F}
use Rattle.rq_grammar.specs.declared.expr.Expr.TheFolds.{fold-Expr}
use Rattle.rq_eval.specs.declared.error.StmtError.{StmtError}
use Rattle.rq_eval.specs.declared.error.StmtError.TheVariants as error
use Rattle.rq_operators.specs.declared.operators.UnaryOp.{UnaryOp}
use Rattle.rq_operators.specs.declared.operators.UnaryOp.TheVariants as u
use Rattle.rq_operators.specs.declared.operators.Function.{Function}
use Rattle.rq_operators.specs.declared.operators.Function.TheVariants as f
use Rattle.rq_eval.specs.declared.row.Scope.{Scope}
use Rattle.rq_eval.specs.Outcome.{Outcome, then_with, all_of, stated}
use Rattle.rq_operators.specs.Operators as o
use Rattle.rq_operators.specs.Operators.{in_range}
use Rattle.rq_eval.specs.Names.{Row, place, qualified_place, value_at}
use Rattle.rq_operators.specs.Functions.{function_of, takes, unary, binary}
use Rattle.rq_operators.specs.Aggregates.{start}
use Rattle.rq_eval.specs.Aggregates.{over}

-- what an expression gives over a row
abbrev pub Gives : Type 0
Gives = Row → Outcome Value

-- the same where aggregates may stand, `true`, and where they may not
abbrev pub Meaning : Type 0
Meaning = Bool → Gives

abbrev pub on_one : UnaryOp → Gives → Gives
on_one h x r = then_with (x r) (λ a. stated (unary h a))

abbrev pub on_value : BinaryOp → Value → Outcome Value → Outcome Value
on_value h a p = then_with p (λ b. stated (binary h a b))

abbrev pub on_two : BinaryOp → Gives → Gives → Gives
on_two h x y r = then_with (x r) (λ a. on_value h a (y r))

abbrev pub in_values_of : Value → Outcome (List Value) → Outcome Value
in_values_of a p = then_with p (λ bs. Ok (o.in_list a bs))

abbrev pub in_values : Gives → List Gives → Gives
in_values x xs r = then_with (x r) (λ a. in_values_of a (all_of (map (λ y. y r) xs)))

abbrev pub up_to : Value → Value → Outcome Value → Outcome Value
up_to a b p = then_with p (λ c. Ok (o.between a b c))

abbrev pub between_values : Gives → Gives → Gives → Gives
between_values x y z r = then_with (x r) (λ a. then_with (y r) (λ b. up_to a b (z r)))

abbrev pub coalesced : List Gives → Gives
coalesced xs r = then_with (all_of (map (λ y. y r) xs)) (λ bs. Ok (o.first_non_null bs))

-- where aggregates may stand no column stands
abbrev pub found : Option ℕ → StmtError → Meaning
found None e g r = Err e
found (Some i) e true r = Err error.MisuseOfAggregate
found (Some i) e false r = Ok (value_at r i)

abbrev pub sole : List Meaning → Meaning
sole [] g r = Ok v.Null
sole (x ∷ xs) g r = x g r

-- no aggregate stands in the argument of another
abbrev pub applied : List Row → Function → List Meaning → Meaning
applied rs (f.Unary h) xs g r = on_one h (sole xs g) r
applied rs f.Coalesce xs g r = coalesced (map (λ x. x g) xs) r
applied rs f.IfNull xs g r = coalesced (map (λ x. x g) xs) r
applied rs (f.Aggregate h) xs true r = over h (sole xs false) (start h) rs
applied rs (f.Aggregate h) xs false r = Err error.MisuseOfAggregate
applied rs f.Random xs g r = Ok v.Null
applied rs f.RandomBlob xs g r = Ok v.Null

-- first the name, then the number of arguments, then where it stands, then the arguments
abbrev pub called : List Row → List ℕ → Option Function → List Meaning → Meaning
called rs n None xs g r = Err (error.NoFunction n)
called rs n (Some h) xs g r = if takes h (length xs) then applied rs h xs g r else Err (error.WrongArguments n)

abbrev pub count_of_rows : List Row → Meaning
count_of_rows rs true r = stated (in_range (pos (length rs)))
count_of_rows rs false r = Err error.MisuseOfAggregate

abbrev pub not_if : Bool → Gives → Gives
not_if true x r = on_one u.Not x r
not_if false x r = x r

-- A parameter, a random and a time node have no place in a settled statement; here they are NULL, as SQLite has a parameter that isn't bound.
abbrev pub value_step : List Row → Scope → Expr-F Meaning → Meaning
value_step rs s (Expr-F.Literal x) g r = Ok x
value_step rs s (Expr-F.Param n) g r = Ok v.Null
value_step rs s (Expr-F.Name n) g r = found (place s n) (error.NoColumn n) g r
value_step rs s (Expr-F.Qualified t n) g r = found (qualified_place s t n) (error.NoQualifiedColumn t n) g r
value_step rs s Expr-F.CurrentTimestamp g r = Ok v.Null
value_step rs s Expr-F.CurrentDate g r = Ok v.Null
value_step rs s Expr-F.CurrentTime g r = Ok v.Null
value_step rs s Expr-F.CountAll g r = count_of_rows rs g r
value_step rs s (Expr-F.Call n xs) g r = called rs n (function_of n) xs g r
value_step rs s (Expr-F.Minus x) g r = on_one u.Minus (x g) r
value_step rs s (Expr-F.Not x) g r = on_one u.Not (x g) r
value_step rs s (Expr-F.Binary h x y) g r = on_two h (x g) (y g) r
value_step rs s (Expr-F.InList d x xs) g r = not_if d (in_values (x g) (map (λ y. y g) xs)) r
value_step rs s (Expr-F.Between d x y z) g r = not_if d (between_values (x g) (y g) (z g)) r

abbrev pub value_in : List Row → Scope → Expr → Meaning
value_in rs s = fold-Expr Meaning (value_step rs s)

-- over one row
abbrev pub value : Scope → Expr → Row → Outcome Value
value s x r = value_in [] s x false r

abbrev pub no_row : Row
no_row = record { values = []; rowid = pos 0 }

-- over all rows, with aggregates
abbrev pub aggregate_value : Scope → Expr → List Row → Outcome Value
aggregate_value s x rs = value_in rs s x true no_row
