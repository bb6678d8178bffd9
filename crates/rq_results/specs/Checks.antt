-- What is wrong with a select before any row is looked at. docs/SQL.md, "Errors of SELECT".
--
-- A check gives nothing or an error. Checks of several things give the first error in the order in which they stand in the statement.
use Rattle.std.specs.Prelude.{ℕ, Bool, true, false, ◌||◌, if◌then◌else◌, List, [], ◌∷◌, map, length, Option, Some, None, is_some}
use Rattle.std.specs.Option.{option_or, option_and_then}
use Rattle.rq_grammar.specs.declared.expr.Expr.{Expr}
use Rattle.rq_grammar.specs.declared.expr.Expr.TheVariants as expr
use Rattle.rq_grammar.specs.declared.expr.Expr.TheOpen.{Expr-F}
use Rattle.rq_grammar.specs.declared.expr.Expr.TheFolds.{fold-Expr}
use Rattle.rq_grammar.specs.declared.stmt.OrderTerm.{OrderTerm}
use Rattle.rq_grammar.specs.declared.stmt.SelectStmt.{SelectStmt}
use Rattle.rq_eval.specs.declared.error.StmtError.{StmtError}
use Rattle.rq_eval.specs.declared.error.StmtError.TheVariants as error
use Rattle.rq_operators.specs.declared.operators.Function.{Function}
use Rattle.rq_operators.specs.declared.operators.Function.TheVariants as f
use Rattle.rq_eval.specs.declared.row.Scope.{Scope}
use Rattle.rq_eval.specs.declared.row.Scope.TheVariants as scope
use Rattle.rq_eval.specs.Names.{place, qualified_place}
use Rattle.rq_operators.specs.Functions.{function_of, takes}
use Rattle.rq_results.specs.declared.checking.Allowed.{Allowed}
use Rattle.rq_results.specs.declared.checking.Allowed.TheVariants as allowed
use Rattle.rq_results.specs.Results.{Shown, column, expression, alias_place}

abbrev pub Check : Type 0
Check = Option StmtError

-- the first error
abbrev pub first : List Check → Check
first [] = None
first (c ∷ cs) = option_or c (first cs)

-- ---- names

abbrev pub unless_found : StmtError → Option ℕ → Check
unless_found e None = Some e
unless_found e (Some i) = None

-- the names that name nothing
abbrev pub names_step : Scope → Expr-F Check → Check
names_step s (Expr-F.Literal x) = None
names_step s (Expr-F.Param n) = None
names_step s (Expr-F.Name n) = unless_found (error.NoColumn n) (place s n)
names_step s (Expr-F.Qualified t n) = unless_found (error.NoQualifiedColumn t n) (qualified_place s t n)
names_step s Expr-F.CurrentTimestamp = None
names_step s Expr-F.CurrentDate = None
names_step s Expr-F.CurrentTime = None
names_step s Expr-F.CountAll = None
names_step s (Expr-F.Call n xs) = first xs
names_step s (Expr-F.Minus x) = x
names_step s (Expr-F.Not x) = x
names_step s (Expr-F.Binary h x y) = option_or x y
names_step s (Expr-F.InList d x xs) = option_or x (first xs)
names_step s (Expr-F.Between d x y z) = option_or x (option_or y z)

abbrev pub names_in : Scope → Expr → Check
names_in s = fold-Expr Check (names_step s)

-- ---- calls

-- a check in a place where so much is allowed
abbrev pub Placed : Type 0
Placed = Allowed → Check

abbrev pub column_allowed : Placed
column_allowed allowed.Columns = None
column_allowed allowed.Aggregates = Some error.MisuseOfAggregate
column_allowed allowed.Neither = Some error.MisuseOfAggregate

-- in the arguments of an aggregate columns are allowed, and no aggregate
abbrev pub aggregate_allowed : List Placed → Placed
aggregate_allowed xs allowed.Columns = Some error.MisuseOfAggregate
aggregate_allowed xs allowed.Aggregates = first (map (λ x. x allowed.Columns) xs)
aggregate_allowed xs allowed.Neither = Some error.MisuseOfAggregate

abbrev pub arguments_allowed : Function → List Placed → Placed
arguments_allowed (f.Unary h) xs a = first (map (λ x. x a) xs)
arguments_allowed f.Coalesce xs a = first (map (λ x. x a) xs)
arguments_allowed f.IfNull xs a = first (map (λ x. x a) xs)
arguments_allowed (f.Aggregate h) xs a = aggregate_allowed xs a
arguments_allowed f.Random xs a = first (map (λ x. x a) xs)
arguments_allowed f.RandomBlob xs a = first (map (λ x. x a) xs)

-- first the name, then the number of arguments, then whether it may stand there, and then the arguments
abbrev pub call_allowed : List ℕ → Option Function → List Placed → Placed
call_allowed n None xs a = Some (error.NoFunction n)
call_allowed n (Some h) xs a = if takes h (length xs) then arguments_allowed h xs a else Some (error.WrongArguments n)

abbrev pub calls_step : Expr-F Placed → Placed
calls_step (Expr-F.Literal x) a = None
calls_step (Expr-F.Param n) a = None
calls_step (Expr-F.Name n) a = column_allowed a
calls_step (Expr-F.Qualified t n) a = column_allowed a
calls_step Expr-F.CurrentTimestamp a = None
calls_step Expr-F.CurrentDate a = None
calls_step Expr-F.CurrentTime a = None
calls_step Expr-F.CountAll a = aggregate_allowed [] a
calls_step (Expr-F.Call n xs) a = call_allowed n (function_of n) xs a
calls_step (Expr-F.Minus x) a = x a
calls_step (Expr-F.Not x) a = x a
calls_step (Expr-F.Binary h x y) a = option_or (x a) (y a)
calls_step (Expr-F.InList d x xs) a = option_or (x a) (first (map (λ y. y a) xs))
calls_step (Expr-F.Between d x y z) a = option_or (x a) (option_or (y a) (z a))

abbrev pub placed : Expr → Placed
placed = fold-Expr Placed calls_step

abbrev pub calls_in : Allowed → Expr → Check
calls_in a x = placed x a

abbrev pub all_placed : List Expr → List Placed
all_placed xs = map placed xs

abbrev pub calls_in_all : List Expr → Allowed → List Check
calls_in_all xs a = map (λ x. x a) (all_placed xs)

-- ---- whether there is an aggregate

abbrev pub any : List Bool → Bool
any [] = false
any (b ∷ bs) = b || any bs

abbrev pub is_aggregate : Option Function → Bool
is_aggregate None = false
is_aggregate (Some (f.Unary h)) = false
is_aggregate (Some f.Coalesce) = false
is_aggregate (Some f.IfNull) = false
is_aggregate (Some (f.Aggregate h)) = true
is_aggregate (Some f.Random) = false
is_aggregate (Some f.RandomBlob) = false

abbrev pub aggregates_step : Expr-F Bool → Bool
aggregates_step (Expr-F.Literal x) = false
aggregates_step (Expr-F.Param n) = false
aggregates_step (Expr-F.Name n) = false
aggregates_step (Expr-F.Qualified t n) = false
aggregates_step Expr-F.CurrentTimestamp = false
aggregates_step Expr-F.CurrentDate = false
aggregates_step Expr-F.CurrentTime = false
aggregates_step Expr-F.CountAll = true
aggregates_step (Expr-F.Call n xs) = is_aggregate (function_of n) || any xs
aggregates_step (Expr-F.Minus x) = x
aggregates_step (Expr-F.Not x) = x
aggregates_step (Expr-F.Binary h x y) = x || y
aggregates_step (Expr-F.InList d x xs) = x || any xs
aggregates_step (Expr-F.Between d x y z) = x || (y || z)

abbrev pub has_aggregate : Expr → Bool
has_aggregate = fold-Expr Bool aggregates_step

abbrev pub shows_aggregate : Shown → Bool
shows_aggregate (column i) = false
shows_aggregate (expression x a) = has_aggregate x

-- a select with an aggregate in its results goes over all rows, whatever is wrong with the call
abbrev pub is_over_all : List Shown → Bool
is_over_all rs = any (map shows_aggregate rs)

abbrev pub in_results : Bool → Allowed
in_results over_all = if over_all then allowed.Aggregates else allowed.Columns

abbrev pub in_order : Bool → Allowed
in_order over_all = if over_all then allowed.Neither else allowed.Columns

-- ---- the whole statement, in the order in which it is written

abbrev pub optional : (Expr → Check) → Option Expr → Check
optional f None = None
optional f (Some x) = f x

-- a column of `*`, then an expression
abbrev pub shown_check : Check → (Expr → Check) → Shown → Check
shown_check c f (column i) = c
shown_check c f (expression x a) = f x

abbrev pub name_of : Expr → Option (List ℕ)
name_of (expr.Name n) = Some n
name_of _ = None

-- the place of the result that a term names by its alias
abbrev pub aliased : List Shown → Expr → Option ℕ
aliased rs x = option_and_then (alias_place rs) (name_of x)

-- a term that is an alias is a result, which was looked at
abbrev pub term_check : (Expr → Check) → List Shown → OrderTerm → Check
term_check f rs t = if is_some (aliased rs t.expr) then None else f t.expr

-- the results, WHERE, the terms, and then LIMIT and OFFSET, each with its own check; and what is wrong with each column of `*`
abbrev pub whole_check : Check → (Expr → Check) → (Expr → Check) → (Expr → Check) → (Expr → Check) → List Shown → SelectStmt → Check
whole_check of_all of_results of_filter of_order of_limits rs q = first (
    first (map (shown_check of_all of_results) rs) ∷
    optional of_filter q.filter ∷
    first (map (term_check of_order rs) q.order) ∷
    optional of_limits q.limit ∷
    optional of_limits q.offset ∷ [])

-- no column is named in LIMIT and OFFSET
abbrev pub names_check : Scope → List Shown → SelectStmt → Check
names_check s rs q = whole_check None (names_in s) (names_in s) (names_in s) (names_in scope.Empty) rs q

-- beside an aggregate in the results no column stands outside one there or in ORDER BY
abbrev pub calls_check : Bool → List Shown → SelectStmt → Check
calls_check over_all rs q =
    whole_check (column_allowed (in_results over_all)) (calls_in (in_results over_all)) (calls_in allowed.Columns) (calls_in (in_order over_all)) (calls_in allowed.Columns) rs q
