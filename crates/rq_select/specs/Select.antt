-- What a SELECT answers. docs/SQL.md, "What SELECT answers" and "Errors of SELECT".
--
-- The rows for which WHERE is true; of each its results and then its terms; in order; without those that OFFSET and LIMIT leave out.
-- The first error on the way is the error.
-- Source: SQLite, "SELECT"; but that ORDER BY is settled by the rowid where the terms are equal.
use Rattle.std.specs.Prelude.{ℕ, suc, zero, ℤ, pos, negsuc, Bool, true, false, if◌then◌else◌, nat_lt, List, [], ◌∷◌, ◌++◌, map, take, drop, length, slice_get, Option, Some, None, unwrap_or, Ok, Err}
use Rattle.std.specs.Option.{option_and_then}
use Rattle.rq_values.specs.declared.value.Value.{Value}
use Rattle.rq_values.specs.declared.value.Value.TheVariants as v
use Rattle.rq_grammar.specs.declared.expr.Expr.{Expr}
use Rattle.rq_grammar.specs.declared.expr.Expr.TheVariants as expr
use Rattle.rq_grammar.specs.declared.stmt.ColumnDef.{ColumnDef}
use Rattle.rq_grammar.specs.declared.stmt.OrderTerm.{OrderTerm}
use Rattle.rq_grammar.specs.declared.stmt.SelectStmt.{SelectStmt}
use Rattle.rq_statement.specs.declared.res.Res.{Res}
use Rattle.rq_statement.specs.declared.res.Res.TheVariants as res
use Rattle.rq_eval.specs.declared.error.StmtError.TheVariants as error
use Rattle.rq_eval.specs.declared.row.Scope.{Scope}
use Rattle.rq_eval.specs.Outcome.{Outcome, then_with, all_of, stated}
use Rattle.rq_operators.specs.Operators.{condition}
use Rattle.rq_eval.specs.Names.{Row, value_at}
use Rattle.rq_eval.specs.Value.{Gives, value_in, value, no_row}
use Rattle.rq_results.specs.Table.{Table}
use Rattle.rq_results.specs.Results.{Source, source_of, Shown, column, expression, spread, heading, type_of}
use Rattle.rq_results.specs.Checks.{Check, is_over_all, names_check, calls_check, aliased}
use Rattle.rq_select.specs.declared.sorting.SortTerm.{SortTerm}
use Rattle.rq_select.specs.Sorting.{Entry, sort_term, in_order}

abbrev pub unless : {A : Type 0} → Check → Outcome A → Outcome A
unless None next = next
unless (Some e) next = Err e

-- ---- WHERE

abbrev pub is_true : Option Bool → Bool
is_true None = false
is_true (Some b) = b

abbrev pub Test : Type 0
Test = Row → Outcome Bool

-- whether a value is true
abbrev pub judged : Outcome Value → Outcome Bool
judged o = then_with o (λ x. then_with (stated (condition x)) (λ b. Ok (is_true b)))

abbrev pub meets : Scope → Option Expr → Test
meets s None r = Ok true
meets s (Some x) r = judged (value s x r)

-- behind the rows that are there, those that pass
abbrev pub filtered : Test → List Row → List Row → Outcome (List Row)
filtered p there [] = Ok there
filtered p there (r ∷ rs) = then_with (p r) (λ b. filtered p (if b then there ++ r ∷ [] else there) rs)

-- ---- results and terms of a row

-- what a result gives, over one row or over all rows
abbrev pub shown_value : Scope → Bool → List Row → Shown → Gives
shown_value s over_all rs (column i) r = Ok (value_at r i)
shown_value s over_all rs (expression x a) r = value_in rs s x over_all r

-- what a term gives, of a row and of its results
abbrev pub Ranks : Type 0
Ranks = Row → List Value → Outcome Value

abbrev pub by_result : ℕ → Ranks
by_result i r vs = Ok (unwrap_or (slice_get vs i) v.Null)

abbrev pub by_value : Scope → Expr → Ranks
by_value s x r vs = value s x r

abbrev pub number_of : Expr → Option ℤ
number_of (expr.Literal (v.Int n)) = Some n
number_of _ = None

-- the place of the k-th of so many results
abbrev pub numbered : ℕ → ℤ → Outcome ℕ
numbered count (pos zero) = Err error.OrderTermOutOfRange
numbered count (pos (suc k)) = if nat_lt k count then Ok k else Err error.OrderTermOutOfRange
numbered count (negsuc k) = Err error.OrderTermOutOfRange

-- an alias, else an expression
abbrev pub named_ranks : Scope → Expr → Option ℕ → Ranks
named_ranks s x None = by_value s x
named_ranks s x (Some i) = by_result i

-- a number, else an alias, else an expression
abbrev pub ranks_or : Scope → List Shown → Expr → Option ℤ → Outcome Ranks
ranks_or s rs x None = Ok (named_ranks s x (aliased rs x))
ranks_or s rs x (Some k) = then_with (numbered (length rs) k) (λ i. Ok (by_result i))

abbrev pub Term : Type 0
Term = Ranks × Bool

abbrev pub term_of : Scope → List Shown → OrderTerm → Outcome Term
term_of s rs t = then_with (ranks_or s rs t.expr (number_of t.expr)) (λ f. Ok (f, t.descending))

abbrev pub sort_value : Row → List Value → Term → Outcome SortTerm
sort_value r vs t = then_with (t.0 r vs) (λ x. Ok (sort_term t.1 x))

-- the terms of a row with its results
abbrev pub with_terms : List Term → Row → List Value → Outcome Entry
with_terms ts r vs = then_with (all_of (map (sort_value r vs) ts)) (λ ks. Ok ((ks, r.rowid), vs))

-- the results of a row, and then its terms
abbrev pub entry_of : List Gives → List Term → Row → Outcome Entry
entry_of gs ts r = then_with (all_of (map (λ g. g r) gs)) (with_terms ts r)

-- ---- LIMIT and OFFSET

-- a negative limit is none
abbrev pub limit_number : Option ℤ → Outcome (Option ℕ)
limit_number None = Err error.DatatypeMismatch
limit_number (Some (pos n)) = Ok (Some n)
limit_number (Some (negsuc n)) = Ok None

abbrev pub limit_of : Option Expr → Outcome (Option ℕ)
limit_of None = Ok None
limit_of (Some x) = limit_number (number_of x)

-- a negative offset is 0
abbrev pub offset_number : Option ℤ → Outcome ℕ
offset_number None = Err error.DatatypeMismatch
offset_number (Some (pos n)) = Ok n
offset_number (Some (negsuc n)) = Ok 0

abbrev pub offset_of : Option Expr → Outcome ℕ
offset_of None = Ok 0
offset_of (Some x) = offset_number (number_of x)

abbrev pub at_most : {A : Type 0} → Option ℕ → List A → List A
at_most None xs = xs
at_most (Some n) xs = take n xs

abbrev pub cut : {A : Type 0} → Option ℕ → ℕ → List A → List A
cut limit offset xs = at_most limit (drop offset xs)

-- ---- the whole

-- a select with aggregates shows one row, over all that are there
abbrev pub groups : Bool → List Row → List Row
groups over_all rs = if over_all then no_row ∷ [] else rs

abbrev pub members : Bool → List Row → List Row
members over_all rs = if over_all then rs else []

-- the results of the rows that are left by WHERE, cut
abbrev pub shown_rows : (List Row → List Gives) → List Term → Bool → Option ℕ → ℕ → List Row → Outcome (List (List Value))
shown_rows gs ts over_all limit offset rs =
    then_with (all_of (map (entry_of (gs (members over_all rs)) ts) (groups over_all rs))) (λ es. Ok (cut limit offset (in_order es)))

abbrev pub answered : Scope → List Shown → Bool → Option Expr → List Term → Option ℕ → ℕ → List Row → Outcome (List (List Value))
answered s rs over_all filter ts limit offset rows =
    then_with (filtered (meets s filter) [] rows) (λ left.
    shown_rows (λ all. map (shown_value s over_all all) rs) ts over_all limit offset left)

-- over what its FROM names; every check before any row
abbrev pub rows_selected : SelectStmt → Scope → List Row → List Shown → Outcome (List (List Value))
rows_selected q s rows rs =
    unless (names_check s rs q) (
    unless (calls_check (is_over_all rs) rs q) (
    then_with (all_of (map (term_of s rs) q.order)) (λ ts.
    then_with (limit_of q.limit) (λ limit.
    then_with (offset_of q.offset) (λ offset.
    answered s rs (is_over_all rs) q.filter ts limit offset rows)))))

abbrev pub with_headings : Scope → List ColumnDef → List Shown → List (List Value) → Res
with_headings s cs rs rows = res.Rows (map (heading s cs) rs) (map (type_of s cs) rs) rows

abbrev pub answered_by : SelectStmt → Source → List Shown → Outcome Res
answered_by q s rs = then_with (rows_selected q s.scope s.rows rs) (λ rows. Ok (with_headings s.scope s.columns rs rows))

abbrev pub selected_from : SelectStmt → Source → Outcome Res
selected_from q s = answered_by q s (spread (length s.columns) q.results)

-- what a SELECT answers, where its FROM names that table
abbrev pub selected : SelectStmt → Option Table → Outcome Res
selected q t = then_with (source_of q.table t) (selected_from q)
