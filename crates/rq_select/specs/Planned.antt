-- A select whose names are found, and how it goes over rows. `Plans.antt` in proofs ties this to what `Select.antt` says.
use Rattle.std.specs.Prelude.{◌≡◌, ℕ, ℤ, Bool, true, false, List, [], map, length, Option, Some, None, Result, Ok, Err, Vec}
use Rattle.std.specs.Option.{option_map}
use Rattle.rq_values.specs.declared.value.Value.{Value}
use Rattle.rq_grammar.specs.declared.expr.Expr.{Expr}
use Rattle.rq_grammar.specs.declared.stmt.OrderTerm.{OrderTerm}
use Rattle.rq_grammar.specs.declared.stmt.SelectStmt.{SelectStmt}
use Rattle.rq_eval.specs.declared.error.EvalError.{EvalError}
use Rattle.rq_eval.specs.declared.error.EvalError.TheVariants.{Says, NoMemory}
use Rattle.rq_eval.specs.declared.resolved.ResolvedExpr.{ResolvedExpr}
use Rattle.rq_eval.specs.declared.resolved.ResolvedExpr.TheVariants as x
use Rattle.rq_eval.specs.declared.row.RowView.{RowView}
use Rattle.rq_eval.specs.declared.row.Scope.{Scope}
use Rattle.rq_eval.specs.Outcome.{Outcome, then_with, all_of}
use Rattle.rq_eval.specs.Names.{Row, row_of}
use Rattle.rq_eval.specs.Resolved.{resolved, evaluated}
use Rattle.rq_eval.specs.Value.{Gives}
use Rattle.rq_select.specs.declared.planning.Plan.{Plan}
use Rattle.rq_select.specs.declared.showing.Entry as code
use Rattle.rq_select.specs.declared.sorting.SortKey.{SortKey}
use Rattle.rq_select.specs.declared.terms.TermBy.{TermBy}
use Rattle.rq_select.specs.declared.terms.TermBy.TheVariants as by
use Rattle.rq_select.specs.declared.terms.PlannedTerm.{PlannedTerm}
use Rattle.rq_results.specs.Results.{Shown, column, expression}
use Rattle.rq_results.specs.Checks.{is_over_all, names_check, calls_check, aliased}
use Rattle.rq_select.specs.Sorting.{Place, Entry, in_order}
use Rattle.rq_select.specs.Select.{unless, Test, judged, Ranks, by_result, number_of, numbered, Term, limit_of, offset_of, filtered, entry_of, cut, shown_rows}

-- ---- results and terms with their names found

abbrev pub planned_result : Scope → Bool → Shown → ResolvedExpr
planned_result s over_all (column i) = x.Column i
planned_result s over_all (expression e a) = resolved s e over_all

abbrev pub named_term : Scope → Expr → Option ℕ → TermBy
named_term s e None = by.Expression (resolved s e false)
named_term s e (Some i) = by.Result i

abbrev pub term_or : Scope → List Shown → Expr → Option ℤ → Outcome TermBy
term_or s rs e None = Ok (named_term s e (aliased rs e))
term_or s rs e (Some k) = then_with (numbered (length rs) k) (λ i. Ok (by.Result i))

abbrev pub planned_term : Scope → List Shown → OrderTerm → Outcome PlannedTerm
planned_term s rs t = then_with (term_or s rs t.expr (number_of t.expr)) (λ b. Ok (record { by = b; descending = t.descending }))

abbrev pub plan_with : Scope → List Shown → SelectStmt → List PlannedTerm → Option ℕ → ℕ → Plan
plan_with s rs q ts limit offset = record {
  results = map (planned_result s (is_over_all rs)) rs;
  over_all = is_over_all rs;
  filter = option_map (λ e. resolved s e false) q.filter;
  terms = ts;
  limit = limit;
  offset = offset;
}

abbrev pub limited : Scope → List Shown → SelectStmt → List PlannedTerm → Outcome Plan
limited s rs q ts = then_with (limit_of q.limit) (λ limit. then_with (offset_of q.offset) (λ offset. Ok (plan_with s rs q ts limit offset)))

abbrev pub planned : Scope → List Shown → SelectStmt → Outcome Plan
planned s rs q =
    unless (names_check s rs q) (
    unless (calls_check (is_over_all rs) rs q) (
    then_with (all_of (map (planned_term s rs) q.order)) (limited s rs q)))

-- ---- over rows

abbrev pub passes : Option ResolvedExpr → Test
passes None r = Ok true
passes (Some e) r = judged (evaluated [] e r)

abbrev pub ranks_of : TermBy → Ranks
ranks_of (by.Result i) r vs = by_result i r vs
ranks_of (by.Expression e) r vs = evaluated [] e r

abbrev pub term_of : PlannedTerm → Term
term_of t = (ranks_of t.by, t.descending)

abbrev pub gives : List ResolvedExpr → List Row → List Gives
gives es all = map (evaluated all) es

-- what is shown of each row, or of no row, where aggregates are over all of the others
abbrev pub shown : Plan → List Row → List Row → Outcome (List (List Value))
shown p rows all = then_with (all_of (map (entry_of (gives p.results all) (map term_of p.terms)) rows)) (λ es. Ok (cut p.limit p.offset (in_order es)))

abbrev pub rows_planned : Plan → List Row → Outcome (List (List Value))
rows_planned p rows =
    then_with (filtered (passes p.filter) [] rows) (λ left.
    shown_rows (gives p.results) (map term_of p.terms) p.over_all p.limit p.offset left)

-- ---- what functions answer

-- rows, unless memory runs out
abbrev pub LeavesRows : {Z : Type 0} → Outcome (List Row) → Result (Vec RowView Z) EvalError → Type 0
LeavesRows o (Ok rows) = o ≡ Ok (map row_of rows.items)
LeavesRows o (Err (Says e)) = o ≡ Err e
LeavesRows o (Err NoMemory) = Unit {0}

abbrev pub entry : code.Entry → Entry
entry e = ((e.key.terms.items, e.key.rowid), e.values)

-- an entry, and entries, unless memory runs out
abbrev pub IsEntry : Outcome Entry → Result code.Entry EvalError → Type 0
IsEntry o (Ok e) = o ≡ Ok (entry e)
IsEntry o (Err (Says e)) = o ≡ Err e
IsEntry o (Err NoMemory) = Unit {0}

abbrev pub AreEntries : {Z : Type 0} → Outcome (List Entry) → Result (Vec code.Entry Z) EvalError → Type 0
AreEntries o (Ok es) = o ≡ Ok (map entry es.items)
AreEntries o (Err (Says e)) = o ≡ Err e
AreEntries o (Err NoMemory) = Unit {0}

-- a list is filled, unless memory runs out
abbrev pub Fills : {A : Type 0} → Outcome (List A) → List A → Result (Unit {0}) EvalError → Type 0
Fills o xs (Ok u) = o ≡ Ok xs
Fills o xs (Err (Says e)) = o ≡ Err e
Fills o xs (Err NoMemory) = Unit {0}

-- ---- the sorted map as a list of entries

abbrev pub as_place : SortKey → Place
as_place k = (k.terms.items, k.rowid)

abbrev pub viewed : List (SortKey × List Value) → List Entry
viewed es = map (λ (e : SortKey × List Value). (as_place e.0, e.1)) es
