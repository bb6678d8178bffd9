-- Parts of a select that changes of tables use: the rows of a WHERE, and the rows of an INSERT's select.
use Rattle.std.specs.Prelude.{ℕ, ℤ, List, [], length, map, Option, Ok}
use Rattle.rq_values.specs.declared.value.Value.{Value}
use Rattle.rq_grammar.specs.declared.expr.Expr.{Expr}
use Rattle.rq_grammar.specs.declared.stmt.SelectStmt.{SelectStmt}
use Rattle.rq_eval.specs.Outcome.{Outcome, then_with}
use Rattle.rq_eval.specs.Names.{Row}
use Rattle.rq_results.specs.Table.{Table, rows_of, scope_of}
use Rattle.rq_results.specs.Results.{Source, Shown, source_of, spread}
use Rattle.rq_results.specs.Checks.{names_check}
use Rattle.rq_select.specs.Select.{unless, meets, filtered, rows_selected}

-- the rowids of the rows for which the condition is true
abbrev pub rowids_where : Table → Option Expr → Outcome (List ℤ)
rowids_where t f = then_with (filtered (meets (scope_of t) f) [] (rows_of t)) (λ rs. Ok (map (λ (r : Row). r.rowid) rs))

-- how many results a select has, where its names are right
abbrev pub count_in : SelectStmt → Source → List Shown → Outcome ℕ
count_in q s rs = unless (names_check s.scope rs q) (Ok (length rs))

abbrev pub result_count : SelectStmt → Source → Outcome ℕ
result_count q s = count_in q s (spread (length s.columns) q.results)

-- the rows of a select's answer
abbrev pub result_rows : SelectStmt → Source → Outcome (List (List Value))
result_rows q s = rows_selected q s.scope s.rows (spread (length s.columns) q.results)
