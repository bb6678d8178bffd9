-- Whose names and texts are texts, and whose blobs are bytes. A `Stmt` in memory is always so.
use Rattle.std.specs.Prelude.{Bool, true, ◌&&◌, nat_lt, List, Option, Some, None, map}
use Rattle.std.specs.List.{list_all}
use Rattle.rq_values.specs.Text.{is_text}
use Rattle.rq_values.specs.declared.value.Value.{Value}
use Rattle.rq_values.specs.declared.value.Value.TheVariants as v
use Rattle.rq_grammar.specs.Words.{Text}
use Rattle.rq_grammar.specs.declared.expr.Expr.{Expr}
use Rattle.rq_grammar.specs.declared.expr.Expr.TheOpen.{Expr-F}
use Rattle.rq_grammar.specs.declared.expr.Expr.TheFolds.{fold-Expr}
use Rattle.rq_grammar.specs.declared.stmt.ColumnDef.{ColumnDef}
use Rattle.rq_grammar.specs.declared.stmt.ResultItem.{ResultItem}
use Rattle.rq_grammar.specs.declared.stmt.ResultItem.TheVariants as item
use Rattle.rq_grammar.specs.declared.stmt.OrderTerm.{OrderTerm}
use Rattle.rq_grammar.specs.declared.stmt.SelectStmt.{SelectStmt}
use Rattle.rq_grammar.specs.declared.stmt.InsertRows.{InsertRows}
use Rattle.rq_grammar.specs.declared.stmt.InsertRows.TheVariants as rows
use Rattle.rq_grammar.specs.declared.stmt.Stmt.{Stmt}
use Rattle.rq_grammar.specs.declared.stmt.Stmt.TheVariants as stmt
use Rattle.rq_grammar.specs.Proper.{all_of}

abbrev pub literal_written : Value → Bool
literal_written (v.Text n) = is_text n
literal_written (v.Blob bytes) = list_all (λ b. nat_lt b 256) bytes
literal_written _ = true

abbrev pub written_step : Expr-F Bool → Bool
written_step (Expr-F.Literal a) = literal_written a
written_step (Expr-F.Name n) = is_text n
written_step (Expr-F.Qualified n m) = is_text n && is_text m
written_step (Expr-F.Call n xs) = all_of xs
written_step (Expr-F.Minus a) = a
written_step (Expr-F.Not a) = a
written_step (Expr-F.Binary o a b) = a && b
written_step (Expr-F.InList d a xs) = a && all_of xs
written_step (Expr-F.Between d a b c) = a && (b && c)
written_step _ = true

abbrev pub is_written : Expr → Bool
is_written = fold-Expr Bool written_step

abbrev pub maybe_written : Option Expr → Bool
maybe_written None = true
maybe_written (Some a) = is_written a

abbrev pub maybe_text : Option Text → Bool
maybe_text None = true
maybe_text (Some n) = is_text n

abbrev pub row_written : List Expr → Bool
row_written xs = all_of (map is_written xs)

abbrev pub result_written : ResultItem → Bool
result_written item.All = true
result_written (item.Value a n) = is_written a && maybe_text n

abbrev pub term_written : OrderTerm → Bool
term_written i = is_written i.expr

abbrev pub limits_written : Option Expr → Option Expr → Bool
limits_written a b = maybe_written a && maybe_written b

abbrev pub select_written : SelectStmt → Bool
select_written q = all_of (map result_written q.results) && (maybe_text q.table && (maybe_written q.filter && (all_of (map term_written q.order) && limits_written q.limit q.offset)))

abbrev pub column_written : ColumnDef → Bool
column_written d = is_text d.name

abbrev pub names_written : Option (List Text) → Bool
names_written None = true
names_written (Some ns) = all_of (map is_text ns)

abbrev pub rows_written : InsertRows → Bool
rows_written (rows.Values rs) = all_of (map row_written rs)
rows_written (rows.Select q) = select_written q

abbrev pub set_written : Text × Expr → Bool
set_written i = is_text i.0 && is_written i.1

abbrev pub statement_written : Stmt → Bool
statement_written (stmt.Create b n ds) = is_text n && all_of (map column_written ds)
statement_written (stmt.Drop b n) = is_text n
statement_written (stmt.Insert n ns rs) = is_text n && (names_written ns && rows_written rs)
statement_written (stmt.Update n is g) = is_text n && (all_of (map set_written is) && maybe_written g)
statement_written (stmt.Delete n g) = is_text n && maybe_written g
statement_written (stmt.Select q) = select_written q
