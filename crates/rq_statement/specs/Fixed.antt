-- Statements that mean the same wherever and whenever they run: without parameters, random nodes and time nodes.
use Rattle.std.specs.Prelude.{Bool, true, false, ◌&&◌, List, map, Option, Some, None}
use Rattle.rq_grammar.specs.Words.{Text}
use Rattle.rq_grammar.specs.Proper.{all_of}
use Rattle.rq_grammar.specs.declared.expr.Expr.{Expr}
use Rattle.rq_grammar.specs.declared.stmt.ResultItem.{ResultItem}
use Rattle.rq_grammar.specs.declared.stmt.ResultItem.TheVariants as item
use Rattle.rq_grammar.specs.declared.stmt.OrderTerm.{OrderTerm}
use Rattle.rq_grammar.specs.declared.stmt.SelectStmt.{SelectStmt}
use Rattle.rq_grammar.specs.declared.stmt.InsertRows.{InsertRows}
use Rattle.rq_grammar.specs.declared.stmt.InsertRows.TheVariants as rows
use Rattle.rq_grammar.specs.declared.stmt.Stmt.{Stmt}
use Rattle.rq_grammar.specs.declared.stmt.Stmt.TheVariants as stmt
use Rattle.rq_statement.specs.declared.sight.Sight.{Sight}
use Rattle.rq_statement.specs.declared.sight.Sight.TheVariants.{Now, Fixed, Open}
use Rattle.rq_statement.specs.Sights.{sight}

abbrev pub is_closed : Sight → Bool
is_closed Open = false
is_closed Now = true
is_closed Fixed = true

abbrev pub is_fixed : Expr → Bool
is_fixed a = is_closed (sight a)

abbrev pub maybe_fixed : Option Expr → Bool
maybe_fixed None = true
maybe_fixed (Some a) = is_fixed a

abbrev pub row_fixed : List Expr → Bool
row_fixed xs = all_of (map is_fixed xs)

abbrev pub result_fixed : ResultItem → Bool
result_fixed item.All = true
result_fixed (item.Value a n) = is_fixed a

abbrev pub term_fixed : OrderTerm → Bool
term_fixed i = is_fixed i.expr

abbrev pub select_fixed : SelectStmt → Bool
select_fixed q = all_of (map result_fixed q.results) && (maybe_fixed q.filter && (all_of (map term_fixed q.order) && (maybe_fixed q.limit && maybe_fixed q.offset)))

abbrev pub rows_fixed : InsertRows → Bool
rows_fixed (rows.Values rs) = all_of (map row_fixed rs)
rows_fixed (rows.Select q) = select_fixed q

abbrev pub set_fixed : Text × Expr → Bool
set_fixed i = is_fixed i.1

abbrev pub statement_fixed : Stmt → Bool
statement_fixed (stmt.Create b n ds) = true
statement_fixed (stmt.Drop b n) = true
statement_fixed (stmt.Insert n ns rs) = rows_fixed rs
statement_fixed (stmt.Update n is g) = all_of (map set_fixed is) && maybe_fixed g
statement_fixed (stmt.Delete n g) = maybe_fixed g
statement_fixed (stmt.Select q) = select_fixed q
