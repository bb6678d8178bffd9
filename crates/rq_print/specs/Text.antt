-- Canonical text, as docs/SQL.md, Canonical text, has it.
-- Source: the literal and name forms are those of SQLite's documentation, "SQL Language Expressions", "SQLite Keywords".
pub use Rattle.std.specs.Fmt.{signed_decimal}
use Rattle.std.specs.Prelude.{ℕ, Bool, true, false, List, [], ◌∷◌, ◌++◌, map, flat_map, Option, Some, None, codes}
use Rattle.rq_values.specs.declared.value.Value.{Value}
use Rattle.rq_values.specs.declared.value.Value.TheVariants as v
use Rattle.rq_lexer.specs.Spelled.{in_quotes, hex_byte}
use Rattle.rq_grammar.specs.Words.{Text}
use Rattle.rq_grammar.specs.declared.expr.BinaryOp.{BinaryOp}
use Rattle.rq_grammar.specs.declared.expr.BinaryOp.TheVariants as op
use Rattle.rq_grammar.specs.declared.expr.Expr.{Expr}
use Rattle.rq_grammar.specs.declared.expr.Expr.TheOpen.{Expr-F}
use Rattle.rq_grammar.specs.declared.expr.Expr.TheFolds.{fold-Expr}
use Rattle.rq_grammar.specs.declared.stmt.ColumnKind.{ColumnKind}
use Rattle.rq_grammar.specs.declared.stmt.ColumnKind.TheVariants as kind
use Rattle.rq_grammar.specs.declared.stmt.ColumnDef.{ColumnDef}
use Rattle.rq_grammar.specs.declared.stmt.ResultItem.{ResultItem}
use Rattle.rq_grammar.specs.declared.stmt.ResultItem.TheVariants as item
use Rattle.rq_grammar.specs.declared.stmt.OrderTerm.{OrderTerm}
use Rattle.rq_grammar.specs.declared.stmt.SelectStmt.{SelectStmt}
use Rattle.rq_grammar.specs.declared.stmt.InsertRows.{InsertRows}
use Rattle.rq_grammar.specs.declared.stmt.InsertRows.TheVariants as rows
use Rattle.rq_grammar.specs.declared.stmt.Stmt.{Stmt}
use Rattle.rq_grammar.specs.declared.stmt.Stmt.TheVariants as stmt

-- a name stands in double quotes
abbrev pub name_text : Text → Text
name_text n = in_quotes 34 n

-- items with something before the first, and a comma and a blank before each other
abbrev pub listed_behind : Text → List Text → Text
listed_behind before [] = []
listed_behind before (x ∷ xs) = before ++ x ++ listed_behind (codes ", ") xs

-- items with a comma and a blank between
abbrev pub listed : List Text → Text
listed xs = listed_behind [] xs

abbrev pub hex_text : List ℕ → Text
hex_text bytes = flat_map hex_byte bytes

-- a text stands in single quotes, a blob in upper case
abbrev pub literal_text : Value → Text
literal_text v.Null = codes "NULL"
literal_text (v.Int i) = signed_decimal i
literal_text (v.Text n) = in_quotes 39 n
literal_text (v.Blob bytes) = codes "X'" ++ hex_text bytes ++ codes "'"

abbrev pub parameter_text : Option Text → Text
parameter_text None = codes "?"
parameter_text (Some n) = codes ":" ++ n

-- an operator, with a blank on each side
abbrev pub operator_text : BinaryOp → Text
operator_text op.Or = codes " OR "
operator_text op.And = codes " AND "
operator_text op.Equal = codes " = "
operator_text op.NotEqual = codes " <> "
operator_text op.Is = codes " IS "
operator_text op.IsNot = codes " IS NOT "
operator_text op.Like = codes " LIKE "
operator_text op.NotLike = codes " NOT LIKE "
operator_text op.Less = codes " < "
operator_text op.LessEqual = codes " <= "
operator_text op.Greater = codes " > "
operator_text op.GreaterEqual = codes " >= "
operator_text op.Add = codes " + "
operator_text op.Sub = codes " - "
operator_text op.Mul = codes " * "
operator_text op.Div = codes " / "
operator_text op.Rem = codes " % "
operator_text op.Concat = codes " || "

abbrev pub in_text : Bool → Text
in_text true = codes " NOT IN ("
in_text false = codes " IN ("

abbrev pub between_text : Bool → Text
between_text true = codes " NOT BETWEEN "
between_text false = codes " BETWEEN "

abbrev pub expr_step : Expr-F Text → Text
expr_step (Expr-F.Literal a) = literal_text a
expr_step (Expr-F.Param n) = parameter_text n
expr_step (Expr-F.Name n) = name_text n
expr_step (Expr-F.Qualified n m) = name_text n ++ codes "." ++ name_text m
expr_step Expr-F.CurrentTimestamp = codes "CURRENT_TIMESTAMP"
expr_step Expr-F.CurrentDate = codes "CURRENT_DATE"
expr_step Expr-F.CurrentTime = codes "CURRENT_TIME"
expr_step Expr-F.CountAll = codes "COUNT(*)"
expr_step (Expr-F.Call n xs) = n ++ codes "(" ++ listed xs ++ codes ")"
expr_step (Expr-F.Minus a) = codes "-(" ++ a ++ codes ")"
expr_step (Expr-F.Not a) = codes "(NOT " ++ a ++ codes ")"
expr_step (Expr-F.Binary o a b) = codes "(" ++ a ++ operator_text o ++ b ++ codes ")"
expr_step (Expr-F.InList d a xs) = codes "(" ++ a ++ in_text d ++ listed xs ++ codes "))"
expr_step (Expr-F.Between d a b c) = codes "(" ++ a ++ between_text d ++ b ++ codes " AND " ++ c ++ codes ")"

-- an expression; each operator stands in parentheses with its operands
abbrev pub expr_text : Expr → Text
expr_text = fold-Expr Text expr_step

abbrev pub row_text : List Expr → Text
row_text xs = codes "(" ++ listed (map expr_text xs) ++ codes ")"

-- what may be missing
abbrev pub clause_text : Text → Option Expr → Text
clause_text before None = []
clause_text before (Some a) = before ++ expr_text a

abbrev pub name_clause_text : Text → Option Text → Text
name_clause_text before None = []
name_clause_text before (Some n) = before ++ name_text n

abbrev pub flag_text : Bool → Text → Text
flag_text true x = x
flag_text false x = []

abbrev pub result_text : ResultItem → Text
result_text item.All = codes "*"
result_text (item.Value a n) = expr_text a ++ name_clause_text (codes " AS ") n

-- ASC isn't written
abbrev pub term_text : OrderTerm → Text
term_text i = expr_text i.expr ++ flag_text i.descending (codes " DESC")

abbrev pub order_text : List OrderTerm → Text
order_text [] = []
order_text (i ∷ is) = codes " ORDER BY " ++ listed (map term_text (i ∷ is))

abbrev pub limit_text : Option Expr → Option Expr → Text
limit_text None b = []
limit_text (Some a) b = codes " LIMIT " ++ expr_text a ++ clause_text (codes " OFFSET ") b

-- what stands behind the table
abbrev pub tail_text : SelectStmt → Text
tail_text q = clause_text (codes " WHERE ") q.filter ++ order_text q.order ++ limit_text q.limit q.offset

abbrev pub select_text : SelectStmt → Text
select_text q = codes "SELECT " ++ listed (map result_text q.results) ++ name_clause_text (codes " FROM ") q.table ++ tail_text q

abbrev pub kind_text : ColumnKind → Text
kind_text kind.Integer = codes " INTEGER"
kind_text kind.Text = codes " TEXT"
kind_text kind.Blob = codes " BLOB"

abbrev pub rules_text : ColumnDef → Text
rules_text d = flag_text d.primary (codes " PRIMARY KEY") ++ flag_text d.not_null (codes " NOT NULL") ++ flag_text d.unique (codes " UNIQUE")

abbrev pub column_text : ColumnDef → Text
column_text d = name_text d.name ++ kind_text d.kind ++ rules_text d

abbrev pub columns_text : List ColumnDef → Text
columns_text ds = codes " (" ++ listed (map column_text ds) ++ codes ")"

abbrev pub names_text : Option (List Text) → Text
names_text None = []
names_text (Some ns) = codes " (" ++ listed (map name_text ns) ++ codes ")"

abbrev pub inserted_text : InsertRows → Text
inserted_text (rows.Values rs) = codes " VALUES " ++ listed (map row_text rs)
inserted_text (rows.Select q) = codes " " ++ select_text q

abbrev pub set_text : Text × Expr → Text
set_text i = name_text i.0 ++ codes " = " ++ expr_text i.1

abbrev pub changes_text : List (Text × Expr) → Text
changes_text is = codes " SET " ++ listed (map set_text is)

-- the one text of a statement that enters the log
abbrev pub text_of : Stmt → Text
text_of (stmt.Create b n ds) = codes "CREATE TABLE " ++ flag_text b (codes "IF NOT EXISTS ") ++ name_text n ++ columns_text ds
text_of (stmt.Drop b n) = codes "DROP TABLE " ++ flag_text b (codes "IF EXISTS ") ++ name_text n
text_of (stmt.Insert n ns rs) = codes "INSERT INTO " ++ name_text n ++ names_text ns ++ inserted_text rs
text_of (stmt.Update n is g) = codes "UPDATE " ++ name_text n ++ changes_text is ++ clause_text (codes " WHERE ") g
text_of (stmt.Delete n g) = codes "DELETE FROM " ++ name_text n ++ clause_text (codes " WHERE ") g
text_of (stmt.Select q) = select_text q
