-- Canonical tokens, and which statements are proper: those that some tokens spell.
use Rattle.std.specs.Prelude.{ℕ, suc, Bool, true, false, List, [], ◌∷◌, Option, Some, None, map, codes, ℤ, pos, negsuc}
use Rattle.rq_values.specs.declared.value.Value.{Value}
use Rattle.rq_values.specs.declared.value.Value.TheVariants as v
use Rattle.rq_grammar.specs.declared.word.Word.{Word}
use Rattle.rq_grammar.specs.declared.word.Word.TheVariants as w
use Rattle.rq_grammar.specs.declared.token.Token.{Token}
use Rattle.rq_grammar.specs.declared.token.Token.TheVariants as t
use Rattle.rq_grammar.specs.declared.expr.BinaryOp.{BinaryOp}
use Rattle.rq_grammar.specs.declared.expr.BinaryOp.TheVariants as op
use Rattle.rq_grammar.specs.declared.expr.Expr.{Expr}
use Rattle.rq_grammar.specs.declared.expr.Expr.TheOpen.{Expr-F}
use Rattle.rq_grammar.specs.declared.expr.Expr.TheFolds.{fold-Expr}
use Rattle.rq_grammar.specs.declared.stmt.ColumnKind.{ColumnKind}
use Rattle.rq_grammar.specs.declared.stmt.ColumnKind.TheVariants as kind
use Rattle.rq_grammar.specs.declared.stmt.ColumnDef.{ColumnDef}
use Rattle.rq_grammar.specs.declared.stmt.ResultItem.{ResultItem}
use Rattle.rq_grammar.specs.declared.stmt.ResultItem.TheVariants as item
use Rattle.rq_grammar.specs.declared.stmt.OrderTerm.{OrderTerm}
use Rattle.rq_grammar.specs.declared.stmt.SelectStmt.{SelectStmt}
use Rattle.rq_grammar.specs.declared.stmt.InsertRows.{InsertRows}
use Rattle.rq_grammar.specs.declared.stmt.InsertRows.TheVariants as rows
use Rattle.rq_grammar.specs.declared.stmt.Stmt.{Stmt}
use Rattle.rq_grammar.specs.declared.stmt.Stmt.TheVariants as stmt
use Rattle.rq_grammar.specs.Words.{Text, Tokens}
use Rattle.rq_grammar.specs.Spelling.{word_of}

-- what puts tokens before others
abbrev pub Front : Type 0
Front = Tokens → Tokens

-- ---- canonical tokens

abbrev pub word : List ℕ → Word → Token
word spelling k = t.Word spelling k

abbrev pub operator : BinaryOp → Front
operator op.Or y = word (codes "OR") w.Or ∷ y
operator op.And y = word (codes "AND") w.And ∷ y
operator op.Equal y = t.Equal ∷ y
operator op.NotEqual y = t.LessGreater ∷ y
operator op.Is y = word (codes "IS") w.Is ∷ y
operator op.IsNot y = word (codes "IS") w.Is ∷ word (codes "NOT") w.Not ∷ y
operator op.Like y = word (codes "LIKE") w.Like ∷ y
operator op.NotLike y = word (codes "NOT") w.Not ∷ word (codes "LIKE") w.Like ∷ y
operator op.Less y = t.Less ∷ y
operator op.LessEqual y = t.LessEqual ∷ y
operator op.Greater y = t.Greater ∷ y
operator op.GreaterEqual y = t.GreaterEqual ∷ y
operator op.Add y = t.Plus ∷ y
operator op.Sub y = t.Minus ∷ y
operator op.Mul y = t.Star ∷ y
operator op.Div y = t.Slash ∷ y
operator op.Rem y = t.Percent ∷ y
operator op.Concat y = t.BarBar ∷ y

abbrev pub denial : Bool → Front
denial true y = word (codes "NOT") w.Not ∷ y
denial false y = y

-- the rest of a list, and a list
abbrev pub more : List Front → Front
more [] y = y
more (f ∷ fs) y = t.Comma ∷ f (more fs y)

abbrev pub commas : List Front → Front
commas [] y = y
commas (f ∷ fs) y = f (more fs y)

abbrev pub integer : ℤ → Front
integer (pos n) y = t.Numeral n ∷ y
integer (negsuc n) y = t.Minus ∷ t.Numeral (suc n) ∷ y

abbrev pub literal : Value → Front
literal v.Null y = word (codes "NULL") w.Null ∷ y
literal (v.Int i) y = integer i y
literal (v.Text n) y = t.String n ∷ y
literal (v.Blob n) y = t.Blob n ∷ y

abbrev pub prefix_step : Expr-F Front → Front
prefix_step (Expr-F.Literal a) y = literal a y
prefix_step (Expr-F.Param n) y = t.Parameter n ∷ y
prefix_step (Expr-F.Name n) y = t.Quoted n ∷ y
prefix_step (Expr-F.Qualified n m) y = t.Quoted n ∷ t.Dot ∷ t.Quoted m ∷ y
prefix_step Expr-F.CurrentTimestamp y = word (codes "CURRENT_TIMESTAMP") w.CurrentTimestamp ∷ y
prefix_step Expr-F.CurrentDate y = word (codes "CURRENT_DATE") w.CurrentDate ∷ y
prefix_step Expr-F.CurrentTime y = word (codes "CURRENT_TIME") w.CurrentTime ∷ y
prefix_step Expr-F.CountAll y = word (codes "COUNT") w.Count ∷ t.Open ∷ t.Star ∷ t.Close ∷ y
prefix_step (Expr-F.Call n xs) y = t.Word n (word_of n) ∷ t.Open ∷ commas xs (t.Close ∷ y)
prefix_step (Expr-F.Minus a) y = t.Minus ∷ t.Open ∷ a (t.Close ∷ y)
prefix_step (Expr-F.Not a) y = t.Open ∷ word (codes "NOT") w.Not ∷ a (t.Close ∷ y)
prefix_step (Expr-F.Binary o a b) y = t.Open ∷ a (operator o (b (t.Close ∷ y)))
prefix_step (Expr-F.InList d a xs) y = t.Open ∷ a (denial d (word (codes "IN") w.In ∷ t.Open ∷ commas xs (t.Close ∷ t.Close ∷ y)))
prefix_step (Expr-F.Between d a b c) y = t.Open ∷ a (denial d (word (codes "BETWEEN") w.Between ∷ b (word (codes "AND") w.And ∷ c (t.Close ∷ y))))

abbrev pub prefix : Expr → Front
prefix = fold-Expr Front prefix_step

abbrev pub names : Option (List Text) → Front
names None y = y
names (Some ns) y = t.Open ∷ commas (map (λ n y. t.Quoted n ∷ y) ns) (t.Close ∷ y)

abbrev pub row : List Expr → Front
row xs y = t.Open ∷ commas (map prefix xs) (t.Close ∷ y)

abbrev pub filter : Option Expr → Front
filter None y = y
filter (Some a) y = word (codes "WHERE") w.Where ∷ prefix a y

abbrev pub alias : Option Text → Front
alias None y = y
alias (Some n) y = word (codes "AS") w.As ∷ t.Quoted n ∷ y

abbrev pub result : ResultItem → Front
result item.All y = t.Star ∷ y
result (item.Value a n) y = prefix a (alias n y)

abbrev pub source : Option Text → Front
source None y = y
source (Some n) y = word (codes "FROM") w.From ∷ t.Quoted n ∷ y

abbrev pub direction : Bool → Front
direction true y = word (codes "DESC") w.Desc ∷ y
direction false y = y

abbrev pub term : OrderTerm → Front
term i y = prefix i.expr (direction i.descending y)

abbrev pub order_by : List OrderTerm → Front
order_by [] y = y
order_by (i ∷ is) y = word (codes "ORDER") w.Order ∷ word (codes "BY") w.By ∷ commas (map term (i ∷ is)) y

abbrev pub offset : Option Expr → Front
offset None y = y
offset (Some a) y = word (codes "OFFSET") w.Offset ∷ prefix a y

abbrev pub limit : Option Expr → Option Expr → Front
limit None b y = y
limit (Some a) b y = word (codes "LIMIT") w.Limit ∷ prefix a (offset b y)

abbrev pub select : SelectStmt → Front
select q y = word (codes "SELECT") w.Select ∷ commas (map result q.results) (source q.table (filter q.filter (order_by q.order (limit q.limit q.offset y))))

abbrev pub kind_word : ColumnKind → Front
kind_word kind.Integer y = word (codes "INTEGER") w.Integer ∷ y
kind_word kind.Text y = word (codes "TEXT") w.Text ∷ y
kind_word kind.Blob y = word (codes "BLOB") w.Blob ∷ y

abbrev pub primary_rule : Bool → Front
primary_rule true y = word (codes "PRIMARY") w.Primary ∷ word (codes "KEY") w.Key ∷ y
primary_rule false y = y

abbrev pub not_null_rule : Bool → Front
not_null_rule true y = word (codes "NOT") w.Not ∷ word (codes "NULL") w.Null ∷ y
not_null_rule false y = y

abbrev pub unique_rule : Bool → Front
unique_rule true y = word (codes "UNIQUE") w.Unique ∷ y
unique_rule false y = y

abbrev pub column : ColumnDef → Front
column d y = t.Quoted d.name ∷ kind_word d.kind (primary_rule d.primary (not_null_rule d.not_null (unique_rule d.unique y)))

abbrev pub set : Text × Expr → Front
set i y = t.Quoted i.0 ∷ t.Equal ∷ prefix i.1 y

abbrev pub if_not_exists : Bool → Front
if_not_exists true y = word (codes "IF") w.If ∷ word (codes "NOT") w.Not ∷ word (codes "EXISTS") w.Exists ∷ y
if_not_exists false y = y

abbrev pub if_exists : Bool → Front
if_exists true y = word (codes "IF") w.If ∷ word (codes "EXISTS") w.Exists ∷ y
if_exists false y = y

abbrev pub inserted : InsertRows → Front
inserted (rows.Values rs) y = word (codes "VALUES") w.Values ∷ commas (map row rs) y
inserted (rows.Select q) y = select q y

-- the canonical tokens of a statement
abbrev pub tokens_of : Stmt → Tokens
tokens_of (stmt.Create b n ds) = word (codes "CREATE") w.Create ∷ word (codes "TABLE") w.Table ∷ if_not_exists b (t.Quoted n ∷ t.Open ∷ commas (map column ds) (t.Close ∷ []))
tokens_of (stmt.Drop b n) = word (codes "DROP") w.Drop ∷ word (codes "TABLE") w.Table ∷ if_exists b (t.Quoted n ∷ [])
tokens_of (stmt.Insert n ns rs) = word (codes "INSERT") w.Insert ∷ word (codes "INTO") w.Into ∷ t.Quoted n ∷ names ns (inserted rs [])
tokens_of (stmt.Update n is g) = word (codes "UPDATE") w.Update ∷ t.Quoted n ∷ word (codes "SET") w.Set ∷ commas (map set is) (filter g [])
tokens_of (stmt.Delete n g) = word (codes "DELETE") w.Delete ∷ word (codes "FROM") w.From ∷ t.Quoted n ∷ filter g []
tokens_of (stmt.Select q) = select q []
