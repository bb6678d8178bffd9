-- Statements, as docs/SQL.md has them. A relation `R x v y` says that the tokens x begin with a spelling of v, and y is left.
use Rattle.std.specs.Prelude.{◌≡◌, Bool, true, false, List, [], ◌∷◌, ◌++◌, Option, Some, None}
use Rattle.rq_grammar.specs.declared.word.Word.{Word}
use Rattle.rq_grammar.specs.declared.word.Word.TheVariants as w
use Rattle.rq_grammar.specs.declared.token.Token.{Token}
use Rattle.rq_grammar.specs.declared.token.Token.TheVariants as t
use Rattle.rq_grammar.specs.declared.expr.Expr.{Expr}
use Rattle.rq_grammar.specs.declared.stmt.ColumnKind.{ColumnKind}
use Rattle.rq_grammar.specs.declared.stmt.ColumnKind.TheVariants as kind
use Rattle.rq_grammar.specs.declared.stmt.ColumnDef.{ColumnDef}
use Rattle.rq_grammar.specs.declared.stmt.ResultItem.{ResultItem}
use Rattle.rq_grammar.specs.declared.stmt.ResultItem.TheVariants as item
use Rattle.rq_grammar.specs.declared.stmt.OrderTerm.{OrderTerm}
use Rattle.rq_grammar.specs.declared.stmt.SelectStmt.{SelectStmt}
use Rattle.rq_grammar.specs.declared.stmt.InsertRows.TheVariants as rows
use Rattle.rq_grammar.specs.declared.stmt.Stmt.{Stmt}
use Rattle.rq_grammar.specs.declared.stmt.Stmt.TheVariants as s
use Rattle.rq_grammar.specs.Words.{Text, Tokens, Name}
use Rattle.rq_grammar.specs.Grammar.{At, Some_of}

-- any number of `;`, and nothing behind them
pub data Semis : Tokens → Type 0 where
  end : Semis []
  semi : {y : Tokens} → Semis y → Semis (t.Semi ∷ y)

-- at least one name, with commas between
pub data NameList : Tokens → List Text → Tokens → Type 0 where
  first_name : {n : Text} {u : Token} {y : Tokens} → Name n u → NameList (u ∷ y) (n ∷ []) y
  next_name : {n : Text} {ns : List Text} {u : Token} {x y : Tokens} → NameList x ns (t.Comma ∷ u ∷ y) → Name n u → NameList x (ns ++ n ∷ []) y

-- `WHERE expr`, or nothing
pub data Where : Tokens → Option Expr → Tokens → Type 0 where
  no_where : {y : Tokens} → Where y None y
  filter : {a : Expr} {n : Text} {x y : Tokens} → At 0 x a y → Where (t.Word n w.Where ∷ x) (Some a) y

-- ---- CREATE TABLE

pub data Kind : Word → ColumnKind → Type 0 where
  integer_kind : Kind w.Integer kind.Integer
  text_kind : Kind w.Text kind.Text
  blob_kind : Kind w.Blob kind.Blob

-- the rules of a column, in any order, each at most once: what the column has before them, and what it has with them
pub data Rules : ColumnDef → Tokens → ColumnDef → Tokens → Type 0 where
  no_more : {c : ColumnDef} {y : Tokens} → Rules c y c y
  primary_key : {c d : ColumnDef} {n m : Text} {x y : Tokens} → c.primary ≡ false → Rules (record c { primary = true }) x d y → Rules c (t.Word n w.Primary ∷ t.Word m w.Key ∷ x) d y
  not_null : {c d : ColumnDef} {n m : Text} {x y : Tokens} → c.not_null ≡ false → Rules (record c { not_null = true }) x d y → Rules c (t.Word n w.Not ∷ t.Word m w.Null ∷ x) d y
  unique : {c d : ColumnDef} {n : Text} {x y : Tokens} → c.unique ≡ false → Rules (record c { unique = true }) x d y → Rules c (t.Word n w.Unique ∷ x) d y

-- a column without rules
abbrev pub plain_column : Text → ColumnKind → ColumnDef
plain_column n k = record { name = n; kind = k; primary = false; not_null = false; unique = false }

pub data Column : Tokens → ColumnDef → Tokens → Type 0 where
  column : {n m : Text} {u : Token} {v : Word} {k : ColumnKind} {c : ColumnDef} {x y : Tokens} → Name n u → Kind v k → Rules (plain_column n k) x c y → Column (u ∷ t.Word m v ∷ x) c y

pub data ColumnList : Tokens → List ColumnDef → Tokens → Type 0 where
  first_column : {c : ColumnDef} {x y : Tokens} → Column x c y → ColumnList x (c ∷ []) y
  next_column : {c : ColumnDef} {cs : List ColumnDef} {x y z : Tokens} → ColumnList x cs (t.Comma ∷ y) → Column y c z → ColumnList x (cs ++ c ∷ []) z

-- `IF NOT EXISTS`, or nothing
pub data IfNotExists : Bool → Tokens → Tokens → Type 0 where
  always : {y : Tokens} → IfNotExists false y y
  if_not_exists : {n m l : Text} {y : Tokens} → IfNotExists true (t.Word n w.If ∷ t.Word m w.Not ∷ t.Word l w.Exists ∷ y) y

-- `IF EXISTS`, or nothing
pub data IfExists : Bool → Tokens → Tokens → Type 0 where
  surely : {y : Tokens} → IfExists false y y
  if_exists : {n m : Text} {y : Tokens} → IfExists true (t.Word n w.If ∷ t.Word m w.Exists ∷ y) y

-- ---- SELECT

-- `*`, or an expression with or without a name
pub data Result : Tokens → ResultItem → Tokens → Type 0 where
  all : {y : Tokens} → Result (t.Star ∷ y) item.All y
  value : {a : Expr} {x y : Tokens} → At 0 x a y → Result x (item.Value a None) y
  value_as : {a : Expr} {n m : Text} {u : Token} {x y : Tokens} → At 0 x a (t.Word m w.As ∷ u ∷ y) → Name n u → Result x (item.Value a (Some n)) y

pub data ResultList : Tokens → List ResultItem → Tokens → Type 0 where
  first_result : {i : ResultItem} {x y : Tokens} → Result x i y → ResultList x (i ∷ []) y
  next_result : {i : ResultItem} {is : List ResultItem} {x y z : Tokens} → ResultList x is (t.Comma ∷ y) → Result y i z → ResultList x (is ++ i ∷ []) z

-- `FROM name`, or nothing
pub data From : Tokens → Option Text → Tokens → Type 0 where
  no_from : {y : Tokens} → From y None y
  from : {n m : Text} {u : Token} {y : Tokens} → Name n u → From (t.Word m w.From ∷ u ∷ y) (Some n) y

abbrev pub rising : Expr → OrderTerm
rising a = record { expr = a; descending = false }

abbrev pub falling : Expr → OrderTerm
falling a = record { expr = a; descending = true }

pub data Term : Tokens → OrderTerm → Tokens → Type 0 where
  unmarked : {a : Expr} {x y : Tokens} → At 0 x a y → Term x (rising a) y
  asc : {a : Expr} {n : Text} {x y : Tokens} → At 0 x a (t.Word n w.Asc ∷ y) → Term x (rising a) y
  desc : {a : Expr} {n : Text} {x y : Tokens} → At 0 x a (t.Word n w.Desc ∷ y) → Term x (falling a) y

pub data TermList : Tokens → List OrderTerm → Tokens → Type 0 where
  first_term : {i : OrderTerm} {x y : Tokens} → Term x i y → TermList x (i ∷ []) y
  next_term : {i : OrderTerm} {is : List OrderTerm} {x y z : Tokens} → TermList x is (t.Comma ∷ y) → Term y i z → TermList x (is ++ i ∷ []) z

-- `ORDER BY term, ..`, or nothing
pub data OrderBy : Tokens → List OrderTerm → Tokens → Type 0 where
  no_order : {y : Tokens} → OrderBy y [] y
  order_by : {is : List OrderTerm} {n m : Text} {x y : Tokens} → TermList x is y → OrderBy (t.Word n w.Order ∷ t.Word m w.By ∷ x) is y

-- `LIMIT expr [OFFSET expr]`, or nothing
pub data Limits : Tokens → Option Expr → Option Expr → Tokens → Type 0 where
  no_limit : {y : Tokens} → Limits y None None y
  limit : {a : Expr} {n : Text} {x y : Tokens} → At 0 x a y → Limits (t.Word n w.Limit ∷ x) (Some a) None y
  limit_offset : {a b : Expr} {n m : Text} {x y z : Tokens} → At 0 x a (t.Word m w.Offset ∷ y) → At 0 y b z → Limits (t.Word n w.Limit ∷ x) (Some a) (Some b) z

pub data Select : Tokens → SelectStmt → Tokens → Type 0 where
  select : {is : List ResultItem} {n : Option Text} {g : Option Expr} {ts : List OrderTerm} {a b : Option Expr} {m : Text} {x x1 x2 x3 x4 y : Tokens} → ResultList x is x1 → From x1 n x2 → Where x2 g x3 → OrderBy x3 ts x4 → Limits x4 a b y → Select (t.Word m w.Select ∷ x) (record { results = is; table = n; filter = g; order = ts; limit = a; offset = b }) y

-- ---- INSERT, UPDATE

-- `( name, .. )`, or nothing
pub data ColumnNames : Tokens → Option (List Text) → Tokens → Type 0 where
  no_names : {y : Tokens} → ColumnNames y None y
  these_names : {ns : List Text} {x y : Tokens} → NameList x ns (t.Close ∷ y) → ColumnNames (t.Open ∷ x) (Some ns) y

pub data Rows : Tokens → List (List Expr) → Tokens → Type 0 where
  first_row : {xs : List Expr} {x y : Tokens} → Some_of x xs (t.Close ∷ y) → Rows (t.Open ∷ x) (xs ∷ []) y
  next_row : {xs : List Expr} {rs : List (List Expr)} {x y z : Tokens} → Rows x rs (t.Comma ∷ t.Open ∷ y) → Some_of y xs (t.Close ∷ z) → Rows x (rs ++ xs ∷ []) z

-- `name = expr`
pub data Set : Tokens → Text × Expr → Tokens → Type 0 where
  set : {n : Text} {a : Expr} {u : Token} {x y : Tokens} → Name n u → At 0 x a y → Set (u ∷ t.Equal ∷ x) (n, a) y

pub data SetList : Tokens → List (Text × Expr) → Tokens → Type 0 where
  first_set : {i : Text × Expr} {x y : Tokens} → Set x i y → SetList x (i ∷ []) y
  next_set : {i : Text × Expr} {is : List (Text × Expr)} {x y z : Tokens} → SetList x is (t.Comma ∷ y) → Set y i z → SetList x (is ++ i ∷ []) z

-- ---- the whole of the tokens spells the statement

pub data Spells : Tokens → Stmt → Type 0 where
  create : {b : Bool} {n l m : Text} {u : Token} {cs : List ColumnDef} {x y z : Tokens} → IfNotExists b x (u ∷ t.Open ∷ y) → Name n u → ColumnList y cs (t.Close ∷ z) → Semis z → Spells (t.Word l w.Create ∷ t.Word m w.Table ∷ x) (s.Create b n cs)
  drop : {b : Bool} {n l m : Text} {u : Token} {x z : Tokens} → IfExists b x (u ∷ z) → Name n u → Semis z → Spells (t.Word l w.Drop ∷ t.Word m w.Table ∷ x) (s.Drop b n)
  insert : {n l m k : Text} {ns : Option (List Text)} {rs : List (List Expr)} {u : Token} {x y z : Tokens} → Name n u → ColumnNames x ns (t.Word k w.Values ∷ y) → Rows y rs z → Semis z → Spells (t.Word l w.Insert ∷ t.Word m w.Into ∷ u ∷ x) (s.Insert n ns (rows.Values rs))
  insert_select : {n l m : Text} {ns : Option (List Text)} {q : SelectStmt} {u : Token} {x y z : Tokens} → Name n u → ColumnNames x ns y → Select y q z → Semis z → Spells (t.Word l w.Insert ∷ t.Word m w.Into ∷ u ∷ x) (s.Insert n ns (rows.Select q))
  update : {n l m : Text} {is : List (Text × Expr)} {g : Option Expr} {u : Token} {x y z : Tokens} → Name n u → SetList x is y → Where y g z → Semis z → Spells (t.Word l w.Update ∷ u ∷ t.Word m w.Set ∷ x) (s.Update n is g)
  delete : {n l m : Text} {g : Option Expr} {u : Token} {y z : Tokens} → Name n u → Where y g z → Semis z → Spells (t.Word l w.Delete ∷ t.Word m w.From ∷ u ∷ y) (s.Delete n g)
  select_stmt : {q : SelectStmt} {x z : Tokens} → Select x q z → Semis z → Spells x (s.Select q)

-- some statement begins with these tokens
abbrev pub GoesOn : Tokens → Type 0
GoesOn prefix = (rest : Tokens) × (stmt : Stmt) × Spells (prefix ++ rest) stmt
