-- What a select is over, its results, and their headings and types. docs/SQL.md, "What SELECT answers".
-- Source: SQLite, "SELECT", section 2.4 "Result Set Columns"; rqlite, "API", for types.
use Rattle.std.specs.Prelude.{ℕ, zero, suc, ◌+◌, Bool, false, if◌then◌else◌, List, [], ◌∷◌, ◌++◌, map, codes, Option, Some, None, Ok, Err}
use Rattle.std.specs.Option.{option_and_then, option_map}
use Rattle.rq_grammar.specs.declared.expr.Expr.{Expr}
use Rattle.rq_grammar.specs.declared.expr.Expr.TheVariants as expr
use Rattle.rq_grammar.specs.declared.stmt.ColumnDef.{ColumnDef}
use Rattle.rq_grammar.specs.declared.stmt.ColumnKind.{ColumnKind}
use Rattle.rq_grammar.specs.declared.stmt.ColumnKind.TheVariants as kind
use Rattle.rq_grammar.specs.declared.stmt.ResultItem.{ResultItem}
use Rattle.rq_grammar.specs.declared.stmt.ResultItem.TheVariants as item
use Rattle.rq_grammar.specs.declared.stmt.SelectStmt.{SelectStmt}
use Rattle.rq_eval.specs.declared.error.StmtError.{StmtError}
use Rattle.rq_eval.specs.declared.error.StmtError.TheVariants as error
use Rattle.rq_eval.specs.declared.row.Scope.{Scope}
use Rattle.rq_eval.specs.declared.row.Scope.TheVariants as scope
use Rattle.rq_eval.specs.Outcome.{Outcome}
use Rattle.rq_eval.specs.Names.{Row, is_same_name, place, qualified_place}
use Rattle.rq_eval.specs.Value.{no_row}
use Rattle.rq_print.specs.Text.{expr_text}
use Rattle.rq_results.specs.Table.{Table, rows_of, scope_of, column_at}

-- ---- what FROM names

-- what names may name, the columns, and the rows in their order
pub record Source : Type 0 where
  pub scope : Scope
  pub columns : List ColumnDef
  pub rows : List Row

-- without FROM there is one row, and it has no column
abbrev pub no_source : Source
no_source = record { scope = scope.Empty; columns = []; rows = no_row ∷ [] }

abbrev pub table_source : Table → Source
table_source t = record { scope = scope_of t; columns = t.columns; rows = rows_of t }

abbrev pub no_such_table : List ℕ → StmtError
no_such_table n = error.NoTable n

abbrev pub named_source : List ℕ → Option Table → Outcome Source
named_source n None = Err (no_such_table n)
named_source n (Some t) = Ok (table_source t)

abbrev pub source_of : Option (List ℕ) → Option Table → Outcome Source
source_of None t = Ok no_source
source_of (Some n) t = named_source n t

-- ---- results

-- a column of `*`, or an expression with its alias
pub data Shown : Type 0 where
  column : ℕ → Shown
  expression : Expr → Option (List ℕ) → Shown

-- the columns before a place
abbrev pub columns_before : ℕ → List Shown
columns_before zero = []
columns_before (suc n) = columns_before n ++ column n ∷ []

-- what stands for a result, where the table has so many columns
abbrev pub in_place : ℕ → ResultItem → List Shown
in_place n item.All = columns_before n
in_place n (item.Value x a) = expression x a ∷ []

-- the results, with the columns of the table in place of `*`
abbrev pub spread : ℕ → List ResultItem → List Shown
spread n [] = []
spread n (i ∷ is) = in_place n i ++ spread n is

-- ---- headings and types

-- the column that an expression names, where it is a name alone
abbrev pub named_column : Scope → List ColumnDef → Expr → Option ColumnDef
named_column s cs (expr.Name n) = option_and_then (column_at cs) (place s n)
named_column s cs (expr.Qualified t n) = option_and_then (column_at cs) (qualified_place s t n)
named_column s cs _ = None

abbrev pub column_of : Scope → List ColumnDef → Shown → Option ColumnDef
column_of s cs (column i) = column_at cs i
column_of s cs (expression x a) = named_column s cs x

-- a column's name as declared, else another text
abbrev pub name_or : List ℕ → Option ColumnDef → List ℕ
name_or text None = text
name_or text (Some c) = c.name

-- the alias, else the name of the column, else the canonical text
abbrev pub heading : Scope → List ColumnDef → Shown → List ℕ
heading s cs (column i) = name_or [] (column_at cs i)
heading s cs (expression x (Some a)) = a
heading s cs (expression x None) = name_or (expr_text x) (named_column s cs x)

abbrev pub kind_name : ColumnKind → List ℕ
kind_name kind.Integer = codes "integer"
kind_name kind.Text = codes "text"
kind_name kind.Blob = codes "blob"

abbrev pub type_or_none : Option ColumnDef → List ℕ
type_or_none None = []
type_or_none (Some c) = kind_name c.kind

-- the declared type of a column, and none of what is no column
abbrev pub type_of : Scope → List ColumnDef → Shown → List ℕ
type_of s cs r = type_or_none (column_of s cs r)

-- ---- aliases

-- whether a result has that alias
abbrev pub has_alias : Shown → List ℕ → Bool
has_alias (column i) n = false
has_alias (expression x None) n = false
has_alias (expression x (Some a)) n = is_same_name a n

-- the place of the first result of that alias, counted on from i
abbrev pub alias_from : ℕ → List Shown → List ℕ → Option ℕ
alias_from i [] n = None
alias_from i (r ∷ rs) n = if has_alias r n then Some i else alias_from (i + 1) rs n

abbrev pub alias_place : List Shown → List ℕ → Option ℕ
alias_place rs n = alias_from 0 rs n
