-- The text of each error of a statement, as docs/SQL.md has it under "Errors of statements".
use Rattle.std.specs.Prelude.{ℕ, List, ◌++◌, codes, decimal}
use Rattle.rq_grammar.specs.declared.stmt.ColumnKind.{ColumnKind}
use Rattle.rq_grammar.specs.declared.stmt.ColumnKind.TheVariants as kind
use Rattle.rq_operators.specs.declared.error.ValueError.{ValueError}
use Rattle.rq_operators.specs.declared.error.ValueError.TheVariants as value
use Rattle.rq_eval.specs.declared.error.StmtError.{StmtError}
use Rattle.rq_eval.specs.declared.error.StmtError.TheVariants as error

abbrev pub kind_name : ColumnKind → List ℕ
kind_name kind.Integer = codes "INTEGER"
kind_name kind.Text = codes "TEXT"
kind_name kind.Blob = codes "BLOB"

abbrev pub counted : ℕ → List ℕ → List ℕ
counted n words = decimal n ++ words

abbrev pub value_in : ColumnKind → ColumnKind → List ℕ
value_in k l = codes "cannot store " ++ kind_name k ++ codes " value in " ++ kind_name l

abbrev pub value_words : ValueError → List ℕ
value_words value.NotInteger = codes "not an integer"
value_words value.NotText = codes "not a text"
value_words value.NotCondition = codes "not a condition"
value_words value.NotTimeText = codes "not a time text"
value_words value.IntegerOverflow = codes "integer overflow"

abbrev pub error_text : StmtError → List ℕ
error_text error.QueryInExecute = codes "query in execute"
error_text error.ChangeInQuery = codes "attempt to change database via query operation"
error_text (error.NoTable t) = codes "no such table: " ++ t
error_text (error.TableExists t) = codes "table " ++ t ++ codes " already exists"
error_text (error.ReservedName t) = codes "object name reserved for internal use: " ++ t
error_text (error.DuplicateColumn c) = codes "duplicate column name: " ++ c
error_text (error.SecondPrimaryKey t) = codes "table " ++ t ++ codes " has more than one primary key"
error_text (error.NoColumnInTable t c) = codes "table " ++ t ++ codes " has no column named " ++ c
error_text (error.NoColumn c) = codes "no such column: " ++ c
error_text (error.NoQualifiedColumn t c) = codes "no such column: " ++ t ++ codes "." ++ c
error_text (error.WrongValueCount t n m) = (codes "table " ++ t ++ codes " has ") ++ (counted n (codes " columns but ") ++ counted m (codes " values were supplied"))
error_text (error.WrongListCount m n) = counted m (codes " values for ") ++ counted n (codes " columns")
error_text (error.NoFunction f) = codes "no such function: " ++ f
error_text (error.WrongArguments f) = codes "wrong number of arguments to function " ++ f ++ codes "()"
error_text error.MisuseOfAggregate = codes "misuse of aggregate"
error_text error.OrderTermOutOfRange = codes "ORDER BY term out of range"
error_text error.DatatypeMismatch = codes "datatype mismatch"
error_text (error.Value e) = value_words e
error_text (error.CannotStore k l t c) = value_in k l ++ (codes " column " ++ t ++ codes "." ++ c)
error_text error.RowidOutOfRange = codes "rowid out of range"
error_text error.Full = codes "database or disk is full"
error_text (error.NotNullFailed t c) = codes "NOT NULL constraint failed: " ++ t ++ codes "." ++ c
error_text (error.UniqueFailed t c) = codes "UNIQUE constraint failed: " ++ t ++ codes "." ++ c
