-- Statements: what each makes of a database, and what it answers. docs/SQL.md, "What the statements do".
-- Source: SQLite, "CREATE TABLE", "DROP TABLE", "INSERT", "UPDATE", "DELETE", "SELECT".
use Rattle.std.specs.Prelude.{ℕ, ℤ, pos, Bool, true, false, if◌then◌else◌, nat_le, List, length, Option, is_some, Ok, Err}
use Rattle.std.specs.Option.{option_and_then}
use Rattle.std.specs.FinMap as fin
use Rattle.rq_grammar.specs.declared.expr.Expr.{Expr}
use Rattle.rq_grammar.specs.declared.stmt.ColumnDef.{ColumnDef}
use Rattle.rq_grammar.specs.declared.stmt.SelectStmt.{SelectStmt}
use Rattle.rq_grammar.specs.declared.stmt.InsertRows.{InsertRows}
use Rattle.rq_grammar.specs.declared.stmt.InsertRows.TheVariants as rows
use Rattle.rq_grammar.specs.declared.stmt.Stmt.{Stmt}
use Rattle.rq_grammar.specs.declared.stmt.Stmt.TheVariants as stmt
use Rattle.rq_statement.specs.declared.res.Res.{Res}
use Rattle.rq_meaning.specs.declared.done.Done.{Done}
use Rattle.rq_eval.specs.declared.error.StmtError.TheVariants as error
use Rattle.rq_eval.specs.Outcome.{Outcome, then_with}
use Rattle.rq_results.specs.Results.{Source, source_of}
use Rattle.rq_select.specs.Select.{unless, selected}
use Rattle.rq_select.specs.Parts.{rowids_where, result_count, result_rows}
use Rattle.rq_meaning.specs.Database.{Table, Database, table_of, with_table, without_table, tables_size, size_limit}
use Rattle.rq_meaning.specs.Rows.{needed}
use Rattle.rq_meaning.specs.Checks.{create_check, list_check, count_check, values_check, update_check, delete_check}
use Rattle.rq_meaning.specs.Changes.{Inserted, none_inserted, in_turn, row_inserted, expressions_inserted, without_rows, rows_updated}

-- the database that a change leaves, and what it answers
abbrev pub Effect : Type 0
Effect = Outcome (Database × Done)

-- so many rows were changed; the rowid of the last one that came in
abbrev pub done : ℤ → ℕ → Done
done last count = record { last_insert_id = last; rows_affected = count }

abbrev pub nothing_done : Done
nothing_done = done (pos 0) 0

-- ---- CREATE TABLE

abbrev pub no_rows : List ℕ → List ColumnDef → Table
no_rows n cs = record { name = n; columns = cs; rows = fin.empty }

-- the tables are within the limit
abbrev pub if_within : Database → Effect
if_within db = if nat_le (tables_size db) size_limit then Ok (db, nothing_done) else Err error.Full

abbrev pub new_created : Database → List ℕ → List ColumnDef → Effect
new_created db n cs = unless (create_check n cs) (if_within (with_table n (no_rows n cs) db))

-- of a table that is there
abbrev pub again_created : Database → Bool → List ℕ → Effect
again_created db true n = Ok (db, nothing_done)
again_created db false n = Err (error.TableExists n)

abbrev pub created : Database → Bool → List ℕ → List ColumnDef → Effect
created db if_not_exists n cs = if is_some (table_of n db) then again_created db if_not_exists n else new_created db n cs

-- ---- DROP TABLE

-- of a table that isn't there
abbrev pub none_dropped : Database → Bool → List ℕ → Effect
none_dropped db true n = Ok (db, nothing_done)
none_dropped db false n = Err (error.NoTable n)

abbrev pub dropped : Database → Bool → List ℕ → Effect
dropped db if_exists n = if is_some (table_of n db) then Ok (without_table n db, nothing_done) else none_dropped db if_exists n

-- ---- changes of a table

-- what the tables but that one take
abbrev pub others_size : List ℕ → Database → ℕ
others_size n db = tables_size (without_table n db)

-- the table of the name, changed
abbrev pub on_table : Database → List ℕ → (ℕ → Table → Outcome (Table × Done)) → Effect
on_table db n change =
    then_with (needed (error.NoTable n) (table_of n db)) (λ t.
    then_with (change (others_size n db) t) (λ p. Ok (with_table n p.0 db, p.1)))

abbrev pub as_inserted : Inserted → Table × Done
as_inserted s = (s.table, done s.last s.count)

abbrev pub values_inserted : Option (List (List ℕ)) → List (List Expr) → ℕ → Table → Outcome (Table × Done)
values_inserted ns rs others t =
    unless (values_check t ns rs) (
    then_with (in_turn (expressions_inserted others ns) rs (none_inserted t)) (λ s. Ok (as_inserted s)))

-- the rows of a select over what its FROM names; it is evaluated in full first
abbrev pub from_source : Option (List (List ℕ)) → SelectStmt → ℕ → Table → Source → Outcome (Table × Done)
from_source ns q others t s =
    unless (list_check t ns) (
    then_with (result_count q s) (λ count.
    unless (count_check t ns count) (
    then_with (result_rows q s) (λ rs.
    then_with (in_turn (row_inserted others ns) rs (none_inserted t)) (λ i. Ok (as_inserted i))))))

-- the table that a select's FROM names
abbrev pub from_table : Database → SelectStmt → Option Table
from_table db q = option_and_then (λ n. table_of n db) q.table

abbrev pub select_inserted : Database → Option (List (List ℕ)) → SelectStmt → ℕ → Table → Outcome (Table × Done)
select_inserted db ns q others t = then_with (source_of q.table (from_table db q)) (from_source ns q others t)

abbrev pub inserted : Database → Option (List (List ℕ)) → InsertRows → ℕ → Table → Outcome (Table × Done)
inserted db ns (rows.Values rs) = values_inserted ns rs
inserted db ns (rows.Select q) = select_inserted db ns q

abbrev pub updated : List (List ℕ × Expr) → Option Expr → ℕ → Table → Outcome (Table × Done)
updated ss f others t =
    unless (update_check t ss f) (
    then_with (rowids_where t f) (λ ks.
    then_with (rows_updated others ss ks t) (λ u. Ok (u, done (pos 0) (length ks)))))

abbrev pub deleted : Option Expr → ℕ → Table → Outcome (Table × Done)
deleted f others t =
    unless (delete_check t f) (
    then_with (rowids_where t f) (λ ks. Ok (without_rows ks t, done (pos 0) (length ks))))

-- ---- all of them

-- a statement that is executed
abbrev pub executed : Database → Stmt → Effect
executed db (stmt.Create b n cs) = created db b n cs
executed db (stmt.Drop b n) = dropped db b n
executed db (stmt.Insert n ns rs) = on_table db n (inserted db ns rs)
executed db (stmt.Update n ss f) = on_table db n (updated ss f)
executed db (stmt.Delete n f) = on_table db n (deleted f)
executed db (stmt.Select q) = Err error.QueryInExecute

-- a statement that is queried
abbrev pub queried : Database → Stmt → Outcome Res
queried db (stmt.Select q) = selected q (from_table db q)
queried db (stmt.Create b n cs) = Err error.ChangeInQuery
queried db (stmt.Drop b n) = Err error.ChangeInQuery
queried db (stmt.Insert n ns rs) = Err error.ChangeInQuery
queried db (stmt.Update n ss f) = Err error.ChangeInQuery
queried db (stmt.Delete n f) = Err error.ChangeInQuery
