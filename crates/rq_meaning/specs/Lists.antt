-- Lists: what a list of items makes of a database, and what its items answer.
-- Source: SQLite, "Transaction"; the rqlite documentation, "Data API", for lists with and without a transaction.
use Rattle.std.specs.Prelude.{Bool, true, false, if◌then◌else◌, List, [], ◌∷◌, map, Option, Some, None, unwrap_or, Ok, Err}
use Rattle.rq_grammar.specs.declared.stmt.Stmt.TheVariants as stmt
use Rattle.rq_statement.specs.declared.item.Item.{Item}
use Rattle.rq_statement.specs.declared.item.Item.TheVariants.{Run, Fail}
use Rattle.rq_statement.specs.Statements.{Statements}
use Rattle.rq_statement.specs.declared.res.Res.{Res}
use Rattle.rq_statement.specs.declared.res.Res.TheVariants as res
use Rattle.rq_eval.specs.Outcome.{Outcome}
use Rattle.rq_eval.specs.ErrorText.{error_text}
use Rattle.rq_meaning.specs.Database.{Database}
use Rattle.rq_meaning.specs.Statements.{Effect, executed, queried}

-- ---- items

-- a statement that fails changes nothing
abbrev pub settled : Database → Effect → Database × Res
settled db (Ok p) = (p.0, res.Done p.1.last_insert_id p.1.rows_affected)
settled db (Err e) = (db, res.Error (error_text e))

-- an item of a list that is executed
abbrev pub means : Database → Item → Database × Res
means db (Run s) = settled db (executed db s)
means db (Fail e) = (db, res.Error e)

abbrev pub as_res : Outcome Res → Res
as_res (Ok r) = r
as_res (Err e) = res.Error (error_text e)

-- an item of a list that is queried; it changes nothing
abbrev pub answer_of : Database → Item → Res
answer_of db (Run s) = as_res (queried db s)
answer_of db (Fail e) = res.Error e

abbrev pub is_select : Item → Bool
is_select (Run (stmt.Select q)) = true
is_select i = false

-- an item of a list that may write and read
abbrev pub means_or_answers : Database → Item → Database × Res
means_or_answers db i = if is_select i then (db, answer_of db i) else means db i

-- ---- lists

-- what an item makes of a database, and answers
abbrev pub Step : Type 0
Step = Database → Item → Database × Res

-- the database that a list leaves, and what its items answer, each item by itself
abbrev pub each : Step → Database → List Item → Database × List Res
each step db [] = (db, [])
each step db (i ∷ is) = let p = step db i in let q = each step p.0 is in (q.0, p.1 ∷ q.1)

abbrev pub answers : Database → List Item → List Res
answers db is = map (answer_of db) is

abbrev pub is_error : Res → Bool
is_error (res.Error e) = true
is_error (res.Done id n) = false
is_error (res.Rows names types rows) = false

-- the database behind all items, where none fails, and the answers up to the first error
abbrev pub up_to_error : Step → Database → List Item → Option Database × List Res
up_to_error step db [] = (Some db, [])
up_to_error step db (i ∷ is) = let p = step db i in if is_error p.1 then (None, p.1 ∷ []) else (let q = up_to_error step p.0 is in (q.0, p.1 ∷ q.1))

-- a transaction: all of the items, or none
abbrev pub all_or_none : Step → Database → List Item → Database × List Res
all_or_none step db is = let q = up_to_error step db is in (unwrap_or q.0 db, q.1)

abbrev pub list_run : Step → Database → Statements → Database × List Res
list_run step db list = if list.transaction then all_or_none step db list.items else each step db list.items

-- lists one after the other
abbrev pub after_lists : Database → List Statements → Database
after_lists db [] = db
after_lists db (list ∷ lists) = after_lists (list_run means db list).0 lists
