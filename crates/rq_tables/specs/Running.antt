-- What functions over tables give, where memory may run out.
use Rattle.std.specs.Prelude.{◌≡◌, Bool, true, false, ◌&&◌, if◌then◌else◌, Result, Ok, Err}
use Rattle.rq_statement.specs.declared.item.Item.{Item}
use Rattle.rq_statement.specs.declared.res.Res.{Res}
use Rattle.rq_eval.specs.declared.error.EvalError.{EvalError}
use Rattle.rq_eval.specs.declared.error.EvalError.TheVariants.{Says, NoMemory}
use Rattle.rq_eval.specs.Outcome.{Outcome}
use Rattle.rq_eval.specs.ErrorText.{error_text}
use Rattle.rq_statement.specs.declared.res.Res.TheVariants as res
use Rattle.rq_meaning.specs.Database.{Database}
use Rattle.rq_meaning.specs.Lists.{Step, means, means_or_answers, is_select, is_error}
use Rattle.rq_tables.specs.declared.lists.Mode.{Mode}
use Rattle.rq_tables.specs.declared.lists.Mode.TheVariants as mode

-- the database that a statement leaves, and what it answers, unless memory runs out
abbrev pub Leaves : {X : Type 0} → Outcome (Database × X) → Database → Result X EvalError → Type 0
Leaves o new (Ok x) = o ≡ Ok (new, x)
Leaves o new (Err (Says e)) = o ≡ Err e
Leaves o new (Err NoMemory) = Unit {0}

-- the error as an answer; want of memory has none
abbrev pub IsError : EvalError → Res → Type 0
IsError (Says e) r = r ≡ res.Error (error_text e)
IsError NoMemory r = ⊥

abbrev pub may_read : Mode → Bool
may_read mode.Write = false
may_read mode.WriteAndRead = true

-- whether an item of a list only reads
abbrev pub only_reads : Mode → Item → Bool
only_reads m i = may_read m && is_select i

-- what an item of a list means
abbrev pub step_of : Mode → Step
step_of mode.Write = means
step_of mode.WriteAndRead = means_or_answers

-- what an item that answered so leaves: where it fails, the database as it was
abbrev pub left : Database → Database → Res → Database
left old new r = if is_error r then old else new
