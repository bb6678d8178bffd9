-- What commands make of a state, and answer.
use Rattle.std.specs.Prelude.{◌≡◌, ℕ, List, filter, Result, Ok, Err}
use Rattle.rq_values.specs.declared.memory.NoMemory.{NoMemory}
use Rattle.rq_statement.specs.declared.res.Res.{Res}
use Rattle.rq_meaning.specs.Database.{Database}
use Rattle.rq_meaning.specs.Lists.{is_error}
use Rattle.rq_engine.specs.declared.outcome.Outcome.{Outcome}
use Rattle.rq_engine.specs.declared.outcome.Outcome.TheVariants.{Results}
use Rattle.rq_engine.specs.Fold.{State, Marks, with_mark, load_outcome}
use Rattle.rq_tables.specs.declared.commands.Ending.{Ending}
use Rattle.rq_tables.specs.declared.commands.Ending.TheVariants as ending

abbrev pub state : Database → Marks → List (List ℕ) → State
state db marks ids = record { database = db; marks = marks; ids = ids }

-- the state with its marks and its ids as they become
abbrev pub ended : State → Ending → State
ended s ending.Nothing = s
ended s (ending.Mark id boot number) = record s { marks = with_mark s.marks id boot number }
ended s (ending.Ids ids) = record s { ids = ids.keys }

-- the results of a list, and the database that it leaves
abbrev pub Answered : Database × List Res → Database → Outcome → Type 0
Answered p new o = (p.0 ≡ new) × (o ≡ Results p.1)

abbrev pub Loads : Database × List Res → Database → Outcome → Type 0
Loads p new o = (p.0 ≡ new) × (o ≡ load_outcome (filter is_error p.1))

-- an outcome behind which marks and ids stay
abbrev pub alone : Result Outcome NoMemory → Result (Outcome × Ending) NoMemory
alone (Ok o) = Ok (o, ending.Nothing)
alone (Err e) = Err e

abbrev pub IsIds : List (List ℕ) → Ending → Type 0
IsIds ids (ending.Ids all) = all.keys ≡ ids
IsIds ids ending.Nothing = ⊥
IsIds ids (ending.Mark id boot number) = ⊥
