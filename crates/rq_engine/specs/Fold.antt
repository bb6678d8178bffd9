-- Fold: what the commands of a log make of a replica, and what each of them answers.
-- Source: the extended Raft paper, section 2 (replicated state machines) and section 8 (serial numbers); ours: the kinds of commands.
use Rattle.std.specs.Prelude.{ℕ, Bool, true, ◌&&◌, ◌||◌, ◌==◌, nat_lt, if◌then◌else◌, List, [], ◌∷◌, filter, Option, Some, None}
use Rattle.std.specs.FinMap as fin
use Rattle.std.specs.Map.{lookup}
use Rattle.std.specs.BTreeMap.{insert_entry, is_at}
use Rattle.std.specs.BTreeSet.{insert_key}
use Rattle.std.specs.List.{list_any}
use Rattle.rq_statement.specs.declared.item.Item.{Item}
use Rattle.rq_statement.specs.Statements.{Statements}
use Rattle.rq_statement.specs.declared.res.Res.{Res}
use Rattle.rq_statement.specs.declared.command.Command.{Command}
use Rattle.rq_statement.specs.declared.command.Command.TheVariants.{NoOp, Config, Execute, Request, StrongQuery, Load, Batch, Once}
use Rattle.rq_engine.specs.declared.outcome.Outcome.{Outcome}
use Rattle.rq_engine.specs.declared.outcome.Outcome.TheVariants.{Results, Loaded, Nothing, Stale}
use Rattle.rq_meaning.specs.Database.{name_cmp, Database}
use Rattle.rq_meaning.specs.Lists.{means, answers, means_or_answers, is_error, all_or_none, list_run, after_lists}

-- of each server whose lists were sent on, the count of boots and the number of its last list that ran, in rising order of ids
abbrev pub Marks : Type 0
Marks = List (List ℕ × (ℕ × ℕ))

pub record State : Type 0 where
  pub database : Database
  pub marks : Marks
  pub ids : List (List ℕ)  -- of all servers that ever were in a configuration, rising

abbrev pub with_ids : List (List ℕ) → List (List ℕ) → List (List ℕ)
with_ids ids [] = ids
with_ids ids (id ∷ more) = with_ids (insert_key name_cmp ids id) more

abbrev pub has_id : State → List ℕ → Bool
has_id s id = list_any (is_at (name_cmp id)) s.ids

-- ---- lists that were sent on

-- whether a list comes behind the last one of its server
abbrev pub is_newer : Option (ℕ × ℕ) → ℕ → ℕ → Bool
is_newer None boot number = true
is_newer (Some last) boot number = nat_lt last.0 boot || ((last.0 == boot) && nat_lt last.1 number)

abbrev pub mark_of : Marks → List ℕ → Option (ℕ × ℕ)
mark_of marks id = lookup (is_at (name_cmp id)) marks

abbrev pub with_mark : Marks → List ℕ → ℕ → ℕ → Marks
with_mark marks id boot number = insert_entry name_cmp marks id (boot, number)

-- ---- commands

-- the list's results, on the state with its database
abbrev pub answered : State → Database × List Res → State × Outcome
answered s p = (record s { database = p.0 }, Results p.1)

-- all is loaded, or else its error
abbrev pub load_outcome : List Res → Outcome
load_outcome [] = Loaded
load_outcome (error ∷ errors) = Results (error ∷ errors)

abbrev pub loaded : State → Database × List Res → State × Outcome
loaded s p = (record s { database = p.0 }, load_outcome (filter is_error p.1))

abbrev pub run_once : State → List ℕ → ℕ → ℕ → Statements → State × Outcome
run_once s id boot number list =
    if is_newer (mark_of s.marks id) boot number then answered (record s { marks = with_mark s.marks id boot number }) (list_run means_or_answers s.database list)
    else (s, Stale)

-- what a command makes of a state, and answers
unfoldable pub run : State → Command → State × Outcome
run s NoOp = (s, Nothing)
run s (Config ids) = (record s { ids = with_ids s.ids ids }, Nothing)
run s (Execute list) = answered s (list_run means s.database list)
run s (Request list) = answered s (list_run means_or_answers s.database list)
run s (StrongQuery items) = (s, Results (answers s.database items))
run s (Load items) = loaded s (all_or_none means s.database items)
run s (Batch lists) = (record s { database = after_lists s.database lists }, Nothing)
run s (Once id boot number list) = run_once s id boot number list

-- before all commands: no tables, no marks, and the ids of the first configuration
unfoldable pub first : List (List ℕ) → State
first ids = record { database = fin.empty; marks = []; ids = with_ids [] ids }

abbrev pub after : State → List Command → State
after s [] = s
after s (command ∷ commands) = after (run s command).0 commands

-- the fold of a log, from the ids of the first configuration
abbrev pub replica : List (List ℕ) → List Command → State
replica ids log = after (first ids) log

-- what a command of the log answers, behind the commands before it
abbrev pub outcome_behind : List (List ℕ) → List Command → Command → Outcome
outcome_behind ids log command = (run (replica ids log) command).1

-- what queries answer over a state
unfoldable pub answer : State → List Item → List Res
answer s items = answers s.database items
