-- What a command leaves is valid.
use Rattle.std.proofs.Common.{◌≡◌, Bool, true, false, List, [], ◌∷◌, map, Option, Some, None, Ok, Err, refl, ap, subst}
use Rattle.std.specs.Prelude.{if◌then◌else◌, unwrap_or, ◌&&◌}
use Rattle.rq_grammar.specs.declared.stmt.Stmt.{Stmt}
use Rattle.rq_grammar.specs.Proper.{all_of, is_statement}
use Rattle.rq_statement.specs.declared.item.Item.{Item}
use Rattle.rq_statement.specs.declared.item.Item.TheVariants.{Run, Fail}
use Rattle.rq_statement.specs.Statements.{Statements}
use Rattle.rq_statement.specs.declared.res.Res.{Res}
use Rattle.rq_statement.specs.declared.command.Command.{Command}
use Rattle.rq_statement.specs.declared.command.Command.TheVariants as command
use Rattle.rq_meaning.specs.declared.done.Done.{Done}
use Rattle.rq_meaning.specs.Database.{Database}
use Rattle.rq_meaning.specs.Valid.{Valid}
use Rattle.rq_meaning.specs.Statements.{Effect, executed}
use Rattle.rq_meaning.specs.Lists.{Step, means, means_or_answers, answer_of, is_select, settled, is_error, each, up_to_error, all_or_none, list_run, after_lists}
use Rattle.rq_engine.specs.declared.outcome.Outcome.TheVariants.{Stale}
use Rattle.rq_engine.specs.Fold.{State, run, is_newer, mark_of, with_mark, answered}
use Rattle.rq_engine.specs.Proper.{is_item, are_items, is_list, is_command}

-- what is known of statements
abbrev pub StatementsKeep : Type 0
StatementsKeep = (db : Database) (s : Stmt) (p : Database × Done) → is_statement s ≡ true → Valid db → executed db s ≡ Ok p → Valid p.0

abbrev Keeps : Step → Type 0
Keeps step = (db : Database) (i : Item) → is_item i ≡ true → Valid db → Valid (step db i).0

pub both : (b c : Bool) → (b && c) ≡ true → (b ≡ true) × (c ≡ true)
both true c e = (refl, e)
both false c e = absurd (cc)

means_keeps : StatementsKeep → Keeps means
means_keeps k db (Fail e) g v = v
means_keeps k db (Run s) g v = by (executed db s) refl
  where
    by : (o : Effect) → executed db s ≡ o → Valid (settled db o).0
    by (Ok p) e = k db s p g v e
    by (Err w) e = v

answers_keep : StatementsKeep → Keeps means_or_answers
answers_keep k db i g v = by (is_select i)
  where
    by : (b : Bool) → Valid (if b then (db, answer_of db i) else means db i).0
    by true = v
    by false = means_keeps k db i g v

each_keeps : (step : Step) → Keeps step → (db : Database) (is : List Item) → are_items is ≡ true → Valid db → Valid (each step db is).0
each_keeps step k db [] g v = v
each_keeps step k db (i ∷ is) g v = let p = both (is_item i) (are_items is) g in each_keeps step k (step db i).0 is p.1 (k db i p.0 v)

-- the answers with one before them, which may be an error
abbrev ends : Bool → Res → Option Database × List Res → Option Database × List Res
ends b r q = if b then (None, r ∷ []) else (q.0, r ∷ q.1)

up_keeps : (step : Step) → Keeps step → (db : Database) (is : List Item) → are_items is ≡ true → Valid db → (d : Database) → (up_to_error step db is).0 ≡ Some d → Valid d
up_keeps step k db [] g v d e = subst Valid (ap (λ o. unwrap_or o db) e) v
up_keeps step k db (i ∷ is) g v d e = let p = both (is_item i) (are_items is) g in by (is_error (step db i).1) (up_keeps step k (step db i).0 is p.1 (k db i p.0 v) d) e
  where
    by : (b : Bool) → ((up_to_error step (step db i).0 is).0 ≡ Some d → Valid d) → (ends b (step db i).1 (up_to_error step (step db i).0 is)).0 ≡ Some d → Valid d
    by true more f = absurd (cc)
    by false more f = more f

all_keep : (step : Step) → Keeps step → (db : Database) (is : List Item) → are_items is ≡ true → Valid db → Valid (all_or_none step db is).0
all_keep step k db is g v = by (up_to_error step db is).0 refl
  where
    by : (o : Option Database) → (up_to_error step db is).0 ≡ o → Valid (unwrap_or o db)
    by None e = v
    by (Some d) e = up_keeps step k db is g v d e

list_keeps : (step : Step) → Keeps step → (db : Database) (l : Statements) → is_list l ≡ true → Valid db → Valid (list_run step db l).0
list_keeps step k db l g v = by l.transaction
  where
    by : (b : Bool) → Valid (if b then all_or_none step db l.items else each step db l.items).0
    by true = all_keep step k db l.items g v
    by false = each_keeps step k db l.items g v

lists_keep : StatementsKeep → (db : Database) (ls : List Statements) → all_of (map is_list ls) ≡ true → Valid db → Valid (after_lists db ls)
lists_keep k db [] g v = v
lists_keep k db (l ∷ ls) g v = let p = both (is_list l) (all_of (map is_list ls)) g in lists_keep k (list_run means db l).0 ls p.1 (list_keeps means (means_keeps k) db l p.0 v)

pub run_keeps : StatementsKeep → (s : State) (c : Command) → is_command c ≡ true → Valid s.database → Valid (run s c).0.database
unfolding run
run_keeps k s command.NoOp g v = v
run_keeps k s (command.Config ids) g v = v
run_keeps k s (command.Execute list) g v = list_keeps means (means_keeps k) s.database list g v
run_keeps k s (command.Request list) g v = list_keeps means_or_answers (answers_keep k) s.database list g v
run_keeps k s (command.StrongQuery items) g v = v
run_keeps k s (command.Load items) g v = all_keep means (means_keeps k) s.database items g v
run_keeps k s (command.Batch lists) g v = lists_keep k s.database lists g v
run_keeps k s (command.Once id boot number list) g v = by (is_newer (mark_of s.marks id) boot number)
  where
    by : (b : Bool) → Valid (if b then answered (record s { marks = with_mark s.marks id boot number }) (list_run means_or_answers s.database list) else (s, Stale)).0.database
    by true = list_keeps means_or_answers (answers_keep k) s.database list g v
    by false = v
