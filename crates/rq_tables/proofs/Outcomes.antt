-- What commands make of a state.
use Rattle.std.proofs.Common.{◌≡◌, ℕ, Bool, true, false, List, Result, Ok, Err, refl, sym, ap, subst, ◌∙◌}
use Rattle.std.specs.Prelude.{IfOk, if◌then◌else◌}
use Rattle.rq_values.specs.declared.memory.NoMemory.{NoMemory}
use Rattle.rq_statement.specs.declared.item.Item.{Item}
use Rattle.rq_statement.specs.Statements.{Statements}
use Rattle.rq_statement.specs.declared.command.Command.{Command}
use Rattle.rq_statement.specs.declared.command.Command.TheVariants as command
use Rattle.rq_meaning.specs.Database.{Database}
use Rattle.rq_meaning.specs.Lists.{means, means_or_answers, answers, list_run, all_or_none, after_lists}
use Rattle.rq_engine.specs.declared.outcome.Outcome.{Outcome}
use Rattle.rq_engine.specs.declared.outcome.Outcome.TheVariants.{Results, Nothing, Stale}
use Rattle.rq_engine.specs.Fold.{State, Marks, run, with_ids, with_mark, mark_of, is_newer, answered}
use Rattle.rq_tables.specs.declared.commands.Ending.{Ending}
use Rattle.rq_tables.specs.declared.commands.Ending.TheVariants as ending
use Rattle.rq_tables.specs.Commands.{state, ended, Answered, Loads, IsIds, alone}

-- what a command makes of a state, where memory is there
abbrev pub Runs : Database → Database → Marks → List (List ℕ) → Command → Result (Outcome × Ending) NoMemory → Type 0
Runs db new marks ids c r = IfOk r (λ p. run (state db marks ids) c ≡ (ended (state new marks ids) p.1, p.0))

both : (s t : State) (o p : Outcome) → s ≡ t → o ≡ p → ◌≡◌ {A = State × Outcome} (s, o) (t, p)
both s t o p e f = ap (λ x. (x, o)) e ∙ ap (λ x. (t, x)) f

new_state : (db new : Database) (marks : Marks) (ids : List (List ℕ)) → db ≡ new → state db marks ids ≡ state new marks ids
new_state db new marks ids e = ap (λ d. state d marks ids) e

pub runs_nothing : (db : Database) (marks : Marks) (ids : List (List ℕ)) → run (state db marks ids) command.NoOp ≡ (state db marks ids, Nothing)
unfolding run
runs_nothing db marks ids = refl

pub runs_execute : (db new : Database) (marks : Marks) (ids : List (List ℕ)) (list : Statements) (o : Result Outcome NoMemory) (r : Result (Outcome × Ending) NoMemory)
    → r ≡ alone o → IfOk o (Answered (list_run means db list) new) → Runs db new marks ids (command.Execute list) r
unfolding run
runs_execute db new marks ids list (Ok x) r e a = subst (Runs db new marks ids (command.Execute list)) (sym e) (both _ _ _ _ (new_state _ new marks ids a.0) (sym a.1))
runs_execute db new marks ids list (Err m) r e a = subst (Runs db new marks ids (command.Execute list)) (sym e) tt

pub runs_request : (db new : Database) (marks : Marks) (ids : List (List ℕ)) (list : Statements) (o : Result Outcome NoMemory) (r : Result (Outcome × Ending) NoMemory)
    → r ≡ alone o → IfOk o (Answered (list_run means_or_answers db list) new) → Runs db new marks ids (command.Request list) r
unfolding run
runs_request db new marks ids list (Ok x) r e a = subst (Runs db new marks ids (command.Request list)) (sym e) (both _ _ _ _ (new_state _ new marks ids a.0) (sym a.1))
runs_request db new marks ids list (Err m) r e a = subst (Runs db new marks ids (command.Request list)) (sym e) tt

pub runs_query : (db : Database) (marks : Marks) (ids : List (List ℕ)) (items : List Item) (o : Result Outcome NoMemory) (r : Result (Outcome × Ending) NoMemory)
    → r ≡ alone o → IfOk o (λ x. x ≡ Results (answers db items)) → Runs db db marks ids (command.StrongQuery items) r
unfolding run
runs_query db marks ids items (Ok x) r e a = subst (Runs db db marks ids (command.StrongQuery items)) (sym e) (both _ _ _ _ refl (sym a))
runs_query db marks ids items (Err m) r e a = subst (Runs db db marks ids (command.StrongQuery items)) (sym e) tt

pub runs_load : (db new : Database) (marks : Marks) (ids : List (List ℕ)) (items : List Item) (o : Result Outcome NoMemory) (r : Result (Outcome × Ending) NoMemory)
    → r ≡ alone o → IfOk o (Loads (all_or_none means db items) new) → Runs db new marks ids (command.Load items) r
unfolding run
runs_load db new marks ids items (Ok x) r e a = subst (Runs db new marks ids (command.Load items)) (sym e) (both _ _ _ _ (new_state _ new marks ids a.0) (sym a.1))
runs_load db new marks ids items (Err m) r e a = subst (Runs db new marks ids (command.Load items)) (sym e) tt

pub runs_batch : (db new : Database) (marks : Marks) (ids : List (List ℕ)) (lists : List Statements) (o : Result Outcome NoMemory) (r : Result (Outcome × Ending) NoMemory)
    → r ≡ alone o → IfOk o (λ x. (x ≡ Nothing) × (after_lists db lists ≡ new)) → Runs db new marks ids (command.Batch lists) r
unfolding run
runs_batch db new marks ids lists (Ok x) r e a = subst (Runs db new marks ids (command.Batch lists)) (sym e) (both _ _ _ _ (new_state _ new marks ids a.1) (sym a.0))
runs_batch db new marks ids lists (Err m) r e a = subst (Runs db new marks ids (command.Batch lists)) (sym e) tt

ids_ended : (s : State) (all : List (List ℕ)) (e : Ending) → IsIds all e → ended s e ≡ record s { ids = all }
ids_ended s all (ending.Ids ks) h = ap (λ xs. record s { ids = xs }) h
ids_ended s all ending.Nothing h = absurd h
ids_ended s all (ending.Mark i b n) h = absurd h

pub runs_config : (db : Database) (marks : Marks) (ids more : List (List ℕ)) (r : Result (Outcome × Ending) NoMemory)
    → IfOk r (λ p. (p.0 ≡ Nothing) × IsIds (with_ids ids more) p.1) → Runs db db marks ids (command.Config more) r
unfolding run
runs_config db marks ids more (Ok p) a = both _ _ _ _ (sym (ids_ended (state db marks ids) (with_ids ids more) p.1 a.1)) (sym a.0)
runs_config db marks ids more (Err m) a = tt

once : (b : Bool) (db : Database) (marks : Marks) (ids : List (List ℕ)) (id : List ℕ) (boot number : ℕ) (list : Statements) → State × Outcome
once b db marks ids id boot number list = if b then answered (state db (with_mark marks id boot number) ids) (list_run means_or_answers db list) else (state db marks ids, Stale)

once_is : (db : Database) (marks : Marks) (ids : List (List ℕ)) (id : List ℕ) (boot number : ℕ) (list : Statements)
    → run (state db marks ids) (command.Once id boot number list) ≡ once (is_newer (mark_of marks id) boot number) db marks ids id boot number list
unfolding run once
once_is db marks ids id boot number list = refl

pub runs_once : (db new : Database) (marks : Marks) (ids : List (List ℕ)) (id : List ℕ) (boot number : ℕ) (list : Statements) (r : Result (Outcome × Ending) NoMemory)
    → is_newer (mark_of marks id) boot number ≡ true
    → IfOk r (λ p. Answered (list_run means_or_answers db list) new p.0 × (p.1 ≡ ending.Mark id boot number)) → Runs db new marks ids (command.Once id boot number list) r
unfolding once
runs_once db new marks ids id boot number list (Ok p) t a =
    once_is db marks ids id boot number list ∙ ap (λ b. once b db marks ids id boot number list) t
    ∙ both _ _ _ _ (ap (λ d. state d (with_mark marks id boot number) ids) a.0.0 ∙ ap (ended (state new marks ids)) (sym a.1)) (sym a.0.1)
runs_once db new marks ids id boot number list (Err m) t a = tt

pub runs_stale : (db : Database) (marks : Marks) (ids : List (List ℕ)) (id : List ℕ) (boot number : ℕ) (list : Statements)
    → is_newer (mark_of marks id) boot number ≡ false → run (state db marks ids) (command.Once id boot number list) ≡ (state db marks ids, Stale)
unfolding once
runs_stale db marks ids id boot number list t = once_is db marks ids id boot number list ∙ ap (λ b. once b db marks ids id boot number list) t

pub of_command : (db new : Database) (marks : Marks) (ids : List (List ℕ)) (c d : Command) (r : Result (Outcome × Ending) NoMemory) → c ≡ d → Runs db new marks ids d r → Runs db new marks ids c r
of_command db new marks ids c d r e h = subst (λ k. Runs db new marks ids k r) (sym e) h
