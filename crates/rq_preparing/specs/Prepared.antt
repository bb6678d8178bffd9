-- What a statement's text is with what is given for its parameters, with random words and a moment, made ready for the log:
-- docs/SQL.md, "Binding" and "Settling". The words to come are the old ones before, and the new ones after.
use Rattle.std.specs.Prelude.{◌≡◌, ℕ, Bool, IsTrue, List, Option, Some, None, Result, Ok, Err}
use Rattle.rq_outside.specs.Counts.{Rose}
use Rattle.rq_grammar.specs.declared.stmt.Stmt.{Stmt}
use Rattle.rq_request.specs.declared.statement.Params.{Params}
use Rattle.rq_sql.specs.declared.error.ReadError.{ReadError}
use Rattle.rq_sql.specs.Read.{Means}
use Rattle.rq_statement.specs.declared.item.Item.{Item}
use Rattle.rq_statement.specs.declared.item.Item.TheVariants.{Fail}
use Rattle.rq_binding.specs.declared.params.BindError.{BindError}
use Rattle.rq_binding.specs.declared.params.BindError.TheVariants as unbound
use Rattle.rq_binding.specs.declared.planning.Refusal.{Refusal}
use Rattle.rq_binding.specs.Bound.{bound}
use Rattle.rq_binding.specs.ErrorText.{bind_text, refusal_text}
use Rattle.rq_binding.specs.Settles.{stmt_plan, SettledBy, Took, TookFewer, TookAtMost}
use Rattle.rq_settle.specs.Prepared.{error_text, item_of_fixed}
use Rattle.rq_preparing.specs.declared.preparing.PrepareError.{PrepareError}
use Rattle.rq_preparing.specs.declared.preparing.PrepareError.TheVariants as errors

-- no word was taken
abbrev pub TookNone : Bool → List ℕ → List ℕ → Type 0
TookNone told old new = IsTrue told → new ≡ old

-- of a bound statement, by its first refusal: the words of the nodes before the refused place were taken, or all
abbrev pub IsSettledItem : Bool → Stmt → ℕ → List ℕ → List ℕ → Option Refusal → Item → Type 0
IsSettledItem told s moment old new (Some r) item = (item ≡ Fail (refusal_text r)) × (IsTrue told → Took (stmt_plan s moment).words old new)
IsSettledItem told s moment old new None item = (r : Stmt) × SettledBy told s moment old new r × (item ≡ item_of_fixed r)

-- of a statement that was read
abbrev pub IsBoundItem : Bool → ℕ → List ℕ → List ℕ → Result Stmt BindError → Item → Type 0
IsBoundItem told moment old new (Err e) item = (item ≡ Fail (bind_text e)) × TookNone told old new
IsBoundItem told moment old new (Ok s) item = IsSettledItem told s moment old new (stmt_plan s moment).refusal item

-- of a text
abbrev pub IsReadItem : Bool → List ℕ → Params → ℕ → List ℕ → List ℕ → Result Stmt ReadError → Item → Type 0
IsReadItem told text params moment old new (Err e) item = (item ≡ Fail (error_text text e)) × TookNone told old new
IsReadItem told text params moment old new (Ok s) item = IsBoundItem told moment old new (bound s params) item

-- what the text means, bound and settled, as an item: the first refusal of reading, binding and settling is its error
pub record IsPrepared (told : Bool) (text : List ℕ) (params : Params) (moment : ℕ) (old new : List ℕ) (item : Item) : Type 0 where
  pub answer : Result Stmt ReadError
  pub means : Means text answer
  pub is : IsReadItem told text params moment old new answer item

-- how many words a text takes
abbrev pub bound_words : ℕ → Result Stmt BindError → ℕ
bound_words moment (Ok s) = (stmt_plan s moment).words
bound_words moment (Err e) = 0

abbrev pub words_needed : Params → ℕ → Result Stmt ReadError → ℕ
words_needed params moment (Ok s) = bound_words moment (bound s params)
words_needed params moment (Err e) = 0

-- where the draws failed, fewer words were taken than the text needs; where memory was short, no more
abbrev pub TookBy : PrepareError → ℕ → List ℕ → List ℕ → Type 0
TookBy errors.Draws n old new = TookFewer n old new
TookBy errors.NoMemory n old new = TookAtMost n old new

-- the text isn't prepared
pub record IsUnprepared (told : Bool) (text : List ℕ) (params : Params) (moment : ℕ) (old new : List ℕ) (error : PrepareError) : Type 0 where
  pub answer : Result Stmt ReadError
  pub means : Means text answer
  pub took : IsTrue told → TookBy error (words_needed params moment answer) old new

-- the count of the draws' faults rose exactly where they failed
abbrev pub PrepareFaulted : ℕ → ℕ → PrepareError → Type 0
PrepareFaulted old new errors.Draws = Rose old new
PrepareFaulted old new errors.NoMemory = new ≡ old

-- ---- a part of preparing

-- the item of a statement that isn't bound; want of memory has none
abbrev pub IsUnboundItem : BindError → Item → Type 0
IsUnboundItem e item = (item ≡ Fail (bind_text e)) × (e ≡ unbound.NoMemory → ⊥)
