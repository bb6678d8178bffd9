-- A statement with random words and a moment in place of its random nodes and time nodes.
use Rattle.std.specs.Prelude.{Bool, true, IsTrue, ℕ, ◌≡◌, ◌≤◌, ◌<◌, List, ◌++◌, length, Option, Some, None}
use Rattle.rq_outside.specs.Counts.{Rose}
use Rattle.rq_grammar.specs.declared.stmt.Stmt.{Stmt}
use Rattle.rq_print.specs.Text.{text_of}
use Rattle.rq_statement.specs.Settled.{most_bytes}
use Rattle.rq_moments.specs.declared.shown.Shown.{Shown}
use Rattle.rq_moments.specs.Moment.{MayShow}
use Rattle.rq_binding.specs.declared.node.Sort.TheVariants as sort
use Rattle.rq_binding.specs.declared.node.Node.{Node}
use Rattle.rq_binding.specs.declared.planning.Plan.{Plan}
use Rattle.rq_binding.specs.declared.settling.SettleError.{SettleError}
use Rattle.rq_binding.specs.declared.settling.SettleError.TheVariants as errors
use Rattle.rq_binding.specs.Drawn.{drawn_values}
use Rattle.rq_binding.specs.Plan.{plan_of}
use Rattle.rq_binding.specs.Statements.{stmt_nodes, in_order, stmt_filled}
use Rattle.rq_binding.specs.Usable.{are_words}

abbrev pub drawn_nodes : Stmt → List Node
drawn_nodes s = in_order (stmt_nodes sort.Drawn s)

abbrev pub stmt_plan : Stmt → ℕ → Plan
stmt_plan s moment = plan_of moment (stmt_nodes sort.Drawn s)

-- r is the statement s, settled with these words at this moment
pub record Settles (s : Stmt) (moment : ℕ) (ws : List ℕ) (r : Stmt) : Type 0 where
  pub unrefused : (stmt_plan s moment).refusal ≡ None
  pub count : length ws ≡ (stmt_plan s moment).words
  pub sized : are_words ws ≡ true
  pub texts : Option Shown
  pub shows : MayShow moment texts
  pub is : r ≡ (stmt_filled sort.Drawn s (drawn_values texts (drawn_nodes s) ws)).0

-- r is s settled with words that were taken from those to come
pub record SettledBy (told : Bool) (s : Stmt) (moment : ℕ) (old new : List ℕ) (r : Stmt) : Type 0 where
  pub words : List ℕ
  pub settles : Settles s moment words r
  pub taken : IsTrue told → old ≡ words ++ new

-- so many words were taken from those to come
pub record Took (n : ℕ) (old new : List ℕ) : Type 0 where
  pub words : List ℕ
  pub count : length words ≡ n
  pub is : old ≡ words ++ new

pub record TookFewer (n : ℕ) (old new : List ℕ) : Type 0 where
  pub words : List ℕ
  pub count : length words < n
  pub is : old ≡ words ++ new

pub record TookAtMost (n : ℕ) (old new : List ℕ) : Type 0 where
  pub words : List ℕ
  pub count : length words ≤ n
  pub is : old ≡ words ++ new

-- which words were taken where a statement isn't settled, by its plan: those of the nodes before a refused place; where the
-- draws failed, fewer than it needs
abbrev pub TookFor : Plan → List ℕ → List ℕ → SettleError → Type 0
TookFor p old new (errors.Refused r) = Took p.words old new
TookFor p old new (errors.TooLarge n) = Took p.words old new
TookFor p old new errors.Draws = TookFewer p.words old new
TookFor p old new errors.NoMemory = TookAtMost p.words old new

-- the canonical text of what the statement would be settled as is too long
pub record IsTooLarge (told : Bool) (s : Stmt) (moment : ℕ) (old new : List ℕ) (n : ℕ) : Type 0 where
  pub settled : Stmt
  pub by : SettledBy told s moment old new settled
  pub long : most_bytes < length (text_of settled)
  pub is : n ≡ length (text_of settled)

-- why a statement isn't settled; a fault of the draws and want of memory have no reason here
abbrev pub IsUnsettled : Bool → Stmt → ℕ → List ℕ → List ℕ → SettleError → Type 0
IsUnsettled told s moment old new (errors.Refused r) = (stmt_plan s moment).refusal ≡ Some r
IsUnsettled told s moment old new (errors.TooLarge n) = IsTooLarge told s moment old new n
IsUnsettled told s moment old new errors.Draws = Unit {0}
IsUnsettled told s moment old new errors.NoMemory = Unit {0}

-- the count of the draws' faults rose exactly where they failed
abbrev pub Faulted : ℕ → ℕ → SettleError → Type 0
Faulted old new errors.Draws = Rose old new
Faulted old new (errors.Refused r) = new ≡ old
Faulted old new (errors.TooLarge n) = new ≡ old
Faulted old new errors.NoMemory = new ≡ old

-- ---- parts of settling

-- drawing so many words fails by the draws, whose count then rose, or for want of memory
abbrev pub DrawFailed : ℕ → ℕ → SettleError → Type 0
DrawFailed old new errors.Draws = Rose old new
DrawFailed old new errors.NoMemory = new ≡ old
DrawFailed old new (errors.Refused r) = ⊥
DrawFailed old new (errors.TooLarge m) = ⊥

abbrev pub DrawTook : ℕ → List ℕ → List ℕ → SettleError → Type 0
DrawTook n old new errors.Draws = TookFewer n old new
DrawTook n old new errors.NoMemory = TookAtMost n old new
DrawTook n old new (errors.Refused r) = ⊥
DrawTook n old new (errors.TooLarge m) = ⊥

-- a statement that isn't settled by its plan
abbrev pub IsStopped : Plan → SettleError → Type 0
IsStopped p (errors.Refused r) = p.refusal ≡ Some r
IsStopped p (errors.TooLarge n) = ⊥
IsStopped p errors.Draws = Unit {0}
IsStopped p errors.NoMemory = Unit {0}

-- a settled statement whose text is too long
abbrev pub IsLong : Stmt → SettleError → Type 0
IsLong r (errors.TooLarge n) = (most_bytes < length (text_of r)) × (n ≡ length (text_of r))
IsLong r errors.NoMemory = Unit {0}
IsLong r (errors.Refused x) = ⊥
IsLong r errors.Draws = ⊥
