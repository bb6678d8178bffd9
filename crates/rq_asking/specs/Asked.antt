-- The ask that a request becomes, with its statements prepared in order: docs/API.md, "What a request asks". The words to come
-- are the old ones before, and the new ones after.
use Rattle.std.specs.Prelude.{◌≡◌, ◌⊎◌, ℕ, Bool, true, false, ◌&&◌, ◌||◌, if◌then◌else◌, List, [], ◌∷◌, None}
use Rattle.rq_grammar.specs.declared.stmt.Stmt.{Stmt}
use Rattle.rq_grammar.specs.declared.stmt.Stmt.TheVariants as stmt
use Rattle.rq_statement.specs.declared.item.Item.{Item}
use Rattle.rq_statement.specs.declared.item.Item.TheVariants.{Run, Fail}
use Rattle.rq_request.specs.declared.statement.Statement.{Statement}
use Rattle.rq_request.specs.declared.ask.Ask.{Ask}
use Rattle.rq_request.specs.declared.ask.Op.{Op}
use Rattle.rq_request.specs.declared.ask.Op.TheVariants.{Write, Read}
use Rattle.rq_route.specs.declared.path.Path.TheVariants as path
use Rattle.rq_route.specs.declared.path.Path.{Path}
use Rattle.rq_route.specs.declared.request.Request.{Request}
use Rattle.rq_preparing.specs.declared.preparing.PrepareError.{PrepareError}
use Rattle.rq_preparing.specs.declared.preparing.PrepareError.TheVariants as errors
use Rattle.rq_preparing.specs.Prepared.{TookNone, IsPrepared, IsUnprepared}
use Rattle.rq_asking.specs.declared.reading.Requested.{Requested}

-- ---- statements

-- each statement in order is prepared as the item of its place, with the words that those before it left
abbrev pub ArePrepared : Bool → ℕ → List Statement → List ℕ → List ℕ → List Item → Type 0
ArePrepared told moment [] old new [] = TookNone told old new
ArePrepared told moment [] old new (i ∷ items) = ⊥
ArePrepared told moment (s ∷ rest) old new [] = ⊥
ArePrepared told moment (s ∷ rest) old new (i ∷ items) = (between : List ℕ) × IsPrepared told s.text s.params moment old between i × ArePrepared told moment rest between new items

-- the draws failed at one of the statements, and those before it were prepared
abbrev pub Stop : Bool → ℕ → List Statement → List ℕ → List ℕ → Type 0
Stop told moment [] old new = ⊥
Stop told moment (s ∷ rest) old new = IsUnprepared told s.text s.params moment old new errors.Draws ⊎ ((between : List ℕ) × (i : Item) × IsPrepared told s.text s.params moment old between i × Stop told moment rest between new)

-- ---- what is asked

abbrev pub changes : Stmt → Bool
changes (stmt.Select q) = false
changes (stmt.Create b n ds) = true
changes (stmt.Drop b n) = true
changes (stmt.Insert n ns rs) = true
changes (stmt.Update n is g) = true
changes (stmt.Delete n g) = true

-- a write is an item that runs and is no SELECT
abbrev pub is_write : Item → Bool
is_write (Run s) = changes s
is_write (Fail text) = false

abbrev pub has_write : List Item → Bool
has_write [] = false
has_write (i ∷ items) = is_write i || has_write items

-- a list without a write is no transaction
abbrev pub written : Request → List Item → Bool → Op
written q items mixed = Write (record { transaction = q.transaction && has_write items; items = items }) mixed

abbrev pub read_at : Request → List Item → Op
read_at q items = Read items q.level None

-- a mixed list without a write is a read
abbrev pub op_at : Path → Request → List Item → Op
op_at path.Execute q items = written q items false
op_at path.Query q items = read_at q items
op_at path.Request q items = if has_write items then written q items true else read_at q items

abbrev pub ask_with : Requested → List ℕ → ℕ → List Item → Ask
ask_with r target number items = record { number = number; timeout = r.request.timeout; target = target; op = op_at r.request.path r.request items }

-- the ask of a request with this target, of this number, at this moment
pub record IsAsk (told : Bool) (r : Requested) (target : List ℕ) (number moment : ℕ) (old new : List ℕ) (ask : Ask) : Type 0 where
  pub items : List Item
  pub prepared : ArePrepared told moment r.statements old new items
  pub is : ask ≡ ask_with r target number items

-- why there is no ask; want of memory has no reason here
abbrev pub IsUnasked : Bool → ℕ → List Statement → List ℕ → List ℕ → PrepareError → Type 0
IsUnasked told moment statements old new errors.Draws = Stop told moment statements old new
IsUnasked told moment statements old new errors.NoMemory = Unit {0}
