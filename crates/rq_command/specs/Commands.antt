-- Reading a command of any kind, as docs/FORMATS.md, "Bytes", has it.
use Rattle.std.specs.Prelude.{ℕ, ◌≡◌, ◌≤◌, ◌<◌, ◌^◌, ◌==◌, ◌&&◌, true, nat_le, List, length, Result, Ok, Err, if◌then◌else◌}
use Rattle.std.specs.Bool.{OnFalse}
use Rattle.rq_values.specs.declared.error.DecodeError.{DecodeError}
use Rattle.rq_values.specs.declared.error.DecodeError.TheVariants.{Kind}
use Rattle.rq_values.specs.Fault.{is_want_of_memory}
use Rattle.rq_values.specs.Place.{answer_of}
use Rattle.rq_values.specs.Reading.{◌>>=◌, made, checked, u8_at, bool_at, u64_at, id_at, list_at}
use Rattle.rq_values.specs.Text.{is_id}
use Rattle.rq_values.specs.Exact.{AreProper}
use Rattle.rq_statement.specs.declared.item.Item.{Item}
use Rattle.rq_statement.specs.Statements.{Statements}
use Rattle.rq_statement.specs.declared.command.Command.{Command}
use Rattle.rq_statement.specs.declared.command.Command.TheVariants.{NoOp, Config, Execute, Request, StrongQuery, Load, Batch, Once}
use Rattle.rq_command.specs.Reading.{IsPreparing, item_at}
use Rattle.rq_command.specs.Stored.{IsCommand}

-- one thing, and then another
abbrev pub pair_at : {A B : Type 0} → (List ℕ → Result (A × List ℕ) DecodeError) → (List ℕ → Result (B × List ℕ) DecodeError) → List ℕ → Result ((A × B) × List ℕ) DecodeError
pair_at one two bytes = one bytes >>= λ x. two x.1 >>= λ y. Ok ((x.0, y.0), y.1)

-- a list of statements: 01 where it is a transaction, else 00, and the items
unfoldable pub statements_at : (List ℕ → Item) → ℕ → List ℕ → Result (Statements × List ℕ) DecodeError
statements_at item_of limit = made (pair_at bool_at (list_at (item_at item_of limit))) (λ x. record { transaction = x.0; items = x.1 })

-- a list that the server of this id sent on: its count of boots, the number of the list there, and the list
unfoldable pub sent_on_at : (List ℕ → Item) → ℕ → List ℕ → List ℕ → Result (Command × List ℕ) DecodeError
sent_on_at item_of limit id = made (pair_at u64_at (pair_at u64_at (statements_at item_of limit))) (λ x. Once id x.0 x.1.0 x.1.1)

-- that server's id, and then this
unfoldable pub once_at : (List ℕ → Item) → ℕ → List ℕ → Result (Command × List ℕ) DecodeError
once_at item_of limit bytes = id_at limit bytes >>= λ id. sent_on_at item_of limit id.0 id.1

-- what stands behind a command's kind
unfoldable pub content_at : (List ℕ → Item) → ℕ → ℕ → List ℕ → Result (Command × List ℕ) DecodeError
content_at item_of limit kind bytes =
    if kind == 1 then made (statements_at item_of limit) Execute bytes
    else (if kind == 2 then made (statements_at item_of limit) Request bytes
    else (if kind == 3 then made (list_at (item_at item_of limit)) StrongQuery bytes
    else (if kind == 4 then made (list_at (item_at item_of limit)) Load bytes
    else (if kind == 5 then made (list_at (statements_at item_of limit)) Batch bytes
    else once_at item_of limit bytes))))

-- a command's kind, 01 to 06
unfoldable pub command_kind_at : List ℕ → Result (ℕ × List ℕ) DecodeError
command_kind_at = checked u8_at (λ kind. nat_le 1 kind && nat_le kind 6) Kind

-- a command
unfoldable pub any_command_at : (List ℕ → Item) → ℕ → List ℕ → Result (Command × List ℕ) DecodeError
any_command_at item_of limit bytes = command_kind_at bytes >>= λ kind. content_at item_of limit kind.0 kind.1

-- ---- a whole input

-- what the whole input says, where each text means the item that this function gives
abbrev pub command_by : (List ℕ → Item) → ℕ → List ℕ → Result Command DecodeError
command_by item_of limit bytes = answer_of (any_command_at item_of limit) bytes

-- what the whole input says
pub record IsDecoded (limit : ℕ) (bytes : List ℕ) (answer : Result Command DecodeError) : Type 0 where
  pub item_of : List ℕ → Item
  pub prepares : IsPreparing item_of
  pub is : answer ≡ command_by item_of limit bytes

-- that answer, or want of memory
abbrev pub IsDecoding : ℕ → List ℕ → Result Command DecodeError → Type 0
IsDecoding limit bytes (Ok command) = IsDecoded limit bytes (Ok command)
IsDecoding limit bytes (Err e) = OnFalse (is_want_of_memory e) (IsDecoded limit bytes (Err e))

-- A command that can be read again: its items are such as a command can hold. An entry without a command has none.
abbrev pub IsLogged : ℕ → Command → Type 0
IsLogged limit NoOp = Prim.⊥
IsLogged limit (Config ids) = Prim.⊥
IsLogged limit (Execute list) = IsCommand limit list.items
IsLogged limit (Request list) = IsCommand limit list.items
IsLogged limit (StrongQuery items) = IsCommand limit items
IsLogged limit (Load items) = IsCommand limit items
IsLogged limit (Batch lists) = (length lists < 2 ^ 32) × AreProper (λ list. IsCommand limit list.items) lists
IsLogged limit (Once id boot number list) = ((length id ≤ limit) × (is_id id ≡ true)) × ((boot < 2 ^ 64) × (number < 2 ^ 64)) × IsCommand limit list.items
