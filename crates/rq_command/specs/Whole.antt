-- Reading a whole input.
use Rattle.std.specs.Prelude.{◌≡◌, ℕ, List, Result, Ok, Err}
use Rattle.std.specs.Bool.{OnFalse}
use Rattle.rq_values.specs.declared.error.DecodeError.{DecodeError}
use Rattle.rq_values.specs.Fault.{is_want_of_memory}
use Rattle.rq_values.specs.Place.{answer_of}
use Rattle.rq_statement.specs.declared.item.Item.{Item}
use Rattle.rq_command.specs.Reading.{IsPreparing, command_at}

-- what the whole input says, where each text means the item that this function gives
abbrev pub answer_by : (List ℕ → Item) → ℕ → List ℕ → Result (List Item) DecodeError
answer_by item_of limit bytes = answer_of (command_at item_of limit) bytes

-- what the whole input says
pub record Decodes (limit : ℕ) (bytes : List ℕ) (answer : Result (List Item) DecodeError) : Type 0 where
  pub item_of : List ℕ → Item
  pub prepares : IsPreparing item_of
  pub is : answer ≡ answer_by item_of limit bytes

-- that answer, or want of memory
abbrev pub Reads : ℕ → List ℕ → Result (List Item) DecodeError → Type 0
Reads limit bytes (Ok items) = Decodes limit bytes (Ok items)
Reads limit bytes (Err e) = OnFalse (is_want_of_memory e) (Decodes limit bytes (Err e))
