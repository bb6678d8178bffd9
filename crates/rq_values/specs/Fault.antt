-- Why reading ends, and where.
use Rattle.std.specs.Prelude.{ℕ, ◌-◌, Bool, true, false}
use Rattle.rq_values.specs.declared.error.DecodeError.{DecodeError}
use Rattle.rq_values.specs.declared.error.DecodeError.TheVariants.{Short, Kind, Long, NotText, Order, Rule, Text, Trailing, NoMemory}

-- the one cause that doesn't lie in the bytes
abbrev pub is_want_of_memory : DecodeError → Bool
is_want_of_memory NoMemory = true
is_want_of_memory (Short left) = false
is_want_of_memory (Kind left byte) = false
is_want_of_memory (Long left len) = false
is_want_of_memory (NotText left) = false
is_want_of_memory (Order left) = false
is_want_of_memory (Rule left) = false
is_want_of_memory (Text left) = false
is_want_of_memory (Trailing left) = false

-- A fault with its place: the length of all the bytes less that of the bytes from the wrong field on.
abbrev pub placed : ℕ → DecodeError → DecodeError
placed total (Short left) = Short (total - left)
placed total (Kind left byte) = Kind (total - left) byte
placed total (Long left len) = Long (total - left) len
placed total (NotText left) = NotText (total - left)
placed total (Order left) = Order (total - left)
placed total (Rule left) = Rule (total - left)
placed total (Text left) = Text (total - left)
placed total (Trailing left) = Trailing (total - left)
placed total NoMemory = NoMemory
