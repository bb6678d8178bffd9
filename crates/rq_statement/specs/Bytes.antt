-- How items and commands are spelled in the log: docs/FORMATS.md, "Bytes".
use Rattle.std.specs.Prelude.{ℕ, List, [], ◌∷◌, ◌++◌}
use Rattle.rq_values.specs.Spelling.{sized, bool_bytes, u64_bytes, list_bytes}
use Rattle.rq_print.specs.Text.{text_of}
use Rattle.rq_statement.specs.declared.item.Item.{Item}
use Rattle.rq_statement.specs.declared.item.Item.TheVariants.{Run, Fail}
use Rattle.rq_statement.specs.Statements.{Statements}
use Rattle.rq_statement.specs.declared.command.Command.{Command}
use Rattle.rq_statement.specs.declared.command.Command.TheVariants.{NoOp, Config, Execute, Request, StrongQuery, Load, Batch, Once}

-- 00 and the statement's canonical text, or 01 and the error's text
abbrev pub item_bytes : Item → List ℕ
item_bytes (Run s) = 0 ∷ sized (text_of s)
item_bytes (Fail text) = 1 ∷ sized text

-- 01 where it is a transaction, else 00, and the items
abbrev pub statements_bytes : Statements → List ℕ
statements_bytes list = bool_bytes list.transaction ++ list_bytes item_bytes list.items

-- a NoOp and a Config stand in their entry without a command
abbrev pub command_bytes : Command → List ℕ
command_bytes NoOp = []
command_bytes (Config ids) = []
command_bytes (Execute list) = 1 ∷ statements_bytes list
command_bytes (Request list) = 2 ∷ statements_bytes list
command_bytes (StrongQuery items) = 3 ∷ list_bytes item_bytes items
command_bytes (Load items) = 4 ∷ list_bytes item_bytes items
command_bytes (Batch lists) = 5 ∷ list_bytes statements_bytes lists
command_bytes (Once id boot number list) = 6 ∷ (sized id ++ (u64_bytes boot ++ (u64_bytes number ++ statements_bytes list)))

-- the command that runs items, each by itself
abbrev pub execute_bytes : List Item → List ℕ
execute_bytes items = 1 ∷ 0 ∷ list_bytes item_bytes items
