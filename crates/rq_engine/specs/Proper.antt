-- Commands whose statements are proper: such as those that are read.
use Rattle.std.specs.Prelude.{Bool, true, List, map}
use Rattle.rq_grammar.specs.Proper.{all_of, is_statement}
use Rattle.rq_statement.specs.declared.item.Item.{Item}
use Rattle.rq_statement.specs.declared.item.Item.TheVariants.{Run, Fail}
use Rattle.rq_statement.specs.Statements.{Statements}
use Rattle.rq_statement.specs.declared.command.Command.{Command}
use Rattle.rq_statement.specs.declared.command.Command.TheVariants.{NoOp, Config, Execute, Request, StrongQuery, Load, Batch, Once}

abbrev pub is_item : Item → Bool
is_item (Run s) = is_statement s
is_item (Fail e) = true

abbrev pub are_items : List Item → Bool
are_items is = all_of (map is_item is)

abbrev pub is_list : Statements → Bool
is_list list = are_items list.items

abbrev pub is_command : Command → Bool
is_command NoOp = true
is_command (Config ids) = true
is_command (Execute list) = is_list list
is_command (Request list) = is_list list
is_command (StrongQuery items) = are_items items
is_command (Load items) = are_items items
is_command (Batch lists) = all_of (map is_list lists)
is_command (Once id boot number list) = is_list list

abbrev pub are_commands : List Command → Bool
are_commands log = all_of (map is_command log)
