-- Items in memory.
use Rattle.std.specs.Prelude.{ℕ, ◌≡◌, true, List}
use Rattle.rq_values.specs.Text.{is_text}
use Rattle.rq_print.specs.Text.{text_of}
use Rattle.rq_statement.specs.Settled.{IsSettled}
use Rattle.rq_statement.specs.declared.item.Item.{Item}
use Rattle.rq_statement.specs.declared.item.Item.TheVariants.{Run, Fail}

-- the text that stands for an item
abbrev pub item_text : Item → List ℕ
item_text (Run s) = text_of s
item_text (Fail error) = error

-- what is known of an item in memory
abbrev pub IsItem : Item → Type 0
IsItem (Run s) = IsSettled s
IsItem (Fail error) = is_text error ≡ true
