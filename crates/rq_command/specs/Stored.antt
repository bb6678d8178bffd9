-- Which items stand in a command.
use Rattle.std.specs.Prelude.{◌≡◌, ◌≤◌, ◌<◌, ◌^◌, ℕ, true, List, length}
use Rattle.rq_values.specs.Text.{is_text}
use Rattle.rq_values.specs.Exact.{AreProper}
use Rattle.rq_statement.specs.declared.item.Item.{Item}
use Rattle.rq_statement.specs.declared.item.Item.TheVariants.{Run, Fail}
use Rattle.rq_statement.specs.Settled.{IsSettled}
use Rattle.rq_statement.specs.Items.{item_text}

-- the text that stands for an item
abbrev pub text_of : Item → List ℕ
text_of item = item_text item

-- a statement is settled, and so is what its canonical text means
abbrev pub IsStored : Item → Type 0
IsStored (Run statement) = IsSettled statement
IsStored (Fail error) = Unit {0}

-- the item's text in the log is one, and is read as the item again
abbrev pub IsReadable : Item → Type 0
IsReadable item = (is_text (item_text item) ≡ true) × IsStored item

-- an item whose text is one within the limit
pub record IsItem (limit : ℕ) (item : Item) : Type 0 where
  pub short : length (item_text item) ≤ limit
  pub text : is_text (item_text item) ≡ true
  pub stored : IsStored item

-- a list of items that a command can hold
pub record IsCommand (limit : ℕ) (items : List Item) : Type 0 where
  pub count : length items < 2 ^ 32
  pub items_are : AreProper (IsItem limit) items
