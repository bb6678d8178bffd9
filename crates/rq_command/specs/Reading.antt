-- Reading a command from the start of some bytes, as docs/FORMATS.md, "Bytes", has it.
use Rattle.std.specs.Prelude.{ℕ, ◌≡◌, ◌==◌, Bool, false, List, [], Result, Ok, bytes_eq, if◌then◌else◌}
use Rattle.rq_values.specs.declared.error.DecodeError.{DecodeError}
use Rattle.rq_values.specs.declared.error.DecodeError.TheVariants.{Kind, Text}
use Rattle.rq_values.specs.Reading.{◌>>=◌, made, checked, u8_at, kind_at, text_at, list_at}
use Rattle.rq_statement.specs.declared.item.Item.{Item}
use Rattle.rq_statement.specs.declared.item.Item.TheVariants.{Run, Fail}
use Rattle.rq_grammar.specs.declared.stmt.Stmt.{Stmt}
use Rattle.rq_print.specs.Text.{text_of}
use Rattle.rq_sql.specs.Read.{Means}
use Rattle.rq_statement.specs.Settled.{IsSettled}

-- a text is read as the settled statement that it means; where there is none, as the error without a text
abbrev pub IsReadAs : List ℕ → Item → Type 0
IsReadAs text (Run statement) = Means text (Ok statement) × IsSettled statement
IsReadAs text (Fail error) = (error ≡ []) × ((statement : Stmt) → Means text (Ok statement) → IsSettled statement → ⊥)

-- what each text is read as; each is read as one item (`each_text_is_read_as_one`)
abbrev pub IsPreparing : (List ℕ → Item) → Type 0
IsPreparing item_of = (text : List ℕ) → IsReadAs text (item_of text)

-- what a statement is read as
abbrev pub IsItemOf : Stmt → Item → Type 0
IsItemOf statement (Run settled) = (settled ≡ statement) × IsSettled statement
IsItemOf statement (Fail error) = (error ≡ []) × (IsSettled statement → ⊥)

-- the item is a statement, and the text is its canonical text
abbrev pub is_run_text : List ℕ → Item → Bool
is_run_text text (Run statement) = bytes_eq (text_of statement) text
is_run_text text (Fail error) = false

-- A settled statement, by its canonical text. Another text is the wrong field.
unfoldable pub run_at : (List ℕ → Item) → ℕ → List ℕ → Result (Item × List ℕ) DecodeError
run_at item_of limit = made (checked (text_at limit) (λ text. is_run_text text (item_of text)) (λ left _. Text left)) item_of

-- an item: 00 and a statement, or 01 and an error's text
unfoldable pub item_at : (List ℕ → Item) → ℕ → List ℕ → Result (Item × List ℕ) DecodeError
item_at item_of limit bytes = do
  kind ← kind_at 1 bytes
  if kind.0 == 0 then run_at item_of limit kind.1 else made (text_at limit) Fail kind.1

-- the one byte that may stand here
unfoldable pub byte_at : ℕ → List ℕ → Result (ℕ × List ℕ) DecodeError
byte_at wanted = checked u8_at (λ byte. byte == wanted) Kind

-- the command Execute: 01, 00 where the list is no transaction, and the items
unfoldable pub command_at : (List ℕ → Item) → ℕ → List ℕ → Result (List Item × List ℕ) DecodeError
command_at item_of limit bytes = do
  kind ← byte_at 1 bytes
  transaction ← byte_at 0 kind.1
  list_at (item_at item_of limit) transaction.1
