use Rattle.std.proofs.Common.{◌≡◌, true}
use Rattle.std.specs.Prelude.{slice_index_or}
use Rattle.rq_values.specs.Text.{is_text}
use Rattle.rq_grammar.specs.declared.stmt.Stmt.{Stmt}
use Rattle.rq_print.specs.Text.{text_of}
use Rattle.rq_statement.specs.declared.item.Item.{Item}
use Rattle.rq_statement.specs.declared.item.Item.TheVariants.{Run, Fail}
use Rattle.rq_statement.specs.Items.{IsItem}
use Rattle.rq_statement.specs.Settled.{IsSettled}
use Rattle.rq_command.specs.Stored.{IsReadable}
use Rattle.rq_command.proofs.laws.items_can_be_read.Goals as goal

readable : ((s : Stmt) → IsSettled s → is_text (text_of s) ≡ true) → (item : Item) → IsItem item → IsReadable item
readable texts (Run s) is = (texts s is, is)
readable texts (Fail error) is = (is, tt)

pub returns : goal.returns
returns c = λ k d below. readable c.settled_text_is_read.ensures.text (slice_index_or c.args.items.now k d) (c.know_items.ensures k d below)
