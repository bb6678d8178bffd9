-- What the threads of a server share, and what is put to the hub's thread, may go to other threads.
use denote.RattleType.{RattleType}
use denote.Param.Send.{IsSend, IsSync, sendable}
use denote.Param.SendFields.{declared_send, declared_sync, as_row_send, as_row_sync}
use Rattle.std.proofs.Crossing as std
use Rattle.sqlite_items.proofs.items.Items.TheSendSync as items
use Rattle.sqlite_items.proofs.boxed.Boxed.TheSendSync as boxed
use Rattle.rq_values.proofs.text.Text.TheSendSync as text
use Rattle.rq_values.proofs.seq.Seq.TheSendSync as seq
use Rattle.rq_grammar.proofs.expr.Expr.TheLaws.TheKnot as knot
use Rattle.rq_grammar.proofs.stmt.ColumnDef.TheSendSync as column
use Rattle.rq_grammar.specs.contracts.expr.Expr as Expr
use Rattle.rq_grammar.specs.contracts.stmt.OrderTerm as OrderTerm
use Rattle.rq_grammar.specs.contracts.stmt.ResultItem as ResultItem
use Rattle.rq_grammar.specs.contracts.stmt.SelectStmt as SelectStmt
use Rattle.rq_grammar.specs.contracts.stmt.InsertRows as InsertRows
use Rattle.rq_grammar.specs.contracts.stmt.Stmt as Stmt
use Rattle.rq_statement.specs.contracts.item.Item as Item
use Rattle.rq_statement.specs.contracts.settled.Settled as Settled
use Rattle.rq_hub.specs.declared.naming.Naming as Naming
use Rattle.rq_hub.proofs.numbers.Numbers.TheSendSync as numbers
use Rattle.rq_desk.proofs.slot.Slot.TheSendSync as slot
use Rattle.rq_desk.specs.contracts.slot.Slot as Slot
use Rattle.rq_desk.specs.contracts.wanted.Wanted as Wanted
use Rattle.rq_desk.specs.contracts.mail.Put as Put
use Rattle.rq_desk.specs.contracts.mail.Mail as Mail
use Rattle.rq_desk.specs.contracts.mail.Shared as Shared

expr : IsSend Expr.the_row
expr = search (text.the_send, items.the_send, boxed.the_send, std.crosses, knot.crosses, sendable) depth 60 fits 20000

expr_field : IsSend (Expr.the_field).row
expr_field = search (text.the_send, items.the_send, boxed.the_send, std.crosses, knot.crosses, sendable) depth 60 fits 20000

order : IsSend OrderTerm.the_row
order = search (expr_field, std.crosses, sendable) depth 60 fits 20000

result : IsSend ResultItem.the_row
result = search (expr_field, text.the_send, std.crosses, sendable) depth 60 fits 20000

select_field : IsSend (SelectStmt.the_field).row
select_field = search (expr, order, result, text.the_send, items.the_send, std.crosses, sendable) depth 60 fits 20000

rows_field : IsSend (InsertRows.the_field).row
rows_field = search (expr, select_field, items.the_send, std.crosses, sendable) depth 60 fits 20000

stmt_field : IsSend (Stmt.the_field).row
stmt_field = search (expr, select_field, rows_field, column.the_send, text.the_send, items.the_send, std.crosses, sendable) depth 60 fits 20000

settled : IsSend Settled.the_row
settled = search (stmt_field, std.crosses, sendable) depth 60 fits 20000

item : IsSend Item.the_row
item = search (settled, text.the_send, std.crosses, sendable) depth 60 fits 20000

wanted : IsSend Wanted.the_row
wanted = search (item, seq.the_send, std.crosses, sendable) depth 60 fits 20000

module _ (J : RattleType) (g : Naming.Ghosts J.Denot) where
  slot_send : IsSend (Slot.the_row J g)
  slot_send = search (slot.the_send, std.crosses, sendable) depth 60 fits 20000

  slot_sync : IsSync (Slot.the_row J g)
  slot_sync = search (slot.the_sync, std.crosses, sendable) depth 60 fits 20000

  put : IsSend (Put.the_row J g)
  put = declared_send (Put.the_type J g) (search (wanted, slot_send, slot_sync, as_row_send, std.crosses, sendable) depth 60 fits 20000)

  mail : IsSend (Mail.the_row J g)
  mail = declared_send (Mail.the_type J g) (search (put, numbers.the_send, as_row_send, std.crosses, sendable) depth 60 fits 20000)

  pub shared_send : IsSend (Shared.the_row J g)
  shared_send = declared_send (Shared.the_type J g) (search (mail, as_row_send, std.crosses, sendable) depth 60 fits 20000)

  pub shared_sync : IsSync (Shared.the_row J g)
  shared_sync = declared_sync (Shared.the_type J g) (search (mail, as_row_sync, std.crosses, sendable) depth 60 fits 20000)
