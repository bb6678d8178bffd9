-- A list that may be queued: 128 of these are no longer than an entry may be.
use Rattle.std.specs.Prelude.{◌≤◌, All, length}
use Rattle.rq_command.specs.Stored.{IsReadable}
use Rattle.rq_statement.specs.Statements.{Statements}
use Rattle.rq_statement.specs.declared.command.Command.TheVariants.{Execute}
use Rattle.rq_statement.specs.Bytes.{command_bytes}

pub record IsQueueable (list : Statements) : Type 0 where
  pub items : All IsReadable list.items
  pub short : length (command_bytes (Execute list)) ≤ 64000
