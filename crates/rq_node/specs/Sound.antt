-- What a node's parts keep.
pub use Rattle.rq_command.specs.Stored.{IsReadable}
use Rattle.std.specs.Prelude.{◌≤◌, ℕ, List, length, All, ⊤}
use Rattle.rq_values.specs.declared.limits.TheConstants.{MAX_COMMAND}
use Rattle.rq_statement.specs.Bytes.{execute_bytes}
use Rattle.rq_node.specs.declared.log_entry.LogEntry.{LogEntry}
use Rattle.rq_node.specs.declared.log_entry.Content.{Content}
use Rattle.rq_node.specs.declared.log_entry.Content.TheVariants.{NoOp, Execute}

-- the most bytes of an entry's command
abbrev pub most_bytes : ℕ
most_bytes = MAX_COMMAND

-- what the entry holds is read from the log again
abbrev pub IsPersistentReadable : Content → Type 0
IsPersistentReadable NoOp = ⊤
IsPersistentReadable (Execute items) = All IsReadable items × (length (execute_bytes items) ≤ most_bytes)

abbrev pub AreReadable : List LogEntry → Type 0
AreReadable log = All (λ (entry : LogEntry). IsPersistentReadable entry.content) log

-- what is applied is committed, and what is committed is in the log
pub record IsSound (log : List LogEntry) (commit applied : ℕ) : Type 0 where
  pub applied_within : applied ≤ commit
  pub commit_within : commit ≤ length log
  pub readable : AreReadable log
