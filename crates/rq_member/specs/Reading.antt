-- Entries of files and packets that are none of a log.
use Rattle.std.specs.Prelude.{ℕ, ◌≡◌, ◌⊎◌, ◌<◌, ◌+◌, ◌^◌, ◌-◌, min, List, ◌∷◌, ◌++◌, length, map, Option, None, Some, Err}
use Rattle.rq_values.specs.declared.limits.TheConstants.{MAX_COMMAND}
use Rattle.rq_values.specs.declared.error.DecodeError.{DecodeError}
use Rattle.rq_values.specs.declared.error.DecodeError.TheVariants as decoding
use Rattle.rq_wire.specs.declared.entry.Entry.{Entry}
use Rattle.rq_wire.specs.declared.entry.Body.{Body}
use Rattle.rq_wire.specs.declared.entry.Body.TheVariants as body
use Rattle.rq_command.specs.Commands.{IsDecoded}
use Rattle.rq_world.specs.declared.log_entry.LogEntry.{LogEntry}
use Rattle.rq_member.specs.Files.{stored_entry, AreReadable}

-- these bytes are no command of an entry: too many, or read as this error
abbrev pub IsNoCommand : List ℕ → DecodeError → Type 0
IsNoCommand bytes error =
    ((MAX_COMMAND < length bytes) × (error ≡ decoding.Long 0 (min (2 ^ 32 - 1) (length bytes)))) ⊎ IsDecoded MAX_COMMAND bytes (Err error)

-- why an entry is none of a log: it is a configuration, or its command is refused with this error
abbrev pub IsNoEntry : Body → Option DecodeError → Type 0
IsNoEntry body.NoOp why = ⊥
IsNoEntry (body.Config config) why = why ≡ None
IsNoEntry (body.Data bytes) why = (error : DecodeError) × (why ≡ Some error) × IsNoCommand bytes error

-- the first of these entries that is none of a log, by its index, and why; they stand behind an index
pub record IsUnreadable (behind : ℕ) (entries : List Entry) (index : ℕ) (why : Option DecodeError) : Type 0 where
  pub log : List LogEntry
  pub entry : Entry
  pub more : List Entry
  pub split : entries ≡ map stored_entry log ++ entry ∷ more
  pub readable : AreReadable log
  pub at : index ≡ behind + length log + 1
  pub wrong : IsNoEntry entry.body why
