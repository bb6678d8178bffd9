-- What holds of the parts of a log.
use Rattle.std.specs.Prelude.{ℕ, ◌≤◌, ◌+◌, ◌≡◌, List, ◌++◌, length, take}
use Rattle.rq_history.specs.Configurations.{configuration_index}
use Rattle.rq_raft.specs.Entries.{Entries, entry_view}

-- the parts of a log: its entries, where the newest configuration stands, and the way back
pub record IsLog {E : Type 0} (es : Entries E) (log : List E) (at cut_at : ℕ) (cut : List E) (at_before room : ℕ) : Type 0 where
  pub newest : at ≡ configuration_index (entry_view es) log
  pub cut_within : cut_at ≤ length log
  pub cut_room : cut_at + length cut ≤ room
  pub newest_before : at_before ≡ configuration_index (entry_view es) (take cut_at log ++ cut)
