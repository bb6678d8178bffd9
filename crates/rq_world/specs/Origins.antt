-- Where the lists of a log come from: docs/RAFT.md, "From the rules to one log".
use Rattle.std.specs.Prelude.{ℕ, ◌+◌, ◌≡◌, ◌<◌, Some, List, length, take, slice_get}
use Rattle.rq_wire.specs.declared.config.Member.{Member}
use Rattle.rq_history.specs.History.{NodeId}
use Rattle.rq_raft.specs.Node.{persistent_after}
use Rattle.rq_statement.specs.declared.command.Command.{Command}
use Rattle.rq_statement.specs.declared.command.Command.TheVariants.{NoOp, Config, Execute, Request, StrongQuery, Load, Batch, Once}
use Rattle.rq_world.specs.declared.log_entry.LogEntry.{LogEntry}
use Rattle.rq_world.specs.World.{NodeState, Running, Down, Run, world}
use Rattle.rq_world.specs.Appends.{IsAppended}

-- the command has a list at this position
abbrev pub HasListAt : Command → ℕ → Type 0
HasListAt NoOp position = ⊥
HasListAt (Config ids) position = ⊥
HasListAt (Execute list) position = position ≡ 0
HasListAt (Request list) position = position ≡ 0
HasListAt (StrongQuery items) position = position ≡ 0
HasListAt (Load items) position = position ≡ 0
HasListAt (Batch lists) position = position < length lists
HasListAt (Once id boot number list) position = position ≡ 0

module _ (first : List Member) where
  -- each list of the entry at this index was asked: it is the entry that the rule for an ask, or for a flush, appended there
  abbrev pub IsAsked : Run → ℕ → LogEntry → Type 0
  IsAsked run index entry = (position : ℕ) → HasListAt entry.command position → (number : ℕ) × (appended : IsAppended first run number entry.term index position) × (appended.entry ≡ entry)

  abbrev pub AreAsked : Run → List LogEntry → Type 0
  AreAsked run log = (k : ℕ) (entry : LogEntry) → slice_get log k ≡ Some entry → IsAsked run (k + 1) entry

  -- in the log of a node that runs, and in that of one that is down, however much of the rest stands
  abbrev pub HasAsked : Run → NodeState → Type 0
  HasAsked run (Running n) = AreAsked run n.raft.log
  HasAsked run (Down kept rest) = (stands : ℕ) → AreAsked run (persistent_after kept (take stands rest)).log

  abbrev pub EachListWasAsked : Type 0
  EachListWasAsked = (run : Run) (i : NodeId) → HasAsked run ((world first run).nodes i)
