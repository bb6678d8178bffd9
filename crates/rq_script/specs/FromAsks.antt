-- Where the lists of a log come from: each from an ask of its own. docs/RAFT.md, "What a run promises".
use Rattle.std.specs.Prelude.{◌≡◌, ◌≤◌, ◌<◌, ℕ, List, [], ◌∷◌, take, Some}
use Rattle.rq_node.specs.declared.log_entry.LogEntry.{LogEntry}
use Rattle.rq_node.specs.declared.log_entry.Content.{Content}
use Rattle.rq_node.specs.declared.log_entry.Content.TheVariants.{NoOp, Execute}
use Rattle.rq_node.specs.Node.{persistent_after}
use Rattle.rq_script.specs.Cluster.{Stand, Running, Down}
use Rattle.rq_script.specs.History.{Write, Note}
use Rattle.rq_script.specs.Promise.{op_of}

-- a list is that of the write that has this number, which is above the last; an entry without a list has none
abbrev pub IsFromAsk : List Note → ℕ → Content → ℕ → Type 0
IsFromAsk book last NoOp number = number ≡ last
IsFromAsk book last (Execute items) number = (last < number) × (op_of book number ≡ Some (Write items))

-- the lists of these entries are those of writes that were asked, in the order of their numbers, each at most once: above `last`, up to `most`
abbrev pub AreFromAsks : List Note → ℕ → List LogEntry → ℕ → Type 0
AreFromAsks book last [] most = last ≤ most
AreFromAsks book last (entry ∷ entries) most = (number : ℕ) × IsFromAsk book last entry.content number × AreFromAsks book number entries most

-- of a node that runs, and of one that is down, however much of the rest stands
abbrev pub IsAsked : List Note → ℕ → Stand → Type 0
IsAsked book most (Running n) = AreFromAsks book 0 n.log most
IsAsked book most (Down kept rest) = (stands : ℕ) → AreFromAsks book 0 (persistent_after kept (take stands rest)).log most
