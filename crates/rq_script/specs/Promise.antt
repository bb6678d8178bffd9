-- What each run promises at each of its moments. docs/RAFT.md, "What a run promises".
use Rattle.std.specs.Prelude.{◌≡◌, ◌≤◌, ◌-◌, if◌then◌else◌, nat_eq, ℕ, List, [], ◌∷◌, ◌++◌, length, map, take, slice_get, Option, Some, None, ⊤}
use Rattle.rq_statement.specs.declared.item.Item.{Item}
use Rattle.rq_statement.specs.declared.res.Res.{Res}
use Rattle.rq_request.specs.declared.say.Say.{Say}
use Rattle.rq_request.specs.declared.say.Say.TheVariants.{Results, Queued, Loaded, Backup, Nodes, Ready, Changed, Moved, Refused}
use Rattle.rq_statement.specs.declared.command.Command.{Command}
use Rattle.rq_engine.specs.Fold.{State, replica, outcome_behind, answer}
use Rattle.rq_node.specs.declared.log_entry.LogEntry.{LogEntry}
use Rattle.rq_node.specs.declared.log_entry.Content.TheVariants.{Execute}
use Rattle.rq_node.specs.Node.{Node, persistent_after}
use Rattle.rq_node.specs.Rules.{command_of, results_of}
use Rattle.rq_script.specs.Cluster.{Stand, Running, Down}
use Rattle.rq_script.specs.History.{Op, Write, Read, Note, Asked, Answered, History}

-- the commands of a log
abbrev pub commands : List LogEntry → List Command
commands log = map (λ (entry : LogEntry). command_of entry.content) log

-- the list begins with this one
abbrev pub Begins : {T : Type 0} → List T → List T → Type 0
Begins {T} prefix whole = (rest : List T) × (prefix ++ rest ≡ whole)

-- what the ask of this number was for
abbrev pub op_of : List Note → ℕ → Option Op
op_of [] number = None
op_of (Asked k op ∷ notes) number = if nat_eq k number then Some op else op_of notes number
op_of (Answered k say place ∷ notes) number = op_of notes number

-- what was chosen stands in the log of a node that runs, and of one that is down in what its files show, however much of the rest stands
abbrev pub IsKept : List LogEntry → Stand → Type 0
IsKept chosen (Running n) = Begins chosen n.log
IsKept chosen (Down kept rest) = (stands : ℕ) → Begins chosen (persistent_after kept (take stands rest)).log

module _ (ids : List (List ℕ)) where
  -- the fold of a log, from the ids of the first configuration
  abbrev pub folded : List LogEntry → State
  folded log = replica ids (commands log)

  -- the log has this list at this index, and these results are its outcome there
  pub record IsOutcome (log : List LogEntry) (index : ℕ) (items : List Item) (results : List Res) : Type 0 where
    pub counts : 1 ≤ index
    pub entry : LogEntry
    pub stands : slice_get log (index - 1) ≡ Some entry
    pub is_list : entry.content ≡ Execute items
    pub outcome : results ≡ results_of (outcome_behind ids (commands (take (index - 1) log)) (command_of (Execute items)))

  -- results of a write are those of its entry; results of a read are those of its queries on the fold of the log's prefix of this length
  abbrev pub AreRight : List LogEntry → Op → List Res → ℕ → Type 0
  AreRight chosen (Write items) results place = IsOutcome chosen place items results
  AreRight chosen (Read items) results place = (place ≤ length chosen) × (results ≡ answer (folded (take place chosen)) items)

  -- an answer is right: results are, a refusal says nothing of a replica, and nothing else is said yet
  abbrev pub IsRight : List LogEntry → Option Op → Say → ℕ → Type 0
  IsRight chosen None say place = ⊥
  IsRight chosen (Some op) (Results results) place = AreRight chosen op results place
  IsRight chosen (Some op) (Refused refusal) place = ⊤
  IsRight chosen (Some op) (Queued number) place = ⊥
  IsRight chosen (Some op) Loaded place = ⊥
  IsRight chosen (Some op) (Backup sql) place = ⊥
  IsRight chosen (Some op) (Nodes members) place = ⊥
  IsRight chosen (Some op) Ready place = ⊥
  IsRight chosen (Some op) Changed place = ⊥
  IsRight chosen (Some op) (Moved address) place = ⊥

  -- a node's replica is the fold of the applied prefix of its log, which is a prefix of the chosen log
  pub record IsReplica (chosen : List LogEntry) (n : Node) : Type 0 where
    pub applied : Begins (take n.applied n.log) chosen
    pub committed : Begins (take n.commit n.log) chosen
    pub folds : n.replica ≡ folded (take n.applied n.log)

  -- at a moment with this history, where this node runs
  pub record Keeps (h : History) (node : Option Node) : Type 0 where
    pub replicas : (n : Node) → node ≡ Some n → IsReplica h.chosen n
    pub right : (k number : ℕ) (say : Say) (place : ℕ) → slice_get h.book k ≡ Some (Answered number say place) → IsRight h.chosen (op_of h.book number) say place
    -- each write that was answered with results has an index of its own
    pub apart : (j k number other place : ℕ) (results more : List Res) (items items' : List Item)
        → slice_get h.book j ≡ Some (Answered number (Results results) place) → slice_get h.book k ≡ Some (Answered other (Results more) place)
        → op_of h.book number ≡ Some (Write items) → op_of h.book other ≡ Some (Write items') → j ≡ k

-- from one moment to the next nothing that was chosen or noted is lost
pub record Grows (old new : History) : Type 0 where
  pub chosen : Begins old.chosen new.chosen
  pub book : Begins old.book new.book
