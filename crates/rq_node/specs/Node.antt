-- A node, what it keeps when it stops, and what a rule gives: docs/RAFT.md, "The node".
use Rattle.std.specs.Prelude.{◌-◌, ℕ, List, [], ◌∷◌, ◌++◌, take, Option}
use Rattle.rq_engine.specs.Fold.{State}
use Rattle.rq_node.specs.declared.log_entry.LogEntry.{LogEntry}
use Rattle.rq_node.specs.declared.role.Role.{Role}
use Rattle.rq_node.specs.declared.waiting.Waiting.{Waiting}
use Rattle.rq_request.specs.declared.say.Say.{Say}
use Rattle.rq_request.specs.declared.say.Answer.{Answer}

-- the log counts from index 1: the entry at index i stands behind i - 1 others
pub record Node : Type 0 where
  pub id : List ℕ
  pub term : ℕ
  pub vote : Option (List ℕ)
  pub boot : ℕ
  pub log : List LogEntry
  pub commit : ℕ
  pub applied : ℕ
  pub role : Role
  pub waiting : List Waiting  -- asks whose entry isn't applied yet, in rising order of indexes
  pub replica : State  -- what the commands of the applied entries made of the first state

-- what of a node outlives a stop
pub record Persistent : Type 0 where
  pub term : ℕ
  pub vote : Option (List ℕ)
  pub boot : ℕ
  pub log : List LogEntry

abbrev pub persistent_of : Node → Persistent
persistent_of n = record { term = n.term; vote = n.vote; boot = n.boot; log = n.log }

-- what a rule makes durable
pub data StoredRecord : Type 0 where
  Vote : (term : ℕ) (vote : Option (List ℕ)) → StoredRecord
  Splice : (from : ℕ) (entries : List LogEntry) → StoredRecord  -- the log from this index on is these entries
  Boot : (boot : ℕ) → StoredRecord

-- what is kept with one thing more
abbrev pub persistent_with : Persistent → StoredRecord → Persistent
persistent_with kept (Vote term vote) = record kept { term = term; vote = vote }
persistent_with kept (Splice from entries) = record kept { log = take (from - 1) kept.log ++ entries }
persistent_with kept (Boot boot) = record kept { boot = boot }

-- and with several, in order
abbrev pub persistent_after : Persistent → List StoredRecord → Persistent
persistent_after kept [] = kept
persistent_after kept (item ∷ items) = persistent_after (persistent_with kept item) items

-- the node after a rule, what the rule makes durable, in order, and its answers, in order
pub record Turn : Type 0 where
  pub node : Node
  pub records : List StoredRecord
  pub answers : List Answer

-- nothing but the node changes
abbrev pub unchanged : Node → Turn
unchanged n = record { node = n; records = []; answers = [] }

-- the node only answers
abbrev pub says : Node → ℕ → Say → Turn
says n number say = record { node = n; records = []; answers = record { number = number; say = say } ∷ [] }
