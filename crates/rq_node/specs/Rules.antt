-- The rules of a node that is the one voter of its cluster, as docs/RAFT.md has them.
use Rattle.std.specs.Prelude.{◌+◌, ◌-◌, ◌^◌, if◌then◌else◌, ◌||◌, ◌==◌, nat_lt, ℕ, zero, suc, Bool, true, false, List, [], ◌∷◌, ◌++◌, length, slice_get, Option, Some, None}
use Rattle.rq_statement.specs.declared.item.Item.{Item}
use Rattle.rq_statement.specs.declared.res.Res.{Res}
use Rattle.rq_node.specs.declared.log_entry.LogEntry.{LogEntry}
use Rattle.rq_node.specs.declared.log_entry.Content.{Content}
use Rattle.rq_node.specs.declared.log_entry.Content.TheVariants.{NoOp, Execute}
use Rattle.rq_node.specs.declared.role.Role.{Role}
use Rattle.rq_node.specs.declared.role.Role.TheVariants.{Follower, Candidate, Leader}
use Rattle.rq_node.specs.declared.waiting.Waiting.{Waiting}
use Rattle.rq_request.specs.declared.say.Say.TheVariants.{Results, Refused}
use Rattle.rq_request.specs.declared.say.NodeRefusal.TheVariants.{NoLeader, EntryTooLarge}
use Rattle.rq_request.specs.declared.say.Answer.{Answer}
use Rattle.rq_statement.specs.declared.command.Command.{Command}
use Rattle.rq_statement.specs.declared.command.Command.TheVariants as command
use Rattle.rq_engine.specs.declared.outcome.Outcome.{Outcome}
use Rattle.rq_engine.specs.declared.outcome.Outcome.TheVariants as outcome
use Rattle.rq_engine.specs.Fold.{first, run, answer}
use Rattle.rq_statement.specs.Bytes.{execute_bytes}
use Rattle.rq_node.specs.Sound.{most_bytes}
use Rattle.rq_node.specs.Node.{Node, Persistent, Turn, StoredRecord, Vote, Splice, Boot, unchanged, says}

abbrev pub is_leader : Role → Bool
is_leader Leader = true
is_leader Candidate = false
is_leader Follower = false

-- an entry of the node's term
abbrev pub entry_in : Node → Content → LogEntry
entry_in n content = record { term = n.term; content = content }

-- the one voter commits an entry where it appends it
abbrev pub appended : Node → Content → Node
appended n content = record n { log = n.log ++ entry_in n content ∷ []; commit = length n.log + 1 }

abbrev pub splice_of : Node → Content → StoredRecord
splice_of n content = Splice (length n.log + 1) (entry_in n content ∷ [])

-- Elect: nothing at a leader, or in the last term that there is; else the node goes to the next term, votes for itself, and leads
abbrev pub risen : Node → Node
risen n = record n { term = n.term + 1; vote = Some n.id; role = Leader }

abbrev pub led : Node → Turn
led n = record { node = appended (risen n) NoOp; records = Vote (n.term + 1) (Some n.id) ∷ splice_of (risen n) NoOp ∷ []; answers = [] }

abbrev pub elect : Node → Turn
elect n = if is_leader n.role || (n.term == 2 ^ 64 - 1) then unchanged n else led n

-- Execute: refused where the node doesn't lead, and where the command is too large; else appended, and answered when it is applied
abbrev pub waits : Node → ℕ → Node
waits n number = record n { waiting = n.waiting ++ record { index = length n.log + 1; number = number } ∷ [] }

abbrev pub taken_up : Node → ℕ → List Item → Turn
taken_up n number items = record { node = appended (waits n number) (Execute items); records = splice_of n (Execute items) ∷ []; answers = [] }

abbrev pub execute_sized : Node → ℕ → List Item → ℕ → Turn
execute_sized n number items size = if nat_lt most_bytes size then says n number (Refused (EntryTooLarge size)) else taken_up n number items

abbrev pub execute : Node → ℕ → List Item → Turn
execute n number items = if is_leader n.role then execute_sized n number items (length (execute_bytes items)) else says n number (Refused (NoLeader n.term))

-- Query at level none: the answer of the node's own replica
abbrev pub query : Node → ℕ → List Item → Turn
query n number items = says n number (Results (answer n.replica items))

-- the first of the asks that wait, where it waits for this index, is answered with these results
abbrev pub answered : ℕ → List Res → List Waiting → List Answer
answered index results [] = []
answered index results (w ∷ ws) = if w.index == index then record { number = w.number; say = Results results } ∷ [] else []

abbrev pub left_waiting : ℕ → List Waiting → List Waiting
left_waiting index [] = []
left_waiting index (w ∷ ws) = if w.index == index then ws else w ∷ ws

-- what an entry has a replica do
abbrev pub command_of : Content → Command
command_of NoOp = command.NoOp
command_of (Execute items) = command.Execute (record { transaction = false; items = items })

-- the results that a command answers
abbrev pub results_of : Outcome → List Res
results_of (outcome.Results results) = results
results_of outcome.Loaded = []
results_of outcome.Nothing = []
results_of outcome.Stale = []

-- Apply: the entry's command runs on the replica, and the ask that waits for the entry is answered with its results
abbrev pub ran : Node → ℕ → Content → Node
ran n index content = record n { applied = index; replica = (run n.replica (command_of content)).0 }

abbrev pub applied_content : Node → ℕ → Content → Turn
applied_content n index NoOp = unchanged (ran n index NoOp)
applied_content n index (Execute items) = record {
  node = record (ran n index (Execute items)) { waiting = left_waiting index n.waiting };
  records = [];
  answers = answered index (results_of (run n.replica (command_of (Execute items))).1) n.waiting;
}

abbrev pub applied_entry : Node → Option LogEntry → Turn
applied_entry n None = unchanged n
applied_entry n (Some entry) = applied_content n (n.applied + 1) entry.content

-- the next entry, behind what was done before
abbrev pub apply_next : Turn → Turn
apply_next turn =
    let next = applied_entry turn.node (slice_get turn.node.log turn.node.applied) in
    record { node = next.node; records = turn.records ++ next.records; answers = turn.answers ++ next.answers }

unfoldable pub apply_times : ℕ → Turn → Turn
apply_times zero turn = turn
apply_times (suc n) turn = apply_times n (apply_next turn)

-- Apply, until all that is committed is applied
abbrev pub apply : Node → Turn
apply n = apply_times (n.commit - n.applied) (unchanged n)

-- Start: the node boots once more, with what it keeps; what was committed it doesn't know yet, so its replica is the first
abbrev pub started : List ℕ → Persistent → Turn
started id kept = record {
  node = record {
    id = id;
    term = kept.term;
    vote = kept.vote;
    boot = kept.boot + 1;
    log = kept.log;
    commit = 0;
    applied = 0;
    role = Follower;
    waiting = [];
    replica = first (id ∷ []);
  };
  records = Boot (kept.boot + 1) ∷ [];
  answers = [];
}
