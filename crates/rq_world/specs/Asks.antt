-- No ask is forgotten: docs/RAFT.md, "From the rules to one log".
use Rattle.std.specs.Prelude.{ℕ, ◌≡◌, ◌<◌, Some, slice_get, ◌+◌, suc, nat_eq, if◌then◌else◌, List, [], ◌∷◌, ◌++◌, map}
use Rattle.rq_wire.specs.declared.config.Member.{Member}
use Rattle.rq_raft.specs.Node.{Packet}
use Rattle.rq_request.specs.declared.say.Answer.{Answer}
use Rattle.rq_world.specs.declared.log_entry.LogEntry.{LogEntry}
use Rattle.rq_world.specs.Node.{Node}
use Rattle.rq_world.specs.Rules.{waiting_numbers, queued_numbers}
use Rattle.rq_world.specs.World.{Act, Ask, Elect, Beat, Flush, Apply, Compact, Deliver, Tick, Idle, Run, act}
use Rattle.rq_world.specs.declared.waiting.Waiting.{Waiting}
use Rattle.rq_history.specs.History.{NodeId}
use Rattle.rq_world.specs.Laws.{Runs}
use Rattle.rq_world.specs.Promise.{IsNumbered}

-- how often the number is among these
abbrev pub times : ℕ → List ℕ → ℕ
times number [] = 0
times number (k ∷ ks) = if nat_eq k number then suc (times number ks) else times number ks

-- all asks that wait at the node: for an entry, for a pass, or in the queue
abbrev pub all_waiting : Node → List ℕ
all_waiting n = waiting_numbers n ++ queued_numbers n.queue

abbrev pub asked_numbers : Act → List ℕ
asked_numbers (Ask number timeout op) = number ∷ []
asked_numbers Elect = []
asked_numbers Beat = []
asked_numbers Flush = []
asked_numbers Apply = []
asked_numbers Compact = []
asked_numbers (Deliver k) = []
asked_numbers Tick = []
asked_numbers Idle = []

-- what waits behind a turn and what the turn answers are, together, what waited before and what it was asked
abbrev pub EachTurnKeepsAsks : List Member → Type 0
EachTurnKeepsAsks first = (sent : List (Packet LogEntry)) (moment : ℕ) (n : Node) (a : Act) (number : ℕ)
    → times number (all_waiting (act first sent moment n a).node) + times number (map (λ (given : Answer). given.number) (act first sent moment n a).answers)
    ≡ times number (all_waiting n) + times number (asked_numbers a)

-- what waits for an entry waits for one that its node hasn't applied: so behind an apply nothing waits for what is applied
abbrev pub EachWaitIsAhead : List Member → Type 0
EachWaitIsAhead first = (run : Run) → IsNumbered first run → (i : NodeId) (n : Node) → Runs first run i n → (k : ℕ) (w : Waiting) → slice_get n.waiting k ≡ Some w → n.raft.applied < w.index
