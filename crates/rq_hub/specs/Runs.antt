-- What the rules make of the events that came to a node, one after the other.
use Rattle.std.specs.Prelude.{ℕ, ◌+◌, ◌==◌, if◌then◌else◌, Bool, true, false, List, [], ◌∷◌, ◌++◌, Option, Some, None}
use Rattle.rq_node.specs.declared.event.Event.{Event}
use Rattle.rq_node.specs.declared.event.Event.TheVariants.{Execute, Query, Elect, Apply}
use Rattle.rq_node.specs.declared.waiting.Waiting.{Waiting}
use Rattle.rq_node.specs.Events.{rule, asked}
use Rattle.rq_node.specs.Node.{Node, Turn, unchanged}
use Rattle.rq_request.specs.declared.say.Answer.{Answer}

-- one event more, behind what was done before
abbrev pub stepped : Turn → Event → Turn
stepped turn event =
    let next = rule event turn.node in record { node = next.node; records = turn.records ++ next.records; answers = turn.answers ++ next.answers }

abbrev pub ran : Turn → List Event → Turn
ran turn [] = turn
ran turn (event ∷ events) = ran (stepped turn event) events

-- these events, at a node that was opened so
abbrev pub run : Node → List Event → Turn
run start events = ran (unchanged start) events

abbrev pub is_apply : Event → Bool
is_apply (Execute number items) = false
is_apply (Query number items) = false
is_apply Elect = false
is_apply Apply = true

-- ---- how often a number was asked, is answered, and waits

abbrev pub one_if : Bool → ℕ
one_if b = if b then 1 else 0

abbrev pub asks_of : ℕ → Option ℕ → ℕ
asks_of x None = 0
asks_of x (Some number) = one_if (number == x)

abbrev pub asked_times : ℕ → List Event → ℕ
asked_times x [] = 0
asked_times x (event ∷ events) = asks_of x (asked event) + asked_times x events

abbrev pub answered_times : ℕ → List Answer → ℕ
answered_times x [] = 0
answered_times x (answer ∷ answers) = one_if (answer.number == x) + answered_times x answers

abbrev pub waiting_times : ℕ → List Waiting → ℕ
waiting_times x [] = 0
waiting_times x (w ∷ ws) = one_if (w.number == x) + waiting_times x ws
