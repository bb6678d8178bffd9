-- The lines of a script, as docs/SCRIPT.md, "Lines", has them.
use Rattle.std.specs.Prelude.{ℕ, List}
use Rattle.rq_history.specs.History.{NodeId}

-- what is done at one server
pub data Action : Type 0 where
  Elect : Action
  Beat : Action
  Flush : Action
  Apply : Action
  Compact : Action
  Ask : (method target body : List ℕ) → Action  -- a request, as it would come over HTTP
  Stop : Action  -- at once
  StopWithin : (calls pick : ℕ) → Action  -- in the event that needs more than so many changing calls
  Start : Action
  Cut : Action  -- off from `run`
  Heal : Action  -- no longer
  Show : Action

pub data Line : Type 0 where
  Skip : Line  -- an empty line, or a comment
  Cluster : (ids : List NodeId) → Line
  At : (id : NodeId) (action : Action) → Line  -- at the server of this id
  Deliver : (number : ℕ) → Line  -- the packet of this number, counted from 1, again if it was delivered before
  Run : (times : ℕ) → Line  -- so often: the lowest packet that was neither delivered nor passed over
  Clock : (moment : ℕ) → Line  -- in milliseconds since 1970-01-01
