-- The line that the code has read.
use Rattle.std.specs.Prelude.{◌≡◌, ◌<◌, Option, Some, None, MatchOption, ⊤}
use Rattle.rq_script.specs.declared.script.Action.{Action as ReadAction}
use Rattle.rq_script.specs.declared.script.Action.TheVariants as acts
use Rattle.rq_script.specs.declared.script.ScriptLine.{ScriptLine}
use Rattle.rq_script.specs.declared.script.ScriptLine.TheVariants as read
use Rattle.rq_script.specs.ScriptLine.{Action, Line, Skip, Cluster, At, Elect, Apply, Execute, Query, Stop, StopWithin, Start, Show}

abbrev pub action_read : ReadAction → Action
action_read acts.Elect = Elect
action_read acts.Apply = Apply
action_read (acts.Execute body) = Execute body.now
action_read (acts.Query body) = Query body.now
action_read acts.Stop = Stop
action_read (acts.StopWithin calls pick) = StopWithin calls pick
action_read acts.Start = Start
action_read acts.Show = Show

abbrev pub line_read : ScriptLine → Line
line_read read.Skip = Skip
line_read (read.Cluster id) = Cluster id
line_read (read.At id action) = At id (action_read action)

-- what was read is this line, or none
abbrev pub IsRead : Option Line → Option ScriptLine → Type 0
IsRead line result = MatchOption result (line ≡ None) (λ l. line ≡ Some (line_read l))

-- a pick is 0 to 3
abbrev pub HasPickAt : ReadAction → Type 0
HasPickAt (acts.StopWithin calls pick) = pick < 4
HasPickAt acts.Elect = ⊤
HasPickAt acts.Apply = ⊤
HasPickAt (acts.Execute body) = ⊤
HasPickAt (acts.Query body) = ⊤
HasPickAt acts.Stop = ⊤
HasPickAt acts.Start = ⊤
HasPickAt acts.Show = ⊤

abbrev pub HasPick : ScriptLine → Type 0
HasPick read.Skip = ⊤
HasPick (read.Cluster id) = ⊤
HasPick (read.At id action) = HasPickAt action
