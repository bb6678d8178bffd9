-- The line that the code has read, and why it has read none.
use Rattle.std.specs.Prelude.{◌≡◌, ◌<◌, ℕ, Bool, true, false, List, [], ◌∷◌, ◌++◌, Option, Some, None, MatchOption, Result, Ok, Err, ⊤}
use Rattle.rq_values.specs.Text.{is_id}
use Rattle.rq_play.specs.Line.{Action, Elect, Beat, Flush, Apply, Compact, Ask, Stop, StopWithin, Start, Cut, Heal, Show, Line, Skip, Cluster, At, Deliver, Run, Clock}
use Rattle.rq_lines.specs.declared.form.Form.{Form}
use Rattle.rq_lines.specs.declared.line.ScriptAction.{ScriptAction}
use Rattle.rq_lines.specs.declared.line.ScriptAction.TheVariants as acts
use Rattle.rq_lines.specs.declared.line.ScriptLine.{ScriptLine}
use Rattle.rq_lines.specs.declared.line.ScriptLine.TheVariants as read
use Rattle.rq_lines.specs.declared.line.LineError.{LineError}
use Rattle.rq_lines.specs.declared.line.LineError.TheVariants as errors
use Rattle.rq_lines.specs.Spelled.{cut_at_blank, form_of, line_of}

abbrev pub action_read : ScriptAction → Action
action_read acts.Elect = Elect
action_read acts.Beat = Beat
action_read acts.Flush = Flush
action_read acts.Apply = Apply
action_read acts.Compact = Compact
action_read (acts.Ask method target body) = Ask method.now target.now body.now
action_read acts.Stop = Stop
action_read (acts.StopWithin calls pick) = StopWithin calls pick
action_read acts.Start = Start
action_read acts.Cut = Cut
action_read acts.Heal = Heal
action_read acts.Show = Show

abbrev pub line_read : ScriptLine → Line
line_read read.Skip = Skip
line_read (read.Cluster ids) = Cluster ids
line_read (read.At id action) = At id (action_read action)
line_read (read.Deliver number) = Deliver number
line_read (read.Run times) = Run times
line_read (read.Clock moment) = Clock moment

-- what was read is this line, or none
abbrev pub IsRead : Option Line → Option ScriptLine → Type 0
IsRead line result = MatchOption result (line ≡ None) (λ l. line ≡ Some (line_read l))

-- a name was added to the ids, where it is one
abbrev pub Adds : List ℕ → List (List ℕ) → List (List ℕ) → Bool → Type 0
Adds name before after true = (is_id name ≡ true) × (after ≡ before ++ name ∷ [])
Adds name before after false = (is_id name ≡ false) × (after ≡ before)

-- ---- the error of a line that isn't read

abbrev pub error_at : Option Form → LineError
error_at None = errors.NoSuchLine
error_at (Some form) = errors.NotOfForm form

-- by its first word
abbrev pub error_of : List ℕ → LineError
error_of bytes = error_at (form_of (cut_at_blank bytes (λ word. word) (λ word rest. word)))

-- this line, or this error where there is none; or want of memory
abbrev pub AnswersOf : Option Line → LineError → Result ScriptLine LineError → Type 0
AnswersOf line error (Ok l) = line ≡ Some (line_read l)
AnswersOf line error (Err errors.NoMemory) = Unit {0}
AnswersOf line error (Err e) = (line ≡ None) × (e ≡ error)

-- the line that the bytes spell, or why they spell none
abbrev pub Answers : List ℕ → Result ScriptLine LineError → Type 0
Answers bytes result = AnswersOf (line_of bytes) (error_of bytes) result

-- a pick is 0 to 3
abbrev pub HasPickAt : ScriptAction → Type 0
HasPickAt (acts.StopWithin calls pick) = pick < 4
HasPickAt acts.Elect = ⊤
HasPickAt acts.Beat = ⊤
HasPickAt acts.Flush = ⊤
HasPickAt acts.Apply = ⊤
HasPickAt acts.Compact = ⊤
HasPickAt (acts.Ask method target body) = ⊤
HasPickAt acts.Stop = ⊤
HasPickAt acts.Start = ⊤
HasPickAt acts.Cut = ⊤
HasPickAt acts.Heal = ⊤
HasPickAt acts.Show = ⊤

abbrev pub HasPick : ScriptLine → Type 0
HasPick (read.At id action) = HasPickAt action
HasPick read.Skip = ⊤
HasPick (read.Cluster ids) = ⊤
HasPick (read.Deliver number) = ⊤
HasPick (read.Run times) = ⊤
HasPick (read.Clock moment) = ⊤
