-- The events that a script's actions put to a node.
use Rattle.std.specs.Prelude.{◌≡◌, ◌+◌, ℕ, List, Some, None, ⊤}
use Rattle.rq_statement.specs.declared.item.Item.{Item}
use Rattle.rq_json.specs.Body.{texts_of}
use Rattle.rq_node.specs.declared.event.Event.{Event}
use Rattle.rq_node.specs.declared.event.Event.TheVariants as event
use Rattle.rq_script.specs.Preparing.{AreRead}
use Rattle.rq_script.specs.ScriptLine.{Action, Elect, Apply, Execute, Query, Stop, StopWithin, Start, Show}

-- the action puts an event to the node
abbrev pub IsEvent : Action → Type 0
IsEvent Elect = ⊤
IsEvent Apply = ⊤
IsEvent (Execute body) = ⊤
IsEvent (Query body) = ⊤
IsEvent Stop = ⊥
IsEvent (StopWithin calls pick) = ⊥
IsEvent Start = ⊥
IsEvent Show = ⊥

-- the next ask has this number and these statements, where so many asks were there before, and so many are then
pub record IsAsk (body : List ℕ) (before after number : ℕ) (items : List Item) : Type 0 where
  pub texts : List (List ℕ)
  pub lists : texts_of body ≡ Some texts
  pub read : AreRead texts items
  pub next : number ≡ before + 1
  pub counts : after ≡ before + 1

-- the action puts this event to the node, where so many asks were there before, and so many are then
abbrev pub Puts : Action → ℕ → ℕ → Event → Type 0
Puts Elect before after e = (e ≡ event.Elect) × (after ≡ before)
Puts Apply before after e = (e ≡ event.Apply) × (after ≡ before)
Puts (Execute body) before after e = (number : ℕ) × (items : List Item) × (e ≡ event.Execute number items) × IsAsk body before after number items
Puts (Query body) before after e = (number : ℕ) × (items : List Item) × (e ≡ event.Query number items) × IsAsk body before after number items
Puts Stop before after e = ⊥
Puts (StopWithin calls pick) before after e = ⊥
Puts Start before after e = ⊥
Puts Show before after e = ⊥

-- the action has a body that lists no statements
abbrev pub PutsNothing : Action → Type 0
PutsNothing (Execute body) = texts_of body ≡ None
PutsNothing (Query body) = texts_of body ≡ None
PutsNothing Elect = ⊥
PutsNothing Apply = ⊥
PutsNothing Stop = ⊥
PutsNothing (StopWithin calls pick) = ⊥
PutsNothing Start = ⊥
PutsNothing Show = ⊥
