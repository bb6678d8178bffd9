-- The events of a node: the rule of each, and what it brings about.
use Rattle.std.specs.Prelude.{◌≡◌, ◌≤◌, ℕ, length, Option, Some, None}
use Rattle.rq_node.specs.declared.event.Event.{Event}
use Rattle.rq_node.specs.declared.event.Event.TheVariants.{Execute, Query, Elect, Apply}
use Rattle.rq_node.specs.declared.event.Effects.{Effects}
use Rattle.rq_node.specs.Node.{Node, Turn, persistent_of}
use Rattle.rq_node.specs.Rules.{execute, query, elect, apply}
use Rattle.rq_node.specs.Recovery.{CanBeRead}

abbrev pub rule : Event → Node → Turn
rule (Execute number items) n = execute n number items
rule (Query number items) n = query n number items
rule Elect n = elect n
rule Apply n = apply n

-- the ask that an event puts to the node
abbrev pub asked : Event → Option ℕ
asked (Execute number items) = Some number
asked (Query number items) = Some number
asked Elect = None
asked Apply = None

-- these are the effects of the turn
pub record Brings (turn : Turn) (effects : Effects) : Type 0 where
  pub stored : effects.stored ≡ length turn.records
  pub answers : effects.answers ≡ turn.answers

-- the same node, which keeps the same
pub record KeepsPersistent (old new : Node) : Type 0 where
  pub id : new.id ≡ old.id
  pub persistent : persistent_of new ≡ persistent_of old

-- What want of memory leaves: the node as it was. Where it broke off an Apply, only what the node keeps.
abbrev pub IsLeft : Event → Node → Node → Type 0
IsLeft (Execute number items) old new = new ≡ old
IsLeft (Query number items) old new = new ≡ old
IsLeft Elect old new = new ≡ old
IsLeft Apply old new = KeepsPersistent old new

-- a turn leaves the node its name, and stores at most two records, which can be read again
pub record IsModest (n : Node) (turn : Turn) : Type 0 where
  pub id : turn.node.id ≡ n.id
  pub few : length turn.records ≤ 2
  pub readable : CanBeRead (persistent_of n) turn.records
