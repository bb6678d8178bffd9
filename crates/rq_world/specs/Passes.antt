-- Reads by a pass: docs/RAFT.md, "Reads". Source: Ongaro's dissertation, section 6.4.
use Rattle.std.specs.Prelude.{ℕ, ◌≤◌, ◌≡◌, max, true, Some, List, slice_get}
use Rattle.rq_request.specs.declared.say.Say.{Say}
use Rattle.rq_wire.specs.declared.config.Member.{Member}
use Rattle.rq_history.specs.History.{NodeId}
use Rattle.rq_world.specs.Node.{Node}
use Rattle.rq_world.specs.Reads.{is_confirmed}
use Rattle.rq_world.specs.World.{Answered, Run, world, IsPast}
use Rattle.rq_world.specs.Laws.{Runs, Leads}
use Rattle.rq_world.specs.Promise.{op_of, IsAcknowledged, IsNumbered}

module _ (first : List Member) where
  -- a pass that was begun at p at a leader, and is ready at q while it still leads, is at or above each commit index that a node had up to p
  abbrev pub PassCovers : Type 0
  PassCovers = (q p o : Run) → IsPast first p q → IsPast first o p → (i j : NodeId) (term : ℕ) (n m x : Node)
      → Leads first p i term n → Leads first q i term m → is_confirmed first m.raft n.raft.probe ≡ true → Runs first o j x
      → x.raft.commit ≤ max n.raft.commit n.raft.first_index

  -- and so at or above each index that was acknowledged when it was begun
  abbrev pub PassCoversAcknowledged : Type 0
  PassCoversAcknowledged = (q p : Run) → IsNumbered first p → IsPast first p q → (i : NodeId) (term : ℕ) (n m : Node)
      → Leads first p i term n → Leads first q i term m → is_confirmed first m.raft n.raft.probe ≡ true
      → (k number place : ℕ) (say : Say) → slice_get (world first p).book k ≡ Some (Answered number say place) → IsAcknowledged (op_of (world first p).book number) say
      → place ≤ max n.raft.commit n.raft.first_index
