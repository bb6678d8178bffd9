-- What a node makes durable of a call, in order.
use Rattle.std.specs.Prelude.{◌≡◌, if◌then◌else◌, List, ◌∷◌}
use Rattle.rq_log.specs.declared.moves.Moves.{Moves}
use Rattle.rq_log.specs.Views.{Gives, stored_of, is_moved}
use Rattle.rq_raft.specs.Node.{RaftNode, RaftTurn, StoredRecord, Vote, all_stored}

module _ {E : Type 0} where
  -- its term and vote, if they changed, and then its log from an index on
  abbrev pub durable_of : RaftNode E → Moves → List (StoredRecord E)
  durable_of now moves = if moves.vote then Vote now.term now.vote ∷ stored_of now.log moves.splice else stored_of now.log moves.splice

  -- what the clauses `ok` and `vote` of a call say is that this is all that its rule stores
  abbrev pub IsStored : RaftNode E → RaftTurn E → RaftNode E → Moves → Type 0
  IsStored before t now moves = Gives t now moves → moves.vote ≡ is_moved before now → durable_of now moves ≡ all_stored before t
