-- Requests for votes, over a list of members.
use Rattle.std.specs.Prelude.{bytes_eq, not, map, filter, List, length}
use Rattle.rq_wire.specs.declared.config.Member.{Member}
use Rattle.rq_history.specs.History.{NodeId, EntryView, last_term}
use Rattle.rq_raft.specs.Entries.{voters}
use Rattle.rq_raft.specs.Node.{RaftNode, VoteAsk, Packet, packet}

abbrev pub asks : {E : Type 0} → EntryView E → RaftNode E → List Member → List (Packet E)
asks view n members = map (λ (m : NodeId). packet n m (VoteAsk (length n.log) (last_term view n.log))) (filter (λ (m : NodeId). not (bytes_eq m n.id)) (voters members))
