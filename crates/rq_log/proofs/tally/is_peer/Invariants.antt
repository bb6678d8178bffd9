use Rattle.std.proofs.Common.{◌≡◌, drop, true}
use Rattle.rq_raft.specs.declared.peer.Peer.{Peer}
use Rattle.rq_raft.specs.Node.{has_peer}
use Rattle.rq_log.proofs.tally.is_peer.Given as goal

abbrev pub invariant-loop-peer : goal.invariant-loop-peer
invariant-loop-peer l = has_peer (λ (p : Peer). true) l.peers l.id ≡ has_peer (λ (p : Peer). true) (drop l.peer-index l.peers) l.id
