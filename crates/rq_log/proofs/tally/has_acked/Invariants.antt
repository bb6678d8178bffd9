use Rattle.std.proofs.Common.{◌≡◌, drop, nat_lt}
use Rattle.rq_raft.specs.declared.peer.Peer.{Peer}
use Rattle.rq_raft.specs.Node.{has_peer}
use Rattle.rq_log.proofs.tally.has_acked.Given as goal

abbrev pub invariant-loop-peer : goal.invariant-loop-peer
invariant-loop-peer l = has_peer (λ (p : Peer). nat_lt l.mark p.acked) l.peers l.id ≡ has_peer (λ (p : Peer). nat_lt l.mark p.acked) (drop l.peer-index l.peers) l.id
