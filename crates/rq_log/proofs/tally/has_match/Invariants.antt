use Rattle.std.proofs.Common.{◌≡◌, drop}
use Rattle.std.specs.Prelude.{nat_le}
use Rattle.rq_raft.specs.declared.peer.Peer.{Peer}
use Rattle.rq_raft.specs.Node.{has_peer}
use Rattle.rq_log.proofs.tally.has_match.Given as goal

abbrev pub invariant-loop-peer : goal.invariant-loop-peer
invariant-loop-peer l = has_peer (λ (p : Peer). nat_le l.index p.matched) l.peers l.id ≡ has_peer (λ (p : Peer). nat_le l.index p.matched) (drop l.peer-index l.peers) l.id
