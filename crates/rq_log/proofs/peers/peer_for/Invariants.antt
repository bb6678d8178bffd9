use Rattle.std.proofs.Common.{◌≡◌, drop}
use Rattle.rq_raft.specs.Lead.{peer_for}
use Rattle.rq_log.proofs.peers.peer_for.Given as goal

abbrev pub invariant-loop-peer : goal.invariant-loop-peer
invariant-loop-peer l = peer_for l.next l.peers l.id ≡ peer_for l.next (drop l.peer-index l.peers) l.id
