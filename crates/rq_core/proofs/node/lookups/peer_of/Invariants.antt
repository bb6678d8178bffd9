use Rattle.std.proofs.Common.{◌≡◌, drop}
use Rattle.rq_core.specs.Lookups.{peer_of}
use Rattle.rq_core.proofs.node.lookups.peer_of.Given as goal

abbrev pub invariant-loop-peer : goal.invariant-loop-peer
invariant-loop-peer l = peer_of l.peers l.id ≡ peer_of (drop l.peer-index l.peers) l.id
