use Rattle.std.proofs.Common.{◌≡◌, ◌++◌, drop, take, length}
use Rattle.rq_raft.specs.Node.{with_peer}
use Rattle.rq_log.specs.Tally.{after_reply}
use Rattle.rq_log.proofs.sending.answer.Given as goal

abbrev pub invariant-loop-i : goal.invariant-loop-i
invariant-loop-i l = (length l.peers ≡ length l.fn.peers) × (take l.i l.peers ++ with_peer (after_reply l.ok l.at l.probe) l.from (drop l.i l.peers) ≡ with_peer (after_reply l.ok l.at l.probe) l.from l.fn.peers)
