use Rattle.std.proofs.Common.{◌≡◌, ◌+◌, ◌≤◌, ◌++◌, drop, take, length}
use Rattle.rq_raft.specs.Lead.{in_flight, probe_after}
use Rattle.rq_log.specs.Tally.{wanted_by}
use Rattle.rq_log.proofs.sending.mark.Given as goal

abbrev pub invariant-loop-i : goal.invariant-loop-i
invariant-loop-i l = (length l.peers ≡ length l.fn.peers) × (l.last ≤ l.probe + l.i) × (take l.i l.peers ++ in_flight (wanted_by l.to) l.last (drop l.i l.peers) ≡ in_flight (wanted_by l.to) l.probe l.fn.peers) × (probe_after (wanted_by l.to) l.last (drop l.i l.peers) ≡ probe_after (wanted_by l.to) l.probe l.fn.peers)
