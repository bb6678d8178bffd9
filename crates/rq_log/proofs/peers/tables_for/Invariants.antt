use Rattle.std.proofs.Common.{◌≡◌, ◌++◌, drop}
use Rattle.rq_raft.specs.Lead.{tables_for}
use Rattle.rq_log.proofs.peers.tables_for.Given as goal

abbrev pub invariant-loop-member : goal.invariant-loop-member
invariant-loop-member l = l.tables ++ tables_for l.own l.next l.peers (drop l.member-index l.members) ≡ tables_for l.own l.next l.peers l.members
