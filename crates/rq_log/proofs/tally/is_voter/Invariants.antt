use Rattle.std.proofs.Common.{◌≡◌, drop}
use Rattle.rq_raft.specs.Entries.{voters}
use Rattle.rq_raft.specs.Node.{one_of}
use Rattle.rq_log.proofs.tally.is_voter.Given as goal

abbrev pub invariant-loop-member : goal.invariant-loop-member
invariant-loop-member l = one_of (voters l.members) l.id ≡ one_of (voters (drop l.member-index l.members)) l.id
