use Rattle.std.proofs.Common.{◌≡◌, drop}
use Rattle.rq_raft.specs.Node.{one_of}
use Rattle.rq_log.proofs.tally.is_one_of.Given as goal

abbrev pub invariant-loop-one : goal.invariant-loop-one
invariant-loop-one l = one_of l.ids l.id ≡ one_of (drop l.one-index l.ids) l.id
