use Rattle.std.proofs.Common.{◌≡◌, drop}
use Rattle.rq_route.specs.Target.{behind_authority}
use Rattle.rq_route.proofs.target.behind_authority.Given as goal

abbrev pub invariant-loop-at : goal.invariant-loop-at
invariant-loop-at l = behind_authority l.bytes ≡ behind_authority (drop l.at l.bytes)
