use Rattle.std.proofs.Common.{◌≡◌, ◌+◌, cond, drop}
use Rattle.rq_member.specs.Applied.{outcome_waits}
use Rattle.rq_member.proofs.node.applying.is_lone.Given as goal

abbrev pub invariant-loop-place : goal.invariant-loop-place
invariant-loop-place l = outcome_waits l.index l.waiting ≡ cond l.found 1 0 + outcome_waits l.index (drop l.place l.waiting)
