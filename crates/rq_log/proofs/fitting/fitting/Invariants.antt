use Rattle.std.proofs.Common.{◌≡◌, ◌+◌, ◌-◌, ◌≤◌, drop}
use Rattle.rq_log.specs.OfWire.{fits}
use Rattle.rq_log.proofs.fitting.fitting.Given as goal

abbrev pub invariant-loop-k : goal.invariant-loop-k
invariant-loop-k l = (l.k ≤ 64) × (l.room ≤ 1048576) × (fits 64 1048576 l.list ≡ l.k + fits (64 - l.k) l.room (drop l.k l.list))
