use Rattle.std.proofs.Common.{◌≡◌, ◌++◌, ◌-◌, ◌≤◌, length, take, drop}
use Rattle.rq_world.specs.Rules.{live_waiting}
use Rattle.rq_member.proofs.node.ticking.forget_waits.Given as goal

abbrev pub invariant-loop-at : goal.invariant-loop-at
invariant-loop-at l = record {
  within : l.at ≤ length l.waiting.items;
  live : live_waiting l.now l.initial.waiting.items ≡ take l.at l.waiting.items ++ live_waiting l.now (drop l.at l.waiting.items);
}

abbrev pub decreases-loop-at : goal.decreases-loop-at
decreases-loop-at l = length l.waiting.items - l.at
