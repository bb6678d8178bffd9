use Rattle.std.proofs.Common.{◌≡◌, ◌++◌, ◌-◌, ◌≤◌, length, take, drop}
use Rattle.rq_world.specs.Rules.{live_reads}
use Rattle.rq_member.proofs.node.ticking.forget_reads.Given as goal

abbrev pub invariant-loop-at : goal.invariant-loop-at
invariant-loop-at l = record {
  within : l.at ≤ length l.reads.items;
  live : live_reads l.now l.initial.reads.items ≡ take l.at l.reads.items ++ live_reads l.now (drop l.at l.reads.items);
}

abbrev pub decreases-loop-at : goal.decreases-loop-at
decreases-loop-at l = length l.reads.items - l.at
