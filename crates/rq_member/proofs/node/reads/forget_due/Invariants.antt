use Rattle.std.proofs.Common.{◌≡◌, ◌++◌, ◌-◌, ◌≤◌, length, take, drop}
use Rattle.rq_world.specs.Node.{Node}
use Rattle.rq_world.specs.Rules.{not_due}
use Rattle.rq_member.proofs.node.reads.forget_due.Given as goal

abbrev pub invariant-loop-at : goal.invariant-loop-at
invariant-loop-at l = record {
  within : l.at ≤ length l.reads.items;
  live : (n : Node) → n.raft ≡ l.core.node → not_due l.core.first n l.initial.reads.items ≡ take l.at l.reads.items ++ not_due l.core.first n (drop l.at l.reads.items);
}

abbrev pub decreases-loop-at : goal.decreases-loop-at
decreases-loop-at l = length l.reads.items - l.at
