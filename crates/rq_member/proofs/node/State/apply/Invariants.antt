use Rattle.std.proofs.Common.{◌≡◌, ◌≤◌, ◌-◌}
use Rattle.rq_member.specs.Turned.{applies}
use Rattle.rq_member.proofs.node.State.apply.Given as goal

abbrev pub invariant-loop-done : goal.invariant-loop-done
invariant-loop-done g l = record {
  few : l.done ≤ l.most;
  node : l.self.node ≡ (applies l.initial.self.first l.done l.initial.self.node).node;
  answers : l.answers.items ≡ (applies l.initial.self.first l.done l.initial.self.node).answers;
  first : l.self.first ≡ l.initial.self.first;
}

abbrev pub decreases-loop-done : goal.decreases-loop-done
decreases-loop-done g l = l.most - l.done
