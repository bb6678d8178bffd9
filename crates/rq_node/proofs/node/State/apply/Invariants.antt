use Rattle.std.proofs.Common.{◌≡◌, ◌-◌, []}
use Rattle.rq_node.specs.Events.{KeepsPersistent}
use Rattle.rq_node.specs.Rules.{apply, apply_times}
use Rattle.rq_node.proofs.node.State.apply.Given as goal

abbrev pub invariant-loop-self : goal.invariant-loop-self
invariant-loop-self l = (apply_times (l.self.commit - l.self.applied) (record { node = l.self; records = []; answers = l.answers }) ≡ apply l.fn.self) × KeepsPersistent l.fn.self l.self

abbrev pub decreases-loop-self : goal.decreases-loop-self
decreases-loop-self l = l.self.commit - l.self.applied
