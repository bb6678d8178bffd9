use Rattle.std.proofs.Common.{◌≡◌, ◌++◌, take}
use Rattle.rq_world.specs.Rules.{due_answers}
use Rattle.rq_member.proofs.node.State.answer_due.Given as goal

abbrev pub invariant-loop-place : goal.invariant-loop-place
invariant-loop-place g l = l.answers.items ≡ l.initial.answers.items ++ due_answers l.fn.self.first l.fn.self.node (take l.place l.fn.self.node.pending_reads)
