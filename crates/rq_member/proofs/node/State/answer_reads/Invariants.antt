use Rattle.std.proofs.Common.{◌≡◌, ◌+◌, ◌≤◌, ◌++◌, length, map, take, drop}
use Rattle.std.specs.Vec.{vec_len, vec_capacity}
use Rattle.rq_engine.specs.Fold as fold
use Rattle.rq_world.specs.Node.{PendingRead}
use Rattle.rq_world.specs.Rules.{due_answers}
use Rattle.rq_member.specs.Applied.{due_reads}
use Rattle.rq_member.proofs.node.State.answer_reads.Given as goal

abbrev pub invariant-loop-place : goal.invariant-loop-place
invariant-loop-place g l = record {
  results : l.results.items ≡ map (λ (r : PendingRead). fold.answer l.fn.self.node.replica r.items) (due_reads l.fn.self.first l.fn.self.node.raft (drop l.place l.fn.self.node.pending_reads));
  answers : l.answers.items ≡ l.initial.answers.items ++ due_answers l.fn.self.first l.fn.self.node (take l.place l.fn.self.node.pending_reads);
  room : vec_len l.answers + length l.fn.self.node.pending_reads ≤ vec_capacity l.answers + l.place;
}
