use Rattle.std.proofs.Common.{◌≡◌, ◌⊎◌, ◌+◌, ◌≤◌, ◌++◌, length}
use Rattle.std.specs.Vec.{vec_len, vec_capacity}
use Rattle.rq_engine.specs.declared.outcome.Outcome.{Outcome}
use Rattle.rq_world.specs.Rules.{answered, still_waiting, say_of}
use Rattle.rq_member.specs.Applied.{outcome_waits}
use Rattle.rq_member.proofs.node.applying.answer_waits.Given as goal

abbrev pub invariant-loop-waiting : goal.invariant-loop-waiting
invariant-loop-waiting l = record {
  answers : (o : Outcome) → l.initial.say ≡ say_of o → l.answers.items ++ answered l.index o l.waiting.items ≡ l.initial.answers.items ++ answered l.index o l.initial.waiting.items;
  waiting : still_waiting l.index l.waiting.items ≡ still_waiting l.index l.initial.waiting.items;
  lone : ((l.say ≡ l.initial.say) × (outcome_waits l.index l.waiting.items ≤ 1)) ⊎ (outcome_waits l.index l.waiting.items ≡ 0);
  len : vec_len l.answers + vec_len l.waiting ≡ vec_len l.initial.answers + vec_len l.initial.waiting;
  capacity : vec_capacity l.answers ≡ vec_capacity l.initial.answers;
}

abbrev pub decreases-loop-waiting : goal.decreases-loop-waiting
decreases-loop-waiting l = length l.waiting.items
