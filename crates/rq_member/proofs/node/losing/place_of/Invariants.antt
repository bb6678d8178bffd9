use Rattle.std.proofs.Common.{◌≡◌, ◌≤◌, ℕ, Some, length, slice_get}
use Rattle.rq_request.specs.declared.say.Answer.{Answer}
use Rattle.rq_member.proofs.node.losing.place_of.Given as goal

abbrev pub invariant-loop-at : goal.invariant-loop-at
invariant-loop-at l = record {
  within : l.at ≤ length l.answers;
  behind : (k : ℕ) (a : Answer) → l.at ≤ k → slice_get l.answers k ≡ Some a → l.number ≤ a.number;
}

abbrev pub decreases-loop-at : goal.decreases-loop-at
decreases-loop-at l = l.at
