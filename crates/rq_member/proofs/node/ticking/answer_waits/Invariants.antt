use Rattle.std.proofs.Common.{◌≡◌, ◌++◌, List, take}
use Rattle.rq_request.specs.declared.say.Answer.{Answer}
use Rattle.rq_world.specs.Rules.{by_number, expired_waiting}
use Rattle.rq_member.proofs.node.ticking.answer_waits.Given as goal

abbrev pub invariant-loop-place : goal.invariant-loop-place
invariant-loop-place l = (list : List Answer) → l.initial.answers.items ≡ by_number list → l.answers.items ≡ by_number (list ++ expired_waiting l.now (take l.place l.waiting.items))
