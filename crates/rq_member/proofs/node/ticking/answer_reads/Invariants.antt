use Rattle.std.proofs.Common.{◌≡◌, ◌++◌, List, take}
use Rattle.rq_request.specs.declared.say.Answer.{Answer}
use Rattle.rq_world.specs.Rules.{by_number, expired_reads}
use Rattle.rq_member.proofs.node.ticking.answer_reads.Given as goal

abbrev pub invariant-loop-place : goal.invariant-loop-place
invariant-loop-place l = (list : List Answer) → l.initial.answers.items ≡ by_number list → l.answers.items ≡ by_number (list ++ expired_reads l.now (take l.place l.reads.items))
