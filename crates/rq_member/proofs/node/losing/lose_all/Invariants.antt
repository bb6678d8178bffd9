use Rattle.std.proofs.Common.{◌≡◌, ◌++◌, take, map}
use Rattle.rq_world.specs.Node.{PendingRead}
use Rattle.rq_world.specs.Rules.{lost_all}
use Rattle.rq_world.specs.declared.waiting.Waiting.{Waiting}
use Rattle.rq_member.proofs.node.losing.lose_all.Given as goal

abbrev pub invariant-loop-place : goal.invariant-loop-place
invariant-loop-place l = l.answers.items ≡ lost_all l.term l.now (map (λ (w : Waiting). w.number) (take l.place l.waiting.items))

abbrev pub invariant-loop-at : goal.invariant-loop-at
invariant-loop-at l = l.answers.items ≡ lost_all l.term l.now (map (λ (w : Waiting). w.number) l.waiting.items ++ map (λ (r : PendingRead). r.pass.id) (take l.at l.reads.items))
