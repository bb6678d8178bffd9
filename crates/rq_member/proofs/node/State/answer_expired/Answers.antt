use Rattle.std.proofs.Common.{◌≡◌, ◌∙◌, [], ap, sym}
use Rattle.rq_world.specs.Rules.{expired_waiting, expired_reads, expired_queued}
use Rattle.rq_member.specs.Held.{Held}
use Rattle.rq_member.proofs.Answering.{all_expired}
use Rattle.rq_member.proofs.node.State.answer_expired.Goals as goal

pub returns : goal.returns
returns g c = all_expired c.args.now c.args.self.now.node c.self.inside.waiting.items c.self.inside.pending_reads.items c.self.inside.queue.items c.args.answers.now.items c.answer_waits.new.answers.items c.answer_reads.new.answers.items c.answer_queued.new.answers.items c.answer_queued.result
    (ap (λ (h : Held). h.node.waiting) c.self.view_is) (ap (λ (h : Held). h.node.pending_reads) c.self.view_is) (ap (λ (h : Held). h.node.queue) c.self.view_is)
    c.requires c.in_ok-answer_waits.ensures c.in_ok-answer_reads.ensures c.answer_queued.ensures
