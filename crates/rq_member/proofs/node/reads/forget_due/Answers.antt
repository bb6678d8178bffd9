use Rattle.std.proofs.Common.{◌≡◌, ◌∙◌, ◌<◌, ap, sym, arith, length}
use Rattle.rq_world.specs.Node.{PendingRead}
use Rattle.rq_world.specs.Reads.{is_due}
use Rattle.rq_world.specs.Rules.{not_due}
use Rattle.rq_member.proofs.Answering.{found}
use Rattle.rq_member.proofs.Forgetting.{due_as, forget_here, forget_over}
use Rattle.rq_member.proofs.node.reads.forget_due.Goals as goal

pub loop-at-preserved-then-is_due : goal.loop-at-preserved-then-is_due
loop-at-preserved-then-is_due c =
    let l = c.loop-at.reads.items in
    let x = c.index.result.now in
    let less : c.loop-at.at < length l = omega (arith, c.loop-at-test.true, c.len.ensures) in
    let at = found l c.loop-at.at x less c.index.ensures in
    record {
      within = omega (arith, less, c.remove.ensures.len);
      live = λ n same. forget_here c.args.core.now.first n c.args.reads.now.items l c.remove.new.self.items c.loop-at.at x at (due_as c.args.core.now.first n c.args.core.now.node x _ c.is_due.result same c.is_due.ensures (ap (λ (r : PendingRead). r.pass) c.behind-reads.view_is) ∙ c.if-is_due.true) c.remove.ensures.items (c.loop-at.invariant.live n same);
    }

pub loop-at-preserved : goal.loop-at-preserved
loop-at-preserved c =
    let l = c.loop-at.reads.items in
    let x = c.index.result.now in
    let less : c.loop-at.at < length l = omega (arith, c.loop-at-test.true, c.len.ensures) in
    let at = found l c.loop-at.at x less c.index.ensures in
    record {
      within = omega (arith, less);
      live = λ n same. forget_over c.args.core.now.first n c.args.reads.now.items l c.loop-at.at x at (due_as c.args.core.now.first n c.args.core.now.node x _ c.is_due.result same c.is_due.ensures (ap (λ (r : PendingRead). r.pass) c.behind-reads.view_is) ∙ c.if-is_due.false) (c.loop-at.invariant.live n same);
    }
