use Rattle.std.proofs.Common.{arith}
use Rattle.rq_changes.specs.Staged.{now_of}
use Rattle.rq_changes.proofs.Updated.{resolved_more}
use Rattle.rq_changes.proofs.updating.resolved_sets.Goals as goal

pub loop-set-preserved : goal.loop-set-preserved
loop-set-preserved c =
    let l = c.loop-set in
    resolved_more (now_of c.args.table.now) c.args.sets.now l.set-index c.set-item.result l.all c.push.new.self c.in-Ok.expr (omega arith) c.set-item.is c.in_ok-push-in-Ok.ensures.ok (rw c.scope.ensures at c.in-Ok.ensures) l.invariant
