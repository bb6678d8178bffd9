use Rattle.std.proofs.Common.{◌+◌, take, sym, subst}
use Rattle.rq_settle.specs.Prepared.{IsPrepared}
use Rattle.rq_script.specs.Preparing.{AreRead}
use Rattle.rq_cluster.proofs.Readings.{one_more_read}
use Rattle.rq_cluster.proofs.preparing.prepared_all.Goals as goal

pub loop-text-preserved : goal.loop-text-preserved
loop-text-preserved c =
    let read = one_more_read c.args.texts.now c.loop-text.items c.loop-text.text-index c.text-item.result c.in_ok-prepare.field-0 c.loop-text-test.true c.text-item.is c.loop-text.invariant (subst (λ t. IsPrepared t c.in_ok-prepare.field-0) c.bytes.ensures.bytes c.in_ok-prepare.ensures) in
    subst (λ l. AreRead (take (c.loop-text.text-index + 1) c.args.texts.now) l) (sym c.in_ok-push.ensures.ok) read
