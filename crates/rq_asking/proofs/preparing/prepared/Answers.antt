use Rattle.std.proofs.Common.{◌∙◌, arith}
use Rattle.rq_asking.proofs.Carrying.{step_at, done}
use Rattle.rq_asking.proofs.preparing.prepared.Goals as goal

pub loop-statement-preserved : goal.loop-statement-preserved
loop-statement-preserved g c = (
  step_at g.R.Draws.told c.args.moment c.args.statements.now c.loop-statement.statement-index c.statement-item.result c.bytes.result.now (g.R.Draws.words c.args.draws.now) (g.R.Draws.words c.loop-statement.draws) (g.R.Draws.words c.prepare-item.new.draws) c.loop-statement.items c.in-Ok.item c.push.new.self
      c.loop-statement-test.true c.statement-item.is c.bytes.ensures.bytes c.in_ok-push-in-Ok.ensures.ok c.loop-statement.invariant.0 c.in-Ok.ensures.prepared,
  c.in-Ok.ensures.ok ∙ c.loop-statement.invariant.1,
)

pub returns-clause-prepared : goal.returns-clause-prepared
returns-clause-prepared g c =
    done g.R.Draws.told c.args.moment c.args.statements.now c.loop-statement.statement-index (g.R.Draws.words c.args.draws.now) (g.R.Draws.words c.loop-statement.draws) c.loop-statement.items (omega (arith, c.loop-statement-test.false)) c.loop-statement.invariant.0
