use Rattle.std.proofs.Common.{[], false}
use Rattle.rq_eval.specs.Names.{row_of}
use Rattle.rq_eval.proofs.Fused.{answered}
use Rattle.rq_eval.proofs.valuing.value.Goals as goal

pub returns-in-Ok : goal.returns-in-Ok
returns-in-Ok c = answered [] c.args.row.now.scope.now c.args.expr.now false (row_of c.args.row.now) c.in-Ok.resolved c.evaluate.result c.in-Ok.ensures c.evaluate.ensures
