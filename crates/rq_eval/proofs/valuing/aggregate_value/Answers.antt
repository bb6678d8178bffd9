use Rattle.std.proofs.Common.{map, true}
use Rattle.rq_eval.specs.Names.{row_of}
use Rattle.rq_eval.specs.Value.{no_row}
use Rattle.rq_eval.proofs.Fused.{answered}
use Rattle.rq_eval.proofs.valuing.aggregate_value.Goals as goal

pub returns-in-Ok : goal.returns-in-Ok
returns-in-Ok c = answered (map row_of c.args.rows.now) c.args.scope.now c.args.expr.now true no_row c.in-Ok.resolved c.evaluate.result c.in-Ok.ensures c.evaluate.ensures
