use Rattle.rq_select.proofs.FirstRows.{enough_if_some}
use Rattle.rq_select.proofs.stopping.enough_rows.Goals as goal

pub returns-then-is_plain : goal.returns-then-is_plain
returns-then-is_plain c = enough_if_some c.args.plan.now c.in-Some.limit (c.is_plain.ensures c.if-is_plain.true) c.in-Some.is c.behind.result c.behind.ensures
