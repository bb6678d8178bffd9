use Rattle.std.proofs.Common.{sym, ◌∙◌}
use Rattle.rq_changes.proofs.Judged.{nulls_end}
use Rattle.rq_changes.proofs.judging.check_nulls.Goals as goal

pub returns-in-None : goal.returns-in-None
returns-in-None c = sym c.loop-i.invariant ∙ nulls_end c.args.table.now c.args.had c.args.columns.now c.args.row.now c.loop-i.i c.in-None.ensures.lookup.3
