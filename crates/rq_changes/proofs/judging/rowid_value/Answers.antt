use Rattle.std.proofs.Common.{sym, ◌∙◌, arith}
use Rattle.rq_changes.proofs.Judged.{rowid_behind}
use Rattle.rq_changes.proofs.judging.rowid_value.Goals as goal

pub loop-i-preserved : goal.loop-i-preserved
loop-i-preserved c = rowid_behind c.args.columns.now c.args.row.now c.loop-i.i c.index-columns-i.result (omega arith) c.index-columns-i.is (sym c.is_rowid.ensures ∙ c.if-is_rowid.false) ∙ c.loop-i.invariant
