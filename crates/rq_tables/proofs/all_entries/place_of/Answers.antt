use Rattle.std.proofs.Common.{sym, ◌∙◌}
use Rattle.rq_tables.proofs.Below.{none_more}
use Rattle.rq_tables.proofs.all_entries.place_of.Goals as goal

pub loop-i-preserved : goal.loop-i-preserved
loop-i-preserved c = none_more c.args.entries.now c.args.name.now c.loop-i.i c.index-entries-i.result c.loop-i-test.true c.index-entries-i.is (sym c.is_named.ensures ∙ c.if-is_named.false) c.loop-i.invariant
