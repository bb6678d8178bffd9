use Rattle.rq_tables.proofs.Placed.{is_kept}
use Rattle.rq_tables.proofs.staged.StagedTables.keep.Goals as goal

pub invariant_of-self : goal.invariant_of-self
invariant_of-self c = (is_kept c.self.inside.entries.items c.args.self.now c.keep_all.new.entries.items c.sweep.new.entries.items c.self.view_is c.keep_all.ensures c.sweep.ensures c.self.invariant).sound

pub returns-clause-start : goal.returns-clause-start
returns-clause-start c = (is_kept c.self.inside.entries.items c.args.self.now c.keep_all.new.entries.items c.sweep.new.entries.items c.self.view_is c.keep_all.ensures c.sweep.ensures c.self.invariant).start

pub returns-clause-now : goal.returns-clause-now
returns-clause-now c = (is_kept c.self.inside.entries.items c.args.self.now c.keep_all.new.entries.items c.sweep.new.entries.items c.self.view_is c.keep_all.ensures c.sweep.ensures c.self.invariant).now
