use Rattle.rq_tables.proofs.Placed.{is_begun}
use Rattle.rq_tables.proofs.staged.StagedTables.begin.Goals as goal

pub invariant_of-self : goal.invariant_of-self
invariant_of-self c = (is_begun c.self.inside.entries.items c.args.self.now c.begin_all.new.entries.items c.self.view_is c.begin_all.ensures c.self.invariant).sound

pub returns-clause-start : goal.returns-clause-start
returns-clause-start c = (is_begun c.self.inside.entries.items c.args.self.now c.begin_all.new.entries.items c.self.view_is c.begin_all.ensures c.self.invariant).start

pub returns-clause-before : goal.returns-clause-before
returns-clause-before c = (is_begun c.self.inside.entries.items c.args.self.now c.begin_all.new.entries.items c.self.view_is c.begin_all.ensures c.self.invariant).before

pub returns-clause-now : goal.returns-clause-now
returns-clause-now c = (is_begun c.self.inside.entries.items c.args.self.now c.begin_all.new.entries.items c.self.view_is c.begin_all.ensures c.self.invariant).now
