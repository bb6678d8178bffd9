use Rattle.rq_tables.proofs.Placed.{is_back}
use Rattle.rq_tables.proofs.staged.StagedTables.take_back.Goals as goal

pub invariant_of-self : goal.invariant_of-self
invariant_of-self c = (is_back c.self.inside.entries.items c.args.self.now c.take_each_back.new.entries.items c.self.view_is c.take_each_back.ensures c.self.invariant).sound

pub returns-clause-start : goal.returns-clause-start
returns-clause-start c = (is_back c.self.inside.entries.items c.args.self.now c.take_each_back.new.entries.items c.self.view_is c.take_each_back.ensures c.self.invariant).start

pub returns-clause-now : goal.returns-clause-now
returns-clause-now c = (is_back c.self.inside.entries.items c.args.self.now c.take_each_back.new.entries.items c.self.view_is c.take_each_back.ensures c.self.invariant).now
