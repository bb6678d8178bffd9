use Rattle.rq_tables.proofs.Placed.{pushed}
use Rattle.rq_tables.proofs.staged.StagedTables.push.Goals as goal

pub invariant_of-self : goal.invariant_of-self
invariant_of-self c = (pushed c.self.inside.entries.items c.args.self.now c.push_entry.new.entries.items c.args.table c.push_entry.result c.self.view_is c.push_entry.ensures.ok c.push_entry.ensures.err c.self.invariant c.requires.new c.requires.within).sound

pub returns-clause-ok : goal.returns-clause-ok
returns-clause-ok c = (pushed c.self.inside.entries.items c.args.self.now c.push_entry.new.entries.items c.args.table c.push_entry.result c.self.view_is c.push_entry.ensures.ok c.push_entry.ensures.err c.self.invariant c.requires.new c.requires.within).ok

pub returns-clause-rest : goal.returns-clause-rest
returns-clause-rest c = (pushed c.self.inside.entries.items c.args.self.now c.push_entry.new.entries.items c.args.table c.push_entry.result c.self.view_is c.push_entry.ensures.ok c.push_entry.ensures.err c.self.invariant c.requires.new c.requires.within).rest
