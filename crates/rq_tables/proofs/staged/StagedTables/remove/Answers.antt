use Rattle.std.proofs.Common.{subst, sym, length, ◌<◌, arith}
use Rattle.rq_tables.proofs.Placed.{is_gone}
use Rattle.rq_tables.proofs.staged.StagedTables.remove.Goals as goal

pub index_mut-requires : goal.index_mut-requires
index_mut-requires c = omega (arith, subst (λ es. c.args.place < length es) (sym c.self.view_is) c.requires.0, c.self.inside.entries.ok)

pub invariant_of-self : goal.invariant_of-self
invariant_of-self c = (is_gone c.self.inside.entries.items c.args.self.now c.args.place c.index_mut.result.now c.self.view_is c.index_mut.ensures.value c.requires c.self.invariant).sound

pub returns-clause-gone : goal.returns-clause-gone
returns-clause-gone c = (is_gone c.self.inside.entries.items c.args.self.now c.args.place c.index_mut.result.now c.self.view_is c.index_mut.ensures.value c.requires c.self.invariant).gone

pub returns-clause-rest : goal.returns-clause-rest
returns-clause-rest c = (is_gone c.self.inside.entries.items c.args.self.now c.args.place c.index_mut.result.now c.self.view_is c.index_mut.ensures.value c.requires c.self.invariant).rest
