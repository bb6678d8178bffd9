use Rattle.std.proofs.Common.{subst, sym, length, ◌<◌, arith}
use Rattle.rq_tables.proofs.Placed.{others_are, own_less}
use Rattle.rq_tables.proofs.staged.StagedTables.others.Goals as goal

pub index-requires : goal.index-requires
index-requires c = omega (arith, subst (λ es. c.args.place < length es) (sym c.self.view_is) c.requires.0, c.self.inside.entries.ok)

pub overflow_sub-result : goal.overflow_sub-result
overflow_sub-result c = own_less c.self.inside.entries.items c.args.self.now c.args.place c.index.result.now c.self.view_is c.index.ensures c.requires c.self.invariant c.size-total.result c.size-own.result c.size-total.ensures.size c.size-own.ensures.size

pub returns-clause-size : goal.returns-clause-size
returns-clause-size c = (others_are c.self.inside.entries.items c.args.self.now c.args.place c.index.result.now c.self.view_is c.index.ensures c.requires c.self.invariant c.size-total.result c.size-own.result c.size-total.ensures.size c.size-own.ensures.size).size

pub returns-clause-others : goal.returns-clause-others
returns-clause-others c = (others_are c.self.inside.entries.items c.args.self.now c.args.place c.index.result.now c.self.view_is c.index.ensures c.requires c.self.invariant c.size-total.result c.size-own.result c.size-total.ensures.size c.size-own.ensures.size).others

pub returns-clause-within : goal.returns-clause-within
returns-clause-within c = (others_are c.self.inside.entries.items c.args.self.now c.args.place c.index.result.now c.self.view_is c.index.ensures c.requires c.self.invariant c.size-total.result c.size-own.result c.size-total.ensures.size c.size-own.ensures.size).within
