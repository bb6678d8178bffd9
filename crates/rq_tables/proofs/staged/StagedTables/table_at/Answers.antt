use Rattle.std.proofs.Common.{subst, sym, ap, length, ◌<◌, arith}
use Rattle.rq_tables.specs.declared.entry.Entry.{Entry}
use Rattle.rq_tables.proofs.Placed.{found, read_at}
use Rattle.rq_tables.proofs.staged.StagedTables.table_at.Goals as goal

pub index-requires : goal.index-requires
index-requires c = omega (arith, subst (λ es. c.args.place < length es) (sym c.self.view_is) c.requires.0, c.self.inside.entries.ok)

pub returns-clause-here : goal.returns-clause-here
returns-clause-here c = λ d. ap (λ (x : Entry). x.table) (read_at c.self.inside.entries.items c.args.self.now c.args.place c.index.result.now d c.self.view_is c.index.ensures c.requires)

pub returns-clause-table : goal.returns-clause-table
returns-clause-table c = λ n p. found c.self.inside.entries.items c.args.self.now n c.args.place c.index.result.now c.self.view_is c.index.ensures c.self.invariant p
