use Rattle.std.proofs.Common.{subst, sym}
use Rattle.rq_tables.specs.Entries.{IsPlace}
use Rattle.rq_tables.proofs.Placed.{not_found}
use Rattle.rq_tables.proofs.staged.StagedTables.find.Goals as goal

pub table_at-requires : goal.table_at-requires
table_at-requires c = (subst (IsPlace c.args.self.now c.args.name.now) c.in-Some.is c.place_of.ensures.place).0

pub returns-in-Some : goal.returns-in-Some
returns-in-Some c = sym (c.table_at.ensures.table c.args.name.now (subst (IsPlace c.args.self.now c.args.name.now) c.in-Some.is c.place_of.ensures.place))

pub returns-in-None : goal.returns-in-None
returns-in-None c = sym (not_found c.args.self.now c.args.name.now (subst (IsPlace c.args.self.now c.args.name.now) c.in-None.is c.place_of.ensures.place))
