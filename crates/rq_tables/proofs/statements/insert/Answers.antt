use Rattle.std.proofs.Common.{subst}
use Rattle.std.specs.Option.{option_copied}
use Rattle.rq_meaning.specs.Statements as spec
use Rattle.rq_tables.specs.Entries.{IsPlace, now_db}
use Rattle.rq_tables.proofs.Placed.{no_table_leaves, not_found}
use Rattle.rq_tables.proofs.statements.insert.Goals as goal

pub insert_at-requires : goal.insert_at-requires
insert_at-requires c = (subst (IsPlace c.args.tables.now c.args.name.now) c.in-Some.is c.place_of.ensures.place).0

pub returns-in-Some-clause-leaves : goal.returns-in-Some-clause-leaves
returns-in-Some-clause-leaves c = c.insert_at.ensures.leaves c.args.name.now (subst (IsPlace c.args.tables.now c.args.name.now) c.in-Some.is c.place_of.ensures.place)

pub returns-in-None-clause-leaves : goal.returns-in-None-clause-leaves
returns-in-None-clause-leaves c = no_table_leaves (now_db c.args.tables.now) (now_db c.args.tables.now) c.args.name.now (spec.inserted (now_db c.args.tables.now) (option_copied c.args.names) c.args.rows.now) c.no_table.result
    (not_found c.args.tables.now c.args.name.now (subst (IsPlace c.args.tables.now c.args.name.now) c.in-None.is c.place_of.ensures.place)) c.no_table.ensures
