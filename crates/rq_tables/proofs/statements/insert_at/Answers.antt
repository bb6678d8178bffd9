use Rattle.std.specs.Option.{option_copied}
use Rattle.rq_tables.specs.Entries.{now_db}
use Rattle.rq_tables.proofs.Placed.{values_leave, select_leaves}
use Rattle.rq_tables.proofs.statements.insert_at.Goals as goal

pub returns-in-Values-clause-leaves : goal.returns-in-Values-clause-leaves
returns-in-Values-clause-leaves c = λ n p. values_leave (now_db c.args.tables.now) (now_db c.insert_values_at.new.tables) n (option_copied c.args.names) c.args.rows.now c.in-Values.rows c.as_slice.result.now c.insert_values_at.result c.in-Values.is c.as_slice.ensures (c.insert_values_at.ensures.leaves n p)

pub returns-in-Select-clause-leaves : goal.returns-in-Select-clause-leaves
returns-in-Select-clause-leaves c = λ n p. select_leaves (now_db c.args.tables.now) (now_db c.insert_select_at.new.tables) n (option_copied c.args.names) c.args.rows.now c.in-Select.stmt c.insert_select_at.result c.in-Select.is (c.insert_select_at.ensures.leaves n p)
