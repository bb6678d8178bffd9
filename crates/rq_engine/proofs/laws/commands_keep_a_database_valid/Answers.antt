use Rattle.rq_engine.proofs.Keeping.{run_keeps}
use Rattle.rq_engine.proofs.laws.commands_keep_a_database_valid.Goals as goal

pub returns : goal.returns
returns c = run_keeps c.statements_keep_a_database_valid.ensures
