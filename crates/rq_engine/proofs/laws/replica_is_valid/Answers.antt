use Rattle.rq_engine.proofs.First.{replica_valid}
use Rattle.rq_engine.proofs.laws.replica_is_valid.Goals as goal

pub returns : goal.returns
returns c = replica_valid c.commands_keep_a_database_valid.ensures
