use Rattle.rq_history.proofs.laws.chosen_was_committed.Goals as goal
use Rattle.rq_history.proofs.Statements.{chosen_was_committed}

pub returns : goal.returns
returns g c = chosen_was_committed
