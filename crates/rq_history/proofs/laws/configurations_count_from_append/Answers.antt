use Rattle.rq_history.proofs.laws.configurations_count_from_append.Goals as goal
use Rattle.rq_history.proofs.Statements.{configurations_count_from_append}

pub returns : goal.returns
returns g c = λ view. configurations_count_from_append view
