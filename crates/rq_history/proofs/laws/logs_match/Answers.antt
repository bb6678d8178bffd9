use Rattle.rq_history.proofs.laws.logs_match.Goals as goal
use Rattle.rq_history.proofs.Statements.{logs_match}

pub returns : goal.returns
returns g c = λ view. logs_match view
