use Rattle.rq_history.proofs.laws.one_leader.Goals as goal
use Rattle.rq_history.proofs.Statements.{one_leader}

pub returns : goal.returns
returns g c = λ view. one_leader view
