use Rattle.rq_history.proofs.laws.votes_tell.Goals as goal
use Rattle.rq_history.proofs.Statements.{votes_tell}

pub returns : goal.returns
returns g c = λ view. votes_tell view
