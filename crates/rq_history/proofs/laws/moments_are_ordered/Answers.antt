use Rattle.rq_history.proofs.laws.moments_are_ordered.Goals as goal
use Rattle.rq_history.proofs.Statements.{moments_are_ordered}

pub returns : goal.returns
returns g c = moments_are_ordered
