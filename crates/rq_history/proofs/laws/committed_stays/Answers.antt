use Rattle.rq_history.proofs.laws.committed_stays.Goals as goal
use Rattle.rq_history.proofs.Statements.{committed_stays}

pub returns : goal.returns
returns g c = λ view. committed_stays view
