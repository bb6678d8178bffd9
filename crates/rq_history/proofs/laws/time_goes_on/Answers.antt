use Rattle.rq_history.proofs.laws.time_goes_on.Goals as goal
use Rattle.rq_history.proofs.Statements.{time_goes_on}

pub returns : goal.returns
returns g c = λ view. time_goes_on view
