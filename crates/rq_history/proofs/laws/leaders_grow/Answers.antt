use Rattle.rq_history.proofs.laws.leaders_grow.Goals as goal
use Rattle.rq_history.proofs.Statements.{leaders_grow}

pub returns : goal.returns
returns g c = λ view. leaders_grow view
