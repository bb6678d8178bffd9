use Rattle.rq_history.proofs.laws.leaders_are_complete.Goals as goal
use Rattle.rq_history.proofs.Statements.{leaders_are_complete}

pub returns : goal.returns
returns g c = λ view. leaders_are_complete view
