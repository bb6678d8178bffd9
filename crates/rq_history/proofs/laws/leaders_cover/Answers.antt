use Rattle.rq_history.proofs.laws.leaders_cover.Goals as goal
use Rattle.rq_history.proofs.Statements.{leaders_cover}

pub returns : goal.returns
returns g c = λ view. leaders_cover view
