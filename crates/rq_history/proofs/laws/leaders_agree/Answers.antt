use Rattle.rq_history.proofs.laws.leaders_agree.Goals as goal
use Rattle.rq_history.proofs.Statements.{leaders_agree}

pub returns : goal.returns
returns g c = λ view. leaders_agree view
