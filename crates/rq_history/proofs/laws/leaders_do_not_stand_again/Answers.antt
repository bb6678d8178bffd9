use Rattle.rq_history.proofs.laws.leaders_do_not_stand_again.Goals as goal
use Rattle.rq_history.proofs.Statements.{leaders_do_not_stand_again}

pub returns : goal.returns
returns g c = λ view. leaders_do_not_stand_again view
