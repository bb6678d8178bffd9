use Rattle.rq_history.proofs.laws.chosen_holds.Goals as goal
use Rattle.rq_history.proofs.Statements.{chosen_holds}

pub returns : goal.returns
returns g c = λ view. chosen_holds view
