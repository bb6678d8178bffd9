use Rattle.rq_history.proofs.laws.chosen_grows.Goals as goal
use Rattle.rq_history.proofs.Statements.{chosen_grows}

pub returns : goal.returns
returns g c = λ view. chosen_grows view
