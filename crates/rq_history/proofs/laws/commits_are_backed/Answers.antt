use Rattle.rq_history.proofs.laws.commits_are_backed.Goals as goal
use Rattle.rq_history.proofs.Statements.{commits_are_backed}

pub returns : goal.returns
returns g c = λ view. commits_are_backed view
