use Rattle.rq_history.proofs.laws.one_vote.Goals as goal
use Rattle.rq_history.proofs.Statements.{one_vote}

pub returns : goal.returns
returns g c = λ view. one_vote view
