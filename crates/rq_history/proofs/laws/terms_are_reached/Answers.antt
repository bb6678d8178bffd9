use Rattle.rq_history.proofs.laws.terms_are_reached.Goals as goal
use Rattle.rq_history.proofs.Statements.{terms_are_reached}

pub returns : goal.returns
returns g c = λ view. terms_are_reached view
