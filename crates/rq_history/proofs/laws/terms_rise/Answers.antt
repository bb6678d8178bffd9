use Rattle.rq_history.proofs.laws.terms_rise.Goals as goal
use Rattle.rq_history.proofs.Statements.{terms_rise}

pub returns : goal.returns
returns g c = λ view. terms_rise view
