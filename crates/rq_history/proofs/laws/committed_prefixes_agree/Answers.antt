use Rattle.rq_history.proofs.laws.committed_prefixes_agree.Goals as goal
use Rattle.rq_history.proofs.Statements.{committed_prefixes_agree}

pub returns : goal.returns
returns g c = λ view. committed_prefixes_agree view
