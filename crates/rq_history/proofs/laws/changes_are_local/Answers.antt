use Rattle.rq_history.proofs.laws.changes_are_local.Goals as goal
use Rattle.rq_history.proofs.Statements.{changes_are_local}

pub returns : goal.returns
returns g c = changes_are_local
