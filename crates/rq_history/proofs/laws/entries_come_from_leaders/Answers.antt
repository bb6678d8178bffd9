use Rattle.rq_history.proofs.laws.entries_come_from_leaders.Goals as goal
use Rattle.rq_history.proofs.Statements.{entries_come_from_leaders}

pub returns : goal.returns
returns g c = λ view. entries_come_from_leaders view
