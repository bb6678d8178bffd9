use Rattle.rq_history.proofs.laws.later_entries_cover.Goals as goal
use Rattle.rq_history.proofs.Statements.{later_entries_cover}

pub returns : goal.returns
returns g c = λ view. later_entries_cover view
