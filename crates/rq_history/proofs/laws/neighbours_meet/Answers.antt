use Rattle.rq_history.proofs.laws.neighbours_meet.Goals as goal
use Rattle.rq_history.proofs.Statements.{neighbours_meet}

pub returns : goal.returns
returns c = neighbours_meet
