use Rattle.rq_history.proofs.laws.meeting_quorums_suffice.Goals as goal
use Rattle.rq_history.proofs.Statements.{meeting_quorums_suffice}

pub returns : goal.returns
returns g c = λ view. meeting_quorums_suffice view
