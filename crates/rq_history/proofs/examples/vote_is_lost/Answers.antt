use Rattle.rq_history.proofs.examples.vote_is_lost.Goals as goal
use Rattle.rq_history.proofs.Runs.{vote_is_lost}

pub returns : goal.returns
returns c = vote_is_lost
