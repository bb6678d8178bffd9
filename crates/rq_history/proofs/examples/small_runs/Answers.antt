use Rattle.rq_history.proofs.examples.small_runs.Goals as goal
use Rattle.rq_history.proofs.Runs.{examples}

pub returns : goal.returns
returns c = examples
