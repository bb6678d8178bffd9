use Rattle.rq_history.proofs.examples.older_log_is_refused.Goals as goal
use Rattle.rq_history.proofs.Runs.{older_log_is_refused}

pub returns : goal.returns
returns c = older_log_is_refused
