use Rattle.rq_history.proofs.examples.early_change_is_refused.Goals as goal
use Rattle.rq_history.proofs.Runs.{early_change_is_refused}

pub returns : goal.returns
returns c = early_change_is_refused
