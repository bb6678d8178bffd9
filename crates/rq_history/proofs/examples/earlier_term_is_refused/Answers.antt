use Rattle.rq_history.proofs.examples.earlier_term_is_refused.Goals as goal
use Rattle.rq_history.proofs.Runs.{earlier_term_is_refused}

pub returns : goal.returns
returns c = earlier_term_is_refused
