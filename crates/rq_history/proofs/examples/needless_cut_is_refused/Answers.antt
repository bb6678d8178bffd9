use Rattle.rq_history.proofs.examples.needless_cut_is_refused.Goals as goal
use Rattle.rq_history.proofs.Runs.{needless_cut_is_refused}

pub returns : goal.returns
returns c = needless_cut_is_refused
