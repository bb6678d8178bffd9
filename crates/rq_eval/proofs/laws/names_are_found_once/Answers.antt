use Rattle.rq_eval.proofs.Fused.{one_fold}
use Rattle.rq_eval.proofs.laws.names_are_found_once.Goals as goal

pub returns : goal.returns
returns c = one_fold
