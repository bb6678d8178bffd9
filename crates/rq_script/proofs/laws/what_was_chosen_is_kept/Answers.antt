use Rattle.rq_script.proofs.Promises.{kept}
use Rattle.rq_script.proofs.laws.what_was_chosen_is_kept.Goals as goal

pub returns : goal.returns
returns c = λ lines text c run s is. kept run s is
