use Rattle.rq_script.proofs.Promises.{grows}
use Rattle.rq_script.proofs.laws.the_one_log_grows.Goals as goal

pub returns : goal.returns
returns c = λ lines text c run l more next within steps. grows run l more next within steps
