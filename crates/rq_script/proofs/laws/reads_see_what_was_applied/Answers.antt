use Rattle.rq_script.proofs.Writings.{seen}
use Rattle.rq_script.proofs.laws.reads_see_what_was_applied.Goals as goal

pub returns : goal.returns
returns c = λ cluster bytes text next steps. seen cluster bytes text next steps
