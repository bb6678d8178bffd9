use Rattle.rq_script.proofs.Writings.{told}
use Rattle.rq_script.proofs.laws.answers_are_noted.Goals as goal

pub returns : goal.returns
returns c = λ cluster bytes text next steps. told cluster bytes text next steps
