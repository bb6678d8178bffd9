use Rattle.rq_script.proofs.Answering.{all_answered}
use Rattle.rq_script.proofs.laws.applies_answer_all.Goals as goal

pub returns : goal.returns
returns c = λ lines text cluster run n is. all_answered run n is
