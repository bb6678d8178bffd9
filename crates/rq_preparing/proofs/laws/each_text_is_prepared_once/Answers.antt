use Rattle.rq_preparing.proofs.Once.{one_item, one_rest}
use Rattle.rq_preparing.proofs.laws.each_text_is_prepared_once.Goals as goal

pub returns-clause-item : goal.returns-clause-item
returns-clause-item c = one_item c.each_text_has_one_answer.ensures.one c.each_settling_is_one.ensures

pub returns-clause-rest : goal.returns-clause-rest
returns-clause-rest c = one_rest c.each_text_has_one_answer.ensures.one c.each_settling_is_one.ensures
