use Rattle.rq_asking.proofs.OneAsk.{one_ask, one_rest}
use Rattle.rq_asking.proofs.laws.each_request_has_one_ask.Goals as goal

pub returns-clause-ask : goal.returns-clause-ask
returns-clause-ask c = one_ask c.each_text_is_prepared_once.ensures.item c.each_text_is_prepared_once.ensures.rest

pub returns-clause-rest : goal.returns-clause-rest
returns-clause-rest c = one_rest c.each_text_is_prepared_once.ensures.item c.each_text_is_prepared_once.ensures.rest
