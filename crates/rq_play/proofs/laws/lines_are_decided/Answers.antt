use Rattle.rq_play.proofs.Deciding.{decided}
use Rattle.rq_play.proofs.laws.lines_are_decided.Goals as goal

pub returns : goal.returns
returns c = decided c.each_text_has_one_answer.ensures.one c.each_text_is_prepared_once.ensures.rest
