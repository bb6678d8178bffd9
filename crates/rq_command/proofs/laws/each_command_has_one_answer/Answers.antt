use Rattle.rq_command.proofs.Told.{one_answer}
use Rattle.rq_command.proofs.laws.each_command_has_one_answer.Goals as goal

pub returns-clause-one : goal.returns-clause-one
returns-clause-one c = one_answer c.each_text_is_read_as_one.ensures.one
