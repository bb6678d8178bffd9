use Rattle.rq_command.proofs.AnyCommand.{one_command}
use Rattle.rq_command.proofs.laws.each_input_is_decoded_as_one.Goals as goal

pub returns-clause-one : goal.returns-clause-one
returns-clause-one c = one_command c.each_text_is_read_as_one.ensures.one
