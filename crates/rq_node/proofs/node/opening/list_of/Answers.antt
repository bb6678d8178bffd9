use Rattle.rq_node.proofs.Readable.{command_is, readable_is, the_items, the_error}
use Rattle.rq_node.proofs.Refusals.{no_command}
use Rattle.rq_node.proofs.node.opening.list_of.Goals as goal

pub returns-in-Ok-clause-ok : goal.returns-in-Ok-clause-ok
returns-in-Ok-clause-ok c = λ items readable is. the_items c.decode_execute.result c.in-Ok.items items c.in-Ok.is (c.decode_execute.ensures.complete items is (command_is items readable))

pub returns-in-Err-clause-refused : goal.returns-in-Err-clause-refused
returns-in-Err-clause-refused c = λ items readable is. c.no_command.ensures.no_memory (the_error c.decode_execute.result c.in-Err.error items c.in-Err.is (c.decode_execute.ensures.complete items is (command_is items readable)))

pub returns-in-Ok-clause-readable : goal.returns-in-Ok-clause-readable
returns-in-Ok-clause-readable c = readable_is c.args.command.now c.in-Ok.items c.in-Ok.ensures.ok.0 c.if-command.false c.in-Ok.ensures.ok.1

pub returns-in-Err-clause-wrong : goal.returns-in-Err-clause-wrong
returns-in-Err-clause-wrong c = no_command c.args.command.now c.args.index c.decode_execute.result c.in-Err.error c.no_command.result c.decode_execute.ensures.answer c.in-Err.is c.no_command.ensures.told
