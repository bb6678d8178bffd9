use Rattle.rq_sql.proofs.OneStep.{took, took_none}
use Rattle.rq_sql.proofs.steps.take_token.Goals as goal

pub returns-in-Some : goal.returns-in-Some
returns-in-Some c = took c.args.size c.args.opened c.args.state c.args.lexer.now c.next_token.new.self c.in_ok-placed.field-0 c.in-Some.placed c.on_token.result c.in_ok-placed.ensures.next c.in-Some.is c.on_token.ensures

pub returns-in-None : goal.returns-in-None
returns-in-None c = took_none c.args.size c.args.opened c.args.state c.args.lexer.now c.next_token.new.self c.in_ok-placed.field-0 c.at_end.result c.in_ok-placed.ensures.next c.in-None.is c.at_end.ensures
