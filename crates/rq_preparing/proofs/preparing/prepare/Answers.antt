use Rattle.rq_preparing.proofs.Readying.{unread_took}
use Rattle.rq_preparing.proofs.preparing.prepare.Goals as goal

pub bound_item-item-requires-clause-proper : goal.bound_item-item-requires-clause-proper
bound_item-item-requires-clause-proper g c κs within = c.what_is_read_is_proper.ensures.proper c.args.text.now c.in-Ok.stmt c.in-Ok.ensures.reads

pub bound_item-item-requires-clause-shallow : goal.bound_item-item-requires-clause-shallow
bound_item-item-requires-clause-shallow g c κs within = c.in-Ok.ensures.reads.1.shallow

pub returns-in-Err-NoMemory-clause-took : goal.returns-in-Err-NoMemory-clause-took
returns-in-Err-NoMemory-clause-took g c = unread_took c.each_text_has_one_answer.ensures.some _ c.args.text.now _ _ _
