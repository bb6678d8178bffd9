use Rattle.rq_settle.proofs.preparing.prepare.Goals as goal

pub item_of-requires-clause-proper : goal.item_of-requires-clause-proper
item_of-requires-clause-proper c = c.what_is_read_is_proper.ensures.proper c.args.text.now c.in-Ok.stmt c.in-Ok.ensures.reads

pub item_of-requires-clause-shallow : goal.item_of-requires-clause-shallow
item_of-requires-clause-shallow c = c.in-Ok.ensures.reads.1.shallow
