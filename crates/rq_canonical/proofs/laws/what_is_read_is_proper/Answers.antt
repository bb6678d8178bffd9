use Rattle.rq_canonical.proofs.Again.{read_proper, read_written}
use Rattle.rq_canonical.proofs.laws.what_is_read_is_proper.Goals as goal

pub returns-clause-proper : goal.returns-clause-proper
returns-clause-proper c = read_proper c.tokens_in_order.ensures.tokens

pub returns-clause-written : goal.returns-clause-written
returns-clause-written c = read_written c.tokens_in_order.ensures.tokens
