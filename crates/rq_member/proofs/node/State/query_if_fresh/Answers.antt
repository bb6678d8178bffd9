use Rattle.rq_member.proofs.Resting.{own_of}
use Rattle.rq_member.proofs.node.State.query_if_fresh.Goals as goal

pub returns-in-Err-clause-refusals : goal.returns-in-Err-clause-refusals
returns-in-Err-clause-refusals g c = own_of c.refuses.result c.refuses.ensures.refusals
