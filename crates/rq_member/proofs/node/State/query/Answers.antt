use Rattle.rq_member.proofs.Resting.{own_of}
use Rattle.rq_member.proofs.node.State.query.Goals as goal

pub returns-clause-refusals : goal.returns-clause-refusals
returns-clause-refusals g c = own_of c.says.result c.says.ensures.refusals
