use Rattle.rq_binding.proofs.Whole.{settled_fixed, settled_proper, settled_shallow}
use Rattle.rq_binding.proofs.laws.what_is_settled.Goals as goal

pub returns-clause-fixed : goal.returns-clause-fixed
returns-clause-fixed c = settled_fixed

pub returns-clause-proper : goal.returns-clause-proper
returns-clause-proper c = settled_proper

pub returns-clause-shallow : goal.returns-clause-shallow
returns-clause-shallow c = settled_shallow
