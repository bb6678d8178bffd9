use Rattle.rq_binding.proofs.Whole.{bound_bare, bound_proper, bound_shallow}
use Rattle.rq_binding.proofs.laws.what_is_bound.Goals as goal

pub returns-clause-bare : goal.returns-clause-bare
returns-clause-bare c = bound_bare

pub returns-clause-proper : goal.returns-clause-proper
returns-clause-proper c = bound_proper

pub returns-clause-shallow : goal.returns-clause-shallow
returns-clause-shallow c = bound_shallow
