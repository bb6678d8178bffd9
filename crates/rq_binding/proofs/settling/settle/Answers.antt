use Rattle.std.proofs.Common.{arith}
use Rattle.rq_binding.proofs.settling.settle.Goals as goal

-- what was settled from a statement that was read and bound
pub with_text-requires-clause-fixed : goal.with_text-requires-clause-fixed
with_text-requires-clause-fixed g c = c.what_is_settled.ensures.fixed _ _ _ _ c.in-Ok.ensures.settled.settles c.requires.bare

pub with_text-requires-clause-proper : goal.with_text-requires-clause-proper
with_text-requires-clause-proper g c = c.what_is_settled.ensures.proper _ _ _ _ c.in-Ok.ensures.settled.settles c.requires.proper

pub with_text-requires-clause-shallow : goal.with_text-requires-clause-shallow
with_text-requires-clause-shallow g c = omega (arith, c.what_is_settled.ensures.shallow _ _ _ _ c.in-Ok.ensures.settled.settles, c.requires.shallow)
