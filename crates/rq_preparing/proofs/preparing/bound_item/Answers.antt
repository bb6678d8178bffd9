use Rattle.std.proofs.Common.{arith}
use Rattle.rq_preparing.proofs.preparing.bound_item.Goals as goal

pub settled_item-item-requires-clause-bare : goal.settled_item-item-requires-clause-bare
settled_item-item-requires-clause-bare g c κs within = c.what_is_bound.ensures.bare c.args.stmt.now c.args.params.now c.in-Ok.bound c.know_params.ensures c.in-Ok.ensures.bound

pub settled_item-item-requires-clause-proper : goal.settled_item-item-requires-clause-proper
settled_item-item-requires-clause-proper g c κs within = c.what_is_bound.ensures.proper c.args.stmt.now c.args.params.now c.in-Ok.bound c.know_params.ensures c.in-Ok.ensures.bound c.requires.proper

pub settled_item-item-requires-clause-shallow : goal.settled_item-item-requires-clause-shallow
settled_item-item-requires-clause-shallow g c κs = omega (arith, c.what_is_bound.ensures.shallow c.args.stmt.now c.args.params.now c.in-Ok.bound c.know_params.ensures c.in-Ok.ensures.bound, c.requires.shallow)
