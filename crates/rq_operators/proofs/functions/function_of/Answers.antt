use Rattle.rq_operators.specs.Functions.{function_of}
use Rattle.rq_operators.proofs.functions.function_of.Goals as goal

pub returns : goal.returns
unfolding function_of
returns c = c.named_among.ensures
