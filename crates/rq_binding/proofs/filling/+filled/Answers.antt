use Rattle.rq_binding.proofs.Carry.{if_ok}
use Rattle.rq_binding.proofs.Became.{call_became}
use Rattle.rq_binding.proofs.filling.+filled.Goals as goal

pub filled-returns-in-Call : goal.filled-returns-in-Call
filled-returns-in-Call t c = if_ok c.filled_call.result (λ x q. call_became c.args.sort c.in-Call.name c.in-Call.args _ c.args.expr.now c.args.left.now _ c.in-Call.is c.as_slice.ensures q) c.filled_call.ensures
