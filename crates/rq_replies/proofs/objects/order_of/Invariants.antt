use Rattle.std.proofs.Common.{◌≡◌}
use Rattle.rq_replies.specs.Order.{order_to}
use Rattle.rq_replies.proofs.objects.order_of.Given as goal

abbrev pub invariant-loop-at : goal.invariant-loop-at
invariant-loop-at l = l.order.items ≡ order_to l.headings l.at
