use Rattle.std.proofs.Common.{◌≡◌, ◌++◌, take, drop}
use Rattle.rq_replies.specs.Order.{place}
use Rattle.rq_replies.proofs.objects.spot_of.Given as goal

abbrev pub invariant-loop-position : goal.invariant-loop-position
invariant-loop-position l =
    place l.headings l.at l.order ≡ take l.position l.order ++ place l.headings l.at (drop l.position l.order)
