use Rattle.std.proofs.Common.{◌≡◌}
use Rattle.rq_wire.specs.Config.{ids_rise}
use Rattle.rq_wire.proofs.Rising.{left_from}
use Rattle.rq_wire.proofs.config.do_ids_rise.Given as goal

abbrev pub invariant-loop-i : goal.invariant-loop-i
invariant-loop-i l = ids_rise l.members ≡ left_from l.i l.members
