use Rattle.std.proofs.Common.{length}
use Rattle.rq_lines.proofs.Cutting.{HaveRead}
use Rattle.rq_lines.proofs.names.names_of.Given as goal

abbrev pub invariant-loop-end : goal.invariant-loop-end
invariant-loop-end l = HaveRead l.fn.rest l.ids l.left

abbrev pub decreases-loop-end : goal.decreases-loop-end
decreases-loop-end l = length l.left
