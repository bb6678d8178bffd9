use Rattle.std.proofs.Common.{◌≡◌, ◌++◌, drop}
use Rattle.rq_changes.specs.Staged.{now_of}
use Rattle.rq_changes.specs.Stepping.{sets_resolved}
use Rattle.rq_changes.proofs.updating.resolved_sets.Given as goal

abbrev pub invariant-loop-set : goal.invariant-loop-set
invariant-loop-set l = l.all ++ sets_resolved (now_of l.table) (drop l.set-index l.sets) ≡ sets_resolved (now_of l.table) l.sets
