use Rattle.std.proofs.Common.{◌≡◌}
use Rattle.rq_meaning.specs.Changes.{all_set}
use Rattle.rq_changes.proofs.assigning.set_all.Given as goal

abbrev pub invariant-loop-value : goal.invariant-loop-value
invariant-loop-value l = all_set l.left l.value-iterator.rest.items l.row.items ≡ all_set l.places l.fn.values l.initial.row.items
