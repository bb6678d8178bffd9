use Rattle.std.proofs.Common.{◌≡◌, replicate}
use Rattle.rq_values.specs.declared.value.Value.TheVariants.{Null}
use Rattle.rq_changes.proofs.assigning.nulls.Given as goal

abbrev pub invariant-loop-i : goal.invariant-loop-i
invariant-loop-i l = l.row.items ≡ replicate l._i Null
