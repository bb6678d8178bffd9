-- An aggregate over rows. What it has so far, and with one more value, `rq_operators` says.
use Rattle.std.specs.Prelude.{List, [], ◌∷◌, Ok}
use Rattle.rq_values.specs.declared.value.Value.{Value}
use Rattle.rq_operators.specs.declared.operators.AggregateOp.{AggregateOp}
use Rattle.rq_operators.specs.Aggregates.{one_more}
use Rattle.rq_eval.specs.Outcome.{Outcome, then_with, stated}
use Rattle.rq_eval.specs.Names.{Row}

-- row by row: the argument's value, and then what there is with it
abbrev pub over : AggregateOp → (Row → Outcome Value) → Value → List Row → Outcome Value
over h x so_far [] = Ok so_far
over h x so_far (r ∷ rs) = then_with (x r) (λ y. then_with (stated (one_more h so_far y)) (λ z. over h x z rs))
