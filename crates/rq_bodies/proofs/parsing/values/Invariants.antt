use Rattle.std.proofs.Common.{◌≡◌, ◌+◌, length}
use Rattle.serde_json.specs.View.{items_view}
use Rattle.rq_bodies.specs.Body.{values_from, result_append}
use Rattle.rq_bodies.proofs.parsing.values.Given as goal

abbrev pub invariant-loop-item : goal.invariant-loop-item
invariant-loop-item l =
    values_from l.fn.number 1 (items_view l.fn.items.items) ≡ result_append l.found.items (values_from l.fn.number (length l.found.items + 1) (items_view l.item-iterator.rest.items))
