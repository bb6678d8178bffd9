use Rattle.std.proofs.Common.{◌≡◌, ◌+◌, length}
use Rattle.serde_json.specs.View.{items_view}
use Rattle.rq_bodies.specs.Body.{statements_from, result_append}
use Rattle.rq_bodies.proofs.parsing.each_statement.Given as goal

abbrev pub invariant-loop-item : goal.invariant-loop-item
invariant-loop-item l =
    statements_from 1 (items_view l.fn.items.items) ≡ result_append l.statements.items (statements_from (length l.statements.items + 1) (items_view l.item-iterator.rest.items))
