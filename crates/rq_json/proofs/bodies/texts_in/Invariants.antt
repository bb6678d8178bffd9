use Rattle.std.proofs.Common.{◌≡◌, ◌++◌, drop}
use Rattle.std.specs.Prelude.{option_map}
use Rattle.serde_json.specs.View.{items_view}
use Rattle.rq_json.specs.Body.{texts_in}
use Rattle.rq_json.proofs.bodies.texts_in.Given as goal

abbrev pub invariant-loop-value : goal.invariant-loop-value
invariant-loop-value l =
    texts_in (items_view l.list) ≡ option_map (λ rest. l.texts ++ rest) (texts_in (items_view (drop l.value-index l.list)))
