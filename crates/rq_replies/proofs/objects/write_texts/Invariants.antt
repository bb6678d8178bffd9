use Rattle.std.proofs.Common.{◌≡◌, ◌++◌, ◌∷◌, take, flat_map}
use Rattle.json.specs.Token.{begin_object}
use Rattle.rq_replies.specs.Output.{prefix_in, layout_in, tokens_in}
use Rattle.rq_replies.specs.Order.{type_under}
use Rattle.rq_replies.proofs.objects.write_texts.Given as goal

abbrev pub invariant-loop-at : goal.invariant-loop-at
invariant-loop-at l =
    (prefix_in l.output ≡ prefix_in l.fn.output) × (layout_in l.output ≡ layout_in l.fn.output) × (tokens_in l.output ≡ tokens_in l.fn.output ++ begin_object ∷ flat_map (type_under l.columns l.types) (take l.at-index l.order))
