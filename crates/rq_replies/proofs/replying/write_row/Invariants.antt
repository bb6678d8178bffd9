use Rattle.std.proofs.Common.{◌≡◌, ◌++◌, ◌∷◌, take, map}
use Rattle.json.specs.Token.{begin_array}
use Rattle.rq_replies.specs.Output.{prefix_in, layout_in, tokens_in}
use Rattle.rq_replies.specs.Reply.{value_token}
use Rattle.rq_replies.proofs.replying.write_row.Given as goal

abbrev pub invariant-loop-value : goal.invariant-loop-value
invariant-loop-value l =
    (prefix_in l.output ≡ prefix_in l.fn.output) × (layout_in l.output ≡ layout_in l.fn.output) × (tokens_in l.output ≡ tokens_in l.fn.output ++ begin_array ∷ map value_token (take l.value-index l.row))
