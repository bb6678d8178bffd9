use Rattle.std.proofs.Common.{◌≡◌, ◌++◌, ◌∷◌, take, flat_map}
use Rattle.json.specs.Token.{begin_array}
use Rattle.rq_replies.specs.Output.{prefix_in, layout_in, tokens_in}
use Rattle.rq_replies.specs.Reply.{row_object}
use Rattle.rq_replies.proofs.objects.write_each.Given as goal

abbrev pub invariant-loop-row : goal.invariant-loop-row
invariant-loop-row l =
    (prefix_in l.output ≡ prefix_in l.fn.output) × (layout_in l.output ≡ layout_in l.fn.output) × (tokens_in l.output ≡ tokens_in l.fn.output ++ begin_array ∷ flat_map (row_object l.columns) (take l.row-index l.rows))
