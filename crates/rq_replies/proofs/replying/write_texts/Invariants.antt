use Rattle.std.proofs.Common.{◌≡◌, ◌++◌, ◌∷◌, take, map}
use Rattle.json.specs.Token.{begin_array, key, string}
use Rattle.rq_replies.specs.Output.{prefix_in, layout_in, tokens_in}
use Rattle.rq_replies.proofs.replying.write_texts.Given as goal

abbrev pub invariant-loop-text : goal.invariant-loop-text
invariant-loop-text l =
    (prefix_in l.output ≡ prefix_in l.fn.output) × (layout_in l.output ≡ layout_in l.fn.output) × (tokens_in l.output ≡ tokens_in l.fn.output ++ key l.name ∷ begin_array ∷ map string (take l.text-index l.texts))
