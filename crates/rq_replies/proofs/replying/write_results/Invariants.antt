use Rattle.std.proofs.Common.{◌≡◌, ◌++◌, ◌∷◌, take, flat_map, codes}
use Rattle.json.specs.Token.{begin_array, key}
use Rattle.rq_replies.specs.Output.{prefix_in, layout_in, tokens_in}
use Rattle.rq_replies.specs.Reply.{result_tokens}
use Rattle.rq_replies.proofs.replying.write_results.Given as goal

abbrev pub invariant-loop-res : goal.invariant-loop-res
invariant-loop-res l =
    (prefix_in l.output ≡ prefix_in l.fn.output) × (layout_in l.output ≡ layout_in l.fn.output) × (tokens_in l.output ≡ tokens_in l.fn.output ++ key (codes "results") ∷ begin_array ∷ flat_map (result_tokens l.fn.associative) (take l.res-index l.results))
