use Rattle.std.proofs.Common.{◌≡◌, ◌++◌, take, flat_map}
use Rattle.rq_replies.specs.Output.{prefix_in, layout_in, tokens_in}
use Rattle.rq_replies.specs.Reply.{server_tokens}
use Rattle.rq_replies.proofs.servers.write_servers.Given as goal

abbrev pub invariant-loop-server : goal.invariant-loop-server
invariant-loop-server l =
    (prefix_in l.output ≡ prefix_in l.fn.output) × (layout_in l.output ≡ layout_in l.fn.output) × (tokens_in l.output ≡ tokens_in l.fn.output ++ flat_map server_tokens (take l.server-index l.servers))
