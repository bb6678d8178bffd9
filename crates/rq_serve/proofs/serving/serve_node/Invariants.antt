use Rattle.rq_serve.proofs.serving.serve_node.Given as goal

-- the hub is that of the history that was just made, over the node that was just opened
abbrev pub ghosts-serve_named : goal.ghosts-serve_named
ghosts-serve_named g a = record { book = a.known.seen.book; start = a.node.state }
