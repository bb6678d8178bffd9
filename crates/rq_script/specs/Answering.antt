-- What waits at a running node is answered by the next apply. docs/RAFT.md, "What a run promises".
use Rattle.std.specs.Prelude.{◌≡◌, []}
use Rattle.rq_node.specs.Node.{Node}
use Rattle.rq_node.specs.Rules.{apply}

-- once the node has applied what is committed, no ask waits
abbrev pub AppliesAnswerAll : Node → Type 0
AppliesAnswerAll n = (apply n).node.waiting ≡ []
