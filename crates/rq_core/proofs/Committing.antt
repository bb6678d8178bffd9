-- What may be committed, by a node and by its parts.
use Rattle.std.proofs.Common.{◌≡◌, ℕ, ◌-◌, List, length, ap, ◌∙◌}
use Rattle.rq_wire.specs.declared.config.Member.{Member}
use Rattle.rq_history.specs.Configurations.{greatest}
use Rattle.rq_raft.specs.declared.peer.Peer.{Peer}
use Rattle.rq_raft.specs.Entries.{Entries, voters, configuration}
use Rattle.rq_raft.specs.Node.{RaftNode}
use Rattle.rq_raft.specs.Lead.{may_commit}
use Rattle.rq_commit.specs.Commit.{may_commit_in}

pub reached_here : {E : Type 0} (entries : Entries E) (first : List Member) (n : RaftNode E) (members : List Member) (peers : List Peer) (reached : ℕ) → members ≡ configuration entries first n.log → peers ≡ n.peers
    → reached ≡ greatest (may_commit_in entries n.log (voters members) peers n.id n.term) n.commit (length n.log - n.commit) → reached ≡ greatest (may_commit entries first n) n.commit (length n.log - n.commit)
reached_here entries first n members peers reached same_members same_peers is =
    is ∙ (ap (λ (ms : List Member). greatest (may_commit_in entries n.log (voters ms) peers n.id n.term) n.commit (length n.log - n.commit)) same_members
    ∙ ap (λ (ps : List Peer). greatest (may_commit_in entries n.log (voters (configuration entries first n.log)) ps n.id n.term) n.commit (length n.log - n.commit)) same_peers)
