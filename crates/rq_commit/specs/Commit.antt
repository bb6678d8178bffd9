-- Which index may be committed, by a leader's log, voters and tables: docs/RAFT.md, "Commit".
use Rattle.std.specs.Prelude.{ℕ, ◌==◌, ◌&&◌, Bool, List}
use Rattle.rq_history.specs.History.{NodeId, term_at}
use Rattle.rq_raft.specs.declared.peer.Peer.{Peer}
use Rattle.rq_raft.specs.Entries.{Entries, entry_view}
use Rattle.rq_raft.specs.Lead.{is_quorum}
use Rattle.rq_log.specs.Tally.{holds_in}

-- its entry has the leader's term, and a quorum holds it: `may_commit` of the rules, of a node's parts
abbrev pub may_commit_in : {E : Type 0} → Entries E → List E → List NodeId → List Peer → NodeId → ℕ → ℕ → Bool
may_commit_in entries log voters peers own term index = (term_at (entry_view entries) log index == term) && is_quorum voters (holds_in peers own index)
