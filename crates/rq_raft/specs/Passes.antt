-- Reads by a pass: docs/RAFT.md, "Reads by a pass". Source: Ongaro's dissertation, section 6.4.
use Rattle.std.specs.Prelude.{ℕ, ◌==◌, max, nat_lt, ◌&&◌, bytes_eq, if◌then◌else◌, Bool, true, List}
use Rattle.rq_wire.specs.declared.config.Member.{Member}
use Rattle.rq_history.specs.History.{NodeId}
use Rattle.rq_raft.specs.Entries.{Entries}
use Rattle.rq_raft.specs.declared.peer.Peer.{Peer}
use Rattle.rq_raft.specs.Node.{RaftNode, is_leader, has_peer}
use Rattle.rq_raft.specs.Lead.{voters_now, is_quorum}

-- what a read that is asked at this leader must see applied: all that it knows to be committed, and its term's first entry
abbrev pub least_of : {E : Type 0} → RaftNode E → ℕ
least_of n = max n.commit n.first_index

-- the voter is the node itself, or has answered a probe above the mark
abbrev pub confirms : {E : Type 0} → RaftNode E → ℕ → NodeId → Bool
confirms n mark v = if bytes_eq v n.id then true else has_peer (λ (p : Peer). nat_lt mark p.acked) n.peers v

module _ {E : Type 0} (entries : Entries E) (first : List Member) where
  abbrev pub is_confirmed : RaftNode E → ℕ → Bool
  is_confirmed n mark = is_quorum (voters_now entries first n) (confirms n mark)

  -- the node still leads that term, and a quorum has answered since
  abbrev pub is_ready : RaftNode E → ℕ → ℕ → Bool
  is_ready n term mark = is_leader n.role && (n.term == term) && is_confirmed n mark
