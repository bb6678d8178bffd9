-- Reads by a pass, and freshness: docs/RAFT.md, "Reads". Source: Ongaro's dissertation, section 6.4.
use Rattle.std.specs.Prelude.{ℕ, ◌-◌, ◌==◌, max, nat_lt, nat_le, not, ◌&&◌, bytes_eq, if◌then◌else◌, Bool, true, false, Option, Some, None, List}
use Rattle.rq_wire.specs.declared.config.Member.{Member}
use Rattle.rq_history.specs.History.{NodeId}
use Rattle.rq_raft.specs.declared.peer.Peer.{Peer}
use Rattle.rq_raft.specs.Node.{RaftNode, RaftTurn, is_leader, has_peer}
use Rattle.rq_raft.specs.Lead.{voters_now, is_quorum, beat}
use Rattle.rq_world.specs.declared.log_entry.LogEntry.{LogEntry}
use Rattle.rq_world.specs.Node.{Pass, log_entries}

-- the pass of a read that is asked at this leader: it must apply all that it knows to be committed, and its term's first entry
abbrev pub pass_of : RaftNode LogEntry → ℕ → Pass
pass_of n id = record { id = id; least = max n.commit n.first_index; mark = n.probe; term = n.term }

module _ (first : List Member) where
  -- its probes go to every other member, as at a beat
  abbrev pub begin : RaftNode LogEntry → RaftTurn LogEntry
  begin n = beat log_entries first n

  -- the voter is the node itself, or has answered a probe above the mark
  abbrev pub confirms : RaftNode LogEntry → ℕ → NodeId → Bool
  confirms n mark v = if bytes_eq v n.id then true else has_peer (λ (p : Peer). nat_lt mark p.acked) n.peers v

  abbrev pub is_confirmed : RaftNode LogEntry → ℕ → Bool
  is_confirmed n mark = is_quorum (voters_now log_entries first n) (confirms n mark)

  -- the node still leads the pass's term, and a quorum has answered since
  abbrev pub is_ready : RaftNode LogEntry → Pass → Bool
  is_ready n pass = is_leader n.role && (n.term == pass.term) && is_confirmed n pass.mark

  -- it is answered once it is ready and what it needs is applied
  abbrev pub is_due : RaftNode LogEntry → Pass → Bool
  is_due n pass = is_ready n pass && nat_le pass.least n.applied

-- ---- freshness

-- longer ago than the limit; what isn't yet is now
abbrev pub is_longer_ago : Option ℕ → ℕ → ℕ → Bool
is_longer_ago None now limit = true
is_longer_ago (Some contact) now limit = nat_lt limit (now - contact)

-- a node that doesn't lead, and didn't hear of its leader within the limit; a limit of 0 is none
abbrev pub is_stale : RaftNode LogEntry → Option ℕ → ℕ → Bool
is_stale n None now = false
is_stale n (Some limit) now = not (is_leader n.role) && not (limit == 0) && is_longer_ago n.contact now limit

abbrev pub limit_of : Option ℕ → ℕ
limit_of None = 0
limit_of (Some limit) = limit
