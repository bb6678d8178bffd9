-- The pass of a read, and freshness: docs/RAFT.md, "Reads by a pass", "Freshness". Source: Ongaro's dissertation, section 6.4.
use Rattle.std.specs.Prelude.{ℕ, ◌-◌, ◌==◌, nat_lt, not, ◌&&◌, Bool, true, false, Option, Some, None}
use Rattle.rq_raft.specs.Node.{RaftNode, is_leader}
use Rattle.rq_raft.specs.Passes.{least_of}
use Rattle.rq_reads.specs.declared.pass.Pass.{Pass}

-- the pass of a read of this number that is asked at this leader
abbrev pub pass_of : {E : Type 0} → RaftNode E → ℕ → Pass
pass_of n id = record { id = id; least = least_of n; mark = n.probe; term = n.term }

-- longer ago than the limit; what isn't yet is now
abbrev pub is_longer_ago : Option ℕ → ℕ → ℕ → Bool
is_longer_ago None now limit = true
is_longer_ago (Some contact) now limit = nat_lt limit (now - contact)

-- a node that doesn't lead, and didn't hear of its leader within the limit; a limit of 0 is none
abbrev pub is_stale : {E : Type 0} → RaftNode E → Option ℕ → ℕ → Bool
is_stale n None now = false
is_stale n (Some limit) now = not (is_leader n.role) && not (limit == 0) && is_longer_ago n.contact now limit

abbrev pub limit_of : Option ℕ → ℕ
limit_of None = 0
limit_of (Some limit) = limit
