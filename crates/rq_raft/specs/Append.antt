-- A follower takes entries over: docs/RAFT.md, "Append".
use Rattle.std.specs.Prelude.{ℕ, ◌+◌, ◌-◌, ◌==◌, nat_lt, nat_le, max, min, ◌&&◌, ◌||◌, if◌then◌else◌, Bool, true, false, Some, List, [], ◌∷◌, ◌++◌, length, take, drop}
use Rattle.rq_history.specs.History.{NodeId, term_at}
use Rattle.rq_raft.specs.declared.role.Role.TheVariants.{Follower}
use Rattle.rq_raft.specs.Entries.{Entries, entry_view}
use Rattle.rq_raft.specs.Node.{RaftNode, AppendSay, Packet, Splice, RaftTurn, unchanged, say, is_leader}

-- the sender is the leader, heard at this moment
abbrev pub becomes_follower : {E : Type 0} → RaftNode E → NodeId → ℕ → RaftNode E
becomes_follower n from moment = record n { role = Follower; leader = Some from; contact = Some moment; votes = []; peers = [] }

-- the commit index that is learned, as far as the packet reaches
abbrev pub with_commit : {E : Type 0} → RaftNode E → ℕ → ℕ → RaftNode E
with_commit n commit upto = record n { commit = max n.commit (min commit upto) }

module _ {E : Type 0} (entries : Entries E) where
  -- how many of these entries are there already, the first of them at index at + 1
  abbrev pub matching_count : List E → ℕ → List E → ℕ
  matching_count log at [] = 0
  matching_count log at (e ∷ es) = if nat_lt at (length log) && (term_at (entry_view entries) log (at + 1) == entries.term_of e) then matching_count log (at + 1) es + 1 else 0

  -- the packet with this node's own entries up to its commit index
  abbrev pub corrected_term : RaftNode E → ℕ → ℕ → ℕ
  corrected_term n prev prev_term = if nat_le prev n.commit then term_at (entry_view entries) n.log prev else prev_term

  abbrev pub corrected_entries : RaftNode E → ℕ → List E → List E
  corrected_entries n prev es = take (length es) (take (n.commit - prev) (drop prev n.log)) ++ drop (n.commit - prev) es

  -- what is missing, from the first entry on that isn't there, is put there
  abbrev pub spliced : RaftNode E → ℕ → ℕ → List E → ℕ → RaftTurn E
  spliced n prev commit es k = record {
    node = record (with_commit n commit (prev + length es)) { log = take (prev + k) n.log ++ drop k es };
    stored = Splice (prev + k + 1) (drop k es) ∷ [];
    packets = [];
  }

  abbrev pub append_missing : RaftNode E → ℕ → ℕ → List E → RaftTurn E
  append_missing n prev commit es =
      if matching_count n.log prev es == length es then unchanged (with_commit n commit (prev + length es)) else spliced n prev commit es (matching_count n.log prev es)

  abbrev pub has_prev : RaftNode E → ℕ → ℕ → Bool
  has_prev n prev prev_term = (prev == 0) || (nat_le prev (length n.log) && (term_at (entry_view entries) n.log prev == prev_term))

  -- at a packet of this term, at a node that doesn't lead
  abbrev pub append_in_term : RaftNode E → NodeId → ℕ → ℕ → ℕ → ℕ → List E → RaftTurn E
  append_in_term n from prev prev_term commit probe es =
      if has_prev n prev (corrected_term n prev prev_term)
      then say (append_missing n prev commit (corrected_entries n prev es)) from (AppendSay true (prev + length es) probe)
      else say (unchanged n) from (AppendSay false (min (prev - 1) (length n.log)) probe)

  abbrev pub append : RaftNode E → ℕ → Packet E → ℕ → ℕ → ℕ → ℕ → List E → RaftTurn E
  append n moment p prev prev_term commit probe es =
      if nat_lt p.term n.term then say (unchanged n) p.from (AppendSay false 0 0)
      else if is_leader n.role then unchanged n
      else append_in_term (becomes_follower n p.from moment) p.from prev prev_term commit probe es
