-- The rule of an append as it is computed.
use Rattle.std.specs.Prelude.{ℕ, ◌+◌, ◌-◌, ◌==◌, ◌&&◌, ◌||◌, nat_le, min, Bool, true, false, if◌then◌else◌, List, [], ◌∷◌, ◌++◌, length, take, drop}
use Rattle.rq_history.specs.History.{NodeId, term_at}
use Rattle.rq_raft.specs.Entries.{Entries, entry_view}
use Rattle.rq_raft.specs.Node.{RaftNode, RaftTurn, Packet, VoteSay, Splice, unchanged, say, AppendSay}
use Rattle.rq_raft.specs.Append.{matching_count, with_commit}

-- the rules read no more of a packet than this
abbrev pub signed : {E : Type 0} → NodeId → ℕ → Packet E
signed from term = record { term = term; from = from; to = []; message = VoteSay false }

module _ {E : Type 0} (entries : Entries E) where
  -- how many of the packet's entries stand at indexes up to the commit: those are the node's own
  abbrev pub committed_of : RaftNode E → ℕ → List E → ℕ
  committed_of n prev es = min (length es) (n.commit - prev)

  abbrev pub first_missing : RaftNode E → ℕ → List E → ℕ
  first_missing n prev es = committed_of n prev es + matching_count entries n.log (prev + committed_of n prev es) (drop (committed_of n prev es) es)

  -- the log agrees at the previous index; up to the commit it does
  abbrev pub agrees : RaftNode E → ℕ → ℕ → Bool
  agrees n prev prev_term = nat_le prev n.commit || (nat_le prev (length n.log) && (term_at (entry_view entries) n.log prev == prev_term))

  -- the entries from the k-th on are put there
  abbrev pub put_rest : RaftNode E → ℕ → ℕ → List E → ℕ → RaftTurn E
  put_rest n prev commit es k = record {
    node = record (with_commit n commit (prev + length es)) { log = take (prev + k) n.log ++ drop k es };
    stored = Splice (prev + k + 1) (drop k es) ∷ [];
    packets = [];
  }

  abbrev pub take_fast : RaftNode E → ℕ → ℕ → List E → ℕ → RaftTurn E
  take_fast n prev commit es k = if k == length es then unchanged (with_commit n commit (prev + length es)) else put_rest n prev commit es k

  abbrev pub append_fast : RaftNode E → NodeId → ℕ → ℕ → ℕ → ℕ → List E → RaftTurn E
  append_fast n from prev prev_term commit probe es =
      if agrees n prev prev_term
      then say (take_fast n prev commit es (first_missing n prev es)) from (AppendSay true (prev + length es) probe)
      else say (unchanged n) from (AppendSay false (min (prev - 1) (length n.log)) probe)
