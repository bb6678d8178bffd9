-- Elections: docs/RAFT.md, "Higher", "Elect", "Vote", "Vote reply".
use Rattle.std.specs.Prelude.{ℕ, ◌+◌, ◌-◌, ◌^◌, ◌==◌, nat_lt, nat_le, not, ◌&&◌, ◌||◌, if◌then◌else◌, bytes_eq, Bool, true, false, Option, Some, None, List, [], ◌∷◌, length, map, filter}
use Rattle.rq_wire.specs.declared.config.Member.{Member}
use Rattle.rq_history.specs.History.{NodeId, last_term}
use Rattle.rq_raft.specs.declared.role.Role.TheVariants.{Follower, Candidate}
use Rattle.rq_raft.specs.Entries.{Entries, entry_view}
use Rattle.rq_raft.specs.Node.{RaftNode, VoteAsk, VoteSay, Packet, RaftTurn, unchanged, packet, say, is_leader, is_candidate, one_of}
use Rattle.rq_raft.specs.Lead.{voters_now, is_quorum, leading}

-- Higher: a packet of a higher term
abbrev pub higher_term : {E : Type 0} → RaftNode E → ℕ → RaftNode E
higher_term n term = if nat_lt n.term term then record n { term = term; vote = None; role = Follower; leader = None; votes = []; peers = [] } else n

-- Elect: the next term, a vote for itself, and a request to every other voter; with its own vote a quorum, the node leads
abbrev pub becomes_candidate : {E : Type 0} → RaftNode E → RaftNode E
becomes_candidate n = record n { term = n.term + 1; vote = Some n.id; leader = None; role = Candidate; votes = n.id ∷ [] }

-- Vote: granted where no other has the vote in this term, and the asker's log is no older
abbrev pub may_vote : Option NodeId → NodeId → Bool
may_vote None c = true
may_vote (Some v) c = bytes_eq v c

module _ {E : Type 0} (entries : Entries E) (first : List Member) where
  abbrev pub is_elected : RaftNode E → Bool
  is_elected n = is_quorum (voters_now entries first n) (one_of n.votes)

  abbrev pub vote_asks : RaftNode E → RaftTurn E
  vote_asks n = record {
    node = n;
    stored = [];
    packets = map (λ (m : NodeId). packet n m (VoteAsk (length n.log) (last_term (entry_view entries) n.log))) (filter (λ (m : NodeId). not (bytes_eq m n.id)) (voters_now entries first n));
  }

  abbrev pub campaigns : RaftNode E → RaftTurn E
  campaigns n = if is_elected n then leading entries first n else vote_asks n

  abbrev pub elect : RaftNode E → RaftTurn E
  elect n = if is_leader n.role || not (one_of (voters_now entries first n) n.id) || (n.term == 2 ^ 64 - 1) then unchanged n else campaigns (becomes_candidate n)

  abbrev pub is_newer : RaftNode E → ℕ → ℕ → Bool
  is_newer n last_index of_term = nat_lt (last_term (entry_view entries) n.log) of_term || ((last_term (entry_view entries) n.log == of_term) && nat_le (length n.log) last_index)

  abbrev pub grants : RaftNode E → Packet E → ℕ → ℕ → Bool
  grants n p last_index of_term = (n.term == p.term) && may_vote n.vote p.from && is_newer n last_index of_term

  abbrev pub vote_request : RaftNode E → Packet E → ℕ → ℕ → RaftTurn E
  vote_request n p last_index of_term =
      if grants n p last_index of_term then say (unchanged (record n { vote = Some p.from })) p.from (VoteSay true)
      else say (unchanged n) p.from (VoteSay false)

  -- Vote reply: a vote from a voter is counted once; with a quorum the node leads
  abbrev pub counted : RaftNode E → RaftTurn E
  counted n = if is_elected n then leading entries first n else unchanged n

  abbrev pub counts : RaftNode E → Packet E → Bool → Bool
  counts n p granted = is_candidate n.role && (n.term == p.term) && granted && one_of (voters_now entries first n) p.from && not (one_of n.votes p.from)

  abbrev pub vote_reply : RaftNode E → Packet E → Bool → RaftTurn E
  vote_reply n p granted = if counts n p granted then counted (record n { votes = p.from ∷ n.votes }) else unchanged n
