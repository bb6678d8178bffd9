-- What a core tells when it is asked.
use Rattle.std.specs.Prelude.{ℕ, ◌&&◌, not, bytes_eq, if◌then◌else◌, Bool, false, Option, Some, None, List, [], ◌∷◌}
use Rattle.rq_wire.specs.declared.config.Member.{Member}
use Rattle.rq_history.specs.History.{NodeId}
use Rattle.rq_raft.specs.declared.peer.Peer.{Peer}
use Rattle.rq_raft.specs.Entries.{Entries}
use Rattle.rq_raft.specs.Node.{RaftNode, Message, VoteAsk, VoteSay, Append, AppendSay, Install, InstallSay, Packet, is_leader}
use Rattle.rq_raft.specs.Vote.{higher_term, grants}

-- a leader's table of a member
abbrev pub peer_of : List Peer → NodeId → Option Peer
peer_of [] m = None
peer_of (p ∷ ps) m = if bytes_eq p.id m then Some p else peer_of ps m

-- the term whose leadership a node had and has left
abbrev pub lost_term : {E : Type 0} → RaftNode E → RaftNode E → Option ℕ
lost_term before n = if is_leader before.role && not (is_leader n.role) then Some before.term else None

module _ {E : Type 0} (entries : Entries E) (first : List Member) where
  -- whether the rules Higher and Vote grant what the packet asks for; only a request for a vote asks
  abbrev pub grants_message : RaftNode E → Packet E → Message E → Bool
  grants_message n p (VoteAsk last_index last_term) = grants entries first (higher_term n p.term) p last_index last_term
  grants_message n p (VoteSay granted) = false
  grants_message n p (Append prev prev_term commit probe es) = false
  grants_message n p (AppendSay ok at probe) = false
  grants_message n p (Install probe list) = false
  grants_message n p (InstallSay at probe) = false

  abbrev pub grants_packet : RaftNode E → Packet E → Bool
  grants_packet n p = grants_message n p p.message
