-- A packet comes in, or an entry is applied: docs/RAFT.md, "Far", "Deliver", "Apply".
use Rattle.std.specs.Prelude.{ℕ, suc, zero, ◌+◌, ◌^◌, nat_lt, nat_le, if◌then◌else◌, Bool, true, false, List, length}
use Rattle.rq_wire.specs.declared.config.Member.{Member}
use Rattle.rq_raft.specs.Entries.{Entries}
use Rattle.rq_raft.specs.Node.{RaftNode, Message, VoteAsk, VoteSay, Append, AppendSay, Install, InstallSay, Packet, RaftTurn, unchanged}
use Rattle.rq_raft.specs.Lead.{append_reply}
use Rattle.rq_raft.specs.Vote.{higher_term, vote_request, vote_reply}
use Rattle.rq_raft.specs.Append.{append}
use Rattle.rq_raft.specs.Install.{install}

-- Far: beyond what an index can be
abbrev pub is_far : {E : Type 0} → Message E → Bool
is_far (VoteAsk last_index last_term) = false
is_far (VoteSay granted) = false
is_far (Append prev prev_term commit probe es) = nat_le (2 ^ 62) prev
is_far (AppendSay ok at probe) = false
is_far (Install probe list) = nat_le (2 ^ 62) (length list)
is_far (InstallSay at probe) = false

-- Apply: one entry more, where it is committed
abbrev pub applied_next : {E : Type 0} → RaftNode E → RaftNode E
applied_next n = if nat_lt n.applied n.commit then record n { applied = n.applied + 1 } else n

-- so many, as far as entries are committed
abbrev pub applied_times : {E : Type 0} → ℕ → RaftNode E → RaftNode E
applied_times zero n = n
applied_times (suc k) n = applied_next (applied_times k n)

module _ {E : Type 0} (entries : Entries E) (first : List Member) where
  abbrev pub by_message : RaftNode E → ℕ → Packet E → Message E → RaftTurn E
  by_message n moment p (VoteAsk last_index last_term) = vote_request entries first n p last_index last_term
  by_message n moment p (VoteSay granted) = vote_reply entries first n p granted
  by_message n moment p (Append prev prev_term commit probe es) = append entries n moment p prev prev_term commit probe es
  by_message n moment p (AppendSay ok at probe) = append_reply entries first n p ok at probe
  by_message n moment p (Install probe list) = install entries n moment p probe list
  by_message n moment p (InstallSay at probe) = append_reply entries first n p true at probe

  -- what is far changes nothing; a higher term comes first
  abbrev pub receive : RaftNode E → ℕ → Packet E → RaftTurn E
  receive n moment p = if is_far p.message then unchanged n else by_message (higher_term n p.term) moment p p.message
