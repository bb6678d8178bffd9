-- What contracts see of a log and of a core.
use Rattle.std.specs.Prelude.{ℕ, ◌≤◌, ◌<◌, ◌^◌, ◌-◌, ◌≡◌, List, [], ◌∷◌, length, take, drop, Option, Some, None, Bool, not, ◌==◌, ◌&&◌}
use Rattle.rq_wire.specs.declared.config.Member.{Member}
use Rattle.rq_history.specs.History.{NodeId}
use Rattle.rq_log.specs.declared.state.State.{State}
use Rattle.rq_log.specs.declared.moves.Saying.{Saying}
use Rattle.rq_log.specs.declared.moves.Saying.TheVariants.{VoteAsk as OutVoteAsk, VoteSay as OutVoteSay, Append as OutAppend, AppendSay as OutAppendSay}
use Rattle.rq_log.specs.declared.moves.Outgoing.{Outgoing}
use Rattle.rq_log.specs.declared.moves.Moves.{Moves}
use Rattle.rq_raft.specs.Node.{RaftNode, Message, VoteAsk, VoteSay, Append, AppendSay, Packet, StoredRecord, Splice, RaftTurn, same_vote}

pub record IsSound (log commit applied : ℕ) : Type 0 where
  pub done : applied ≤ commit
  pub within : commit ≤ log

-- a core now, before its last change, and the members before any configuration
pub record CoreView (E : Type 0) : Type 0 where
  pub node : RaftNode E
  pub before : RaftNode E
  pub first : List Member

abbrev pub node_of : {E : Type 0} → NodeId → State → List E → RaftNode E
node_of id s log = record {
  id = id;
  term = s.term;
  vote = s.vote;
  log = log;
  base = 0;
  commit = s.commit;
  applied = s.applied;
  role = s.role;
  leader = s.leader;
  contact = s.contact;
  votes = s.votes;
  first_index = s.first_index;
  probe = s.probe;
  peers = s.peers;
}

-- ---- what is sent, spelled over the log

abbrev pub message_of : {E : Type 0} → List E → Saying → Message E
message_of log (OutVoteAsk i t) = VoteAsk i t
message_of log (OutVoteSay granted) = VoteSay granted
message_of log (OutAppend prev prev_term commit probe count) = Append prev prev_term commit probe (take count (drop prev log))
message_of log (OutAppendSay ok at probe) = AppendSay ok at probe

abbrev pub packet_of : {E : Type 0} → List E → Outgoing → Packet E
packet_of log p = record { term = p.term; from = p.from; to = p.to; message = message_of log p.saying }

abbrev pub spell : {E : Type 0} → List E → List Outgoing → List (Packet E)
spell log [] = []
spell log (p ∷ ps) = packet_of log p ∷ spell log ps

-- the log from an index on is stored
abbrev pub stored_of : {E : Type 0} → List E → Option ℕ → List (StoredRecord E)
stored_of log None = []
stored_of log (Some from) = Splice from (drop (from - 1) log) ∷ []

-- what a rule gave is this turn
pub record Gives {E : Type 0} (t : RaftTurn E) (now : RaftNode E) (moves : Moves) : Type 0 where
  pub node : now ≡ t.node
  pub stored : stored_of now.log moves.splice ≡ t.stored
  pub packets : spell now.log moves.packets ≡ t.packets

abbrev pub is_moved : {E : Type 0} → RaftNode E → RaftNode E → Bool
is_moved a b = not ((a.term == b.term) && same_vote a.vote b.vote)

-- no count is at its end
pub record HasRoom {E : Type 0} (n : RaftNode E) : Type 0 where
  pub log : length n.log < 2 ^ 62
  pub probe : n.probe < 2 ^ 62
  pub peers : length n.peers < 2 ^ 62
