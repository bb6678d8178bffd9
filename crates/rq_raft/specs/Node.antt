-- A node as far as it agrees with others, what it sends, what it stores, and what a rule gives: docs/RAFT.md, "The node".
use Rattle.std.specs.Prelude.{ℕ, ◌-◌, ◌==◌, ◌&&◌, if◌then◌else◌, bytes_eq, Bool, true, false, Option, Some, None, List, [], ◌∷◌, ◌++◌, take}
use Rattle.rq_history.specs.History.{NodeId}
use Rattle.rq_raft.specs.declared.peer.Peer.{Peer}
use Rattle.rq_raft.specs.declared.role.Role.{Role}
use Rattle.rq_raft.specs.declared.role.Role.TheVariants.{Follower, Candidate, Leader}

-- Raft, Figure 2, State; the log counts from index 1
pub record RaftNode (E : Type 0) : Type 0 where
  pub id : NodeId
  pub term : ℕ
  pub vote : Option NodeId
  pub log : List E
  pub base : ℕ  -- the snapshot holds the entries up to this index, and the log's file those behind it
  pub commit : ℕ
  pub applied : ℕ
  pub role : Role
  pub leader : Option NodeId  -- known in this term
  pub contact : Option ℕ  -- the moment at which the leader was last heard
  pub votes : List NodeId  -- a candidate's
  pub first_index : ℕ  -- a leader's first entry of its term
  pub probe : ℕ  -- a leader counts what it sends
  pub peers : List Peer  -- a leader's, in rising order of ids

pub data Message (E : Type 0) : Type 0 where
  VoteAsk : (last_index last_term : ℕ) → Message E
  VoteSay : (granted : Bool) → Message E
  Append : (prev_index prev_term commit probe : ℕ) (entries : List E) → Message E
  AppendSay : (ok : Bool) (at probe : ℕ) → Message E
  Install : (probe : ℕ) (list : List E) → Message E  -- a snapshot of what these entries make, with their number and the last one's term
  InstallSay : (at probe : ℕ) → Message E

pub record Packet (E : Type 0) : Type 0 where
  pub term : ℕ
  pub from : NodeId
  pub to : NodeId
  pub message : Message E

-- what a rule makes durable
pub data StoredRecord (E : Type 0) : Type 0 where
  Vote : (term : ℕ) (vote : Option NodeId) → StoredRecord E
  Splice : (from : ℕ) (entries : List E) → StoredRecord E  -- the log from this index on is these entries
  Boot : (boot : ℕ) → StoredRecord E
  Replace : (base : ℕ) (log : List E) → StoredRecord E  -- a snapshot of the first entries of this log, and the rest of it behind that, in a new file

-- what of a node outlives a stop
pub record Persistent (E : Type 0) : Type 0 where
  pub term : ℕ
  pub vote : Option NodeId
  pub boot : ℕ
  pub base : ℕ
  pub log : List E

abbrev pub persistent_with : {E : Type 0} → Persistent E → StoredRecord E → Persistent E
persistent_with kept (Vote term vote) = record kept { term = term; vote = vote }
persistent_with kept (Splice from entries) = record kept { log = take (from - 1) kept.log ++ entries }
persistent_with kept (Boot boot) = record kept { boot = boot }
persistent_with kept (Replace base log) = record kept { base = base; log = log }

-- and with several, in order
abbrev pub persistent_after : {E : Type 0} → Persistent E → List (StoredRecord E) → Persistent E
persistent_after kept [] = kept
persistent_after kept (item ∷ items) = persistent_after (persistent_with kept item) items

-- the node after a rule, what it stores behind its vote, in order, and its packets, in order
pub record RaftTurn (E : Type 0) : Type 0 where
  pub node : RaftNode E
  pub stored : List (StoredRecord E)
  pub packets : List (Packet E)

-- nothing but the node changes
abbrev pub unchanged : {E : Type 0} → RaftNode E → RaftTurn E
unchanged n = record { node = n; stored = []; packets = [] }

abbrev pub packet : {E : Type 0} → RaftNode E → NodeId → Message E → Packet E
packet n to message = record { term = n.term; from = n.id; to = to; message = message }

-- one packet more
abbrev pub say : {E : Type 0} → RaftTurn E → NodeId → Message E → RaftTurn E
say t to message = record t { packets = t.packets ++ packet t.node to message ∷ [] }

abbrev pub same_vote : Option NodeId → Option NodeId → Bool
same_vote None None = true
same_vote None (Some b) = false
same_vote (Some a) None = false
same_vote (Some a) (Some b) = bytes_eq a b

-- all that a turn makes durable: its vote first, if term or vote changed
abbrev pub all_stored : {E : Type 0} → RaftNode E → RaftTurn E → List (StoredRecord E)
all_stored n t = if (n.term == t.node.term) && same_vote n.vote t.node.vote then t.stored else Vote t.node.term t.node.vote ∷ t.stored

abbrev pub is_leader : Role → Bool
is_leader Follower = false
is_leader Candidate = false
is_leader Leader = true

abbrev pub is_candidate : Role → Bool
is_candidate Follower = false
is_candidate Candidate = true
is_candidate Leader = false

abbrev pub one_of : List NodeId → NodeId → Bool
one_of [] i = false
one_of (j ∷ js) i = if bytes_eq i j then true else one_of js i

-- whether one of the peers has this id and passes
abbrev pub has_peer : (Peer → Bool) → List Peer → NodeId → Bool
has_peer test [] m = false
has_peer test (p ∷ ps) m = if bytes_eq p.id m && test p then true else has_peer test ps m

-- the peer of this id is changed
abbrev pub with_peer : (Peer → Peer) → NodeId → List Peer → List Peer
with_peer change m [] = []
with_peer change m (p ∷ ps) = (if bytes_eq p.id m then change p else p) ∷ with_peer change m ps

-- a node that starts with what it keeps: a follower that knows of no leader, and of no commit beyond its snapshot
abbrev pub started : {E : Type 0} → NodeId → Persistent E → RaftNode E
started id kept = record {
  id = id;
  term = kept.term;
  vote = kept.vote;
  log = kept.log;
  base = kept.base;
  commit = kept.base;
  applied = kept.base;
  role = Follower;
  leader = None;
  contact = None;
  votes = [];
  first_index = 0;
  probe = 0;
  peers = [];
}
