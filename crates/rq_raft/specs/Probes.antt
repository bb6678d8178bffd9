-- What a turn's packets tell of the probe counter: docs/RAFT.md, "Reads by a pass".
use Rattle.std.specs.Prelude.{ℕ, ◌+◌, ◌≤◌, ◌<◌, ◌≡◌, ◌⊎◌, Option, Some, None, List, [], ◌∷◌, ⊤}
use Rattle.rq_wire.specs.declared.config.Member.{Member}
use Rattle.rq_history.specs.History.{NodeId, Node, History, Was}
use Rattle.rq_raft.specs.declared.role.Role.TheVariants.{Candidate, Leader}
use Rattle.rq_raft.specs.Entries.{Entries}
use Rattle.rq_raft.specs.declared.peer.Peer.{Peer}
use Rattle.rq_raft.specs.Node.{RaftNode, Message, VoteAsk, VoteSay, Append, AppendSay, Install, InstallSay, Packet, RaftTurn}
use Rattle.rq_raft.specs.Lead.{beat, propose}
use Rattle.rq_raft.specs.Vote.{elect}
use Rattle.rq_raft.specs.Deliver.{receive}

-- what is said of each peer that answered a probe above this one
abbrev pub AllHeard : (NodeId → Type 0) → ℕ → List Peer → Type 0
AllHeard heard mark [] = ⊤
AllHeard heard mark (p ∷ ps) = (mark < p.acked → heard p.id) × AllHeard heard mark ps

-- what may be said of a peer: nothing, or that no term above this one was seen there up to a moment
-- (a clause can't range over all properties of nodes)
pub data Hearing (E : Type 0) : Type 0 where
  Never : Hearing E
  Within : (early : History E) (term : ℕ) → Hearing E

abbrev pub heard_by : {E : Type 0} → Hearing E → NodeId → Type 0
heard_by Never v = ⊥
heard_by {E = E} (Within early term) v = (z : Node E) → Was early v z → z.term ≤ term

module _ {E : Type 0} where
  -- the message is an append with this probe
  abbrev pub HasProbe : Message E → ℕ → Type 0
  HasProbe (VoteAsk i t) probe = ⊥
  HasProbe (VoteSay granted) probe = ⊥
  HasProbe (Append prev t commit k es) probe = k ≡ probe
  HasProbe (AppendSay ok at k) probe = ⊥
  HasProbe (Install k list) probe = k ≡ probe
  HasProbe (InstallSay at k) probe = ⊥

  -- the packet that was delivered is an append of the node's term, with this probe
  abbrev pub Replies : RaftNode E → Option (Packet E) → ℕ → Type 0
  Replies n None probe = ⊥
  Replies n (Some p) probe = (p.term ≡ n.term) × HasProbe p.message probe

  abbrev pub Says : RaftNode E → Option (Packet E) → Message E → Type 0
  Says n delivered (VoteAsk i t) = ⊤
  Says n delivered (VoteSay granted) = ⊤
  Says n delivered (Append prev t commit probe es) = (n.role ≡ Leader) × (probe ≤ n.probe)
  Says n delivered (AppendSay ok at probe) = (probe ≡ 0) ⊎ Replies n delivered probe
  Says n delivered (Install probe list) = (n.role ≡ Leader) × (probe ≤ n.probe)
  Says n delivered (InstallSay at probe) = (probe ≡ 0) ⊎ Replies n delivered probe

  -- it is from this node in its term; appends are a leader's, with a probe up to its counter; a reply has the probe of what was delivered
  pub record IsSigned (n : RaftNode E) (delivered : Option (Packet E)) (q : Packet E) : Type 0 where
    pub from : q.from ≡ n.id
    pub term : q.term ≡ n.term
    pub says : Says n delivered q.message

  abbrev pub AllSigned : RaftNode E → Option (Packet E) → List (Packet E) → Type 0
  AllSigned n delivered [] = ⊤
  AllSigned n delivered (q ∷ qs) = IsSigned n delivered q × AllSigned n delivered qs

  -- the packet is a reply of this term to a probe above the mark, and then this is said of its sender
  abbrev pub SaysHeard : (NodeId → Type 0) → ℕ → ℕ → Packet E → Message E → Type 0
  SaysHeard heard mark term p (VoteAsk i t) = ⊤
  SaysHeard heard mark term p (VoteSay granted) = ⊤
  SaysHeard heard mark term p (Append prev t commit probe es) = ⊤
  SaysHeard heard mark term p (AppendSay ok at probe) = p.term ≡ term → mark < probe → heard p.from
  SaysHeard heard mark term p (Install probe list) = ⊤
  SaysHeard heard mark term p (InstallSay at probe) = p.term ≡ term → mark < probe → heard p.from

  -- a turn signs its packets; the counter of a node that leads on doesn't fall, and what is said of its peers stays so
  pub record Probes (n : RaftNode E) (delivered : Option (Packet E)) (t : RaftTurn E) : Type 0 where
    pub id : t.node.id ≡ n.id
    pub signed : AllSigned t.node delivered t.packets
    pub rises : n.role ≡ Leader → t.node.role ≡ Leader → n.probe ≤ t.node.probe

  abbrev pub Hears : RaftNode E → RaftTurn E → Type 0
  Hears n t = (hearing : Hearing E) (mark : ℕ) → (n.role ≡ Leader → AllHeard (heard_by hearing) mark n.peers) → t.node.role ≡ Leader → AllHeard (heard_by hearing) mark t.node.peers

  -- who comes to lead was a candidate of the term, or stands for the next one
  abbrev pub Comes : RaftNode E → RaftTurn E → Type 0
  Comes n t = t.node.role ≡ Leader → (n.role ≡ Leader) ⊎ ((n.role ≡ Candidate) × (t.node.term ≡ n.term)) ⊎ (t.node.term ≡ n.term + 1)

  module _ (entries : Entries E) (first : List Member) where
    pub record LeadersCome : Type 0 where
      pub elects : (n : RaftNode E) → Comes n (elect entries first n)
      pub receives : (n : RaftNode E) (moment : ℕ) (p : Packet E) → Comes n (receive entries first n moment p)

    pub record KeepProbes : Type 0 where
      pub elects : (n : RaftNode E) → Probes n None (elect entries first n) × Hears n (elect entries first n)
      pub beats : (n : RaftNode E) → Probes n None (beat entries first n) × Hears n (beat entries first n)
      pub proposes : (n : RaftNode E) (e : E) → Probes n None (propose entries first n e) × Hears n (propose entries first n e)
      pub receives : (n : RaftNode E) (moment : ℕ) (p : Packet E) → Probes n (Some p) (receive entries first n moment p)
          × ((hearing : Hearing E) (mark : ℕ) → (n.role ≡ Leader → SaysHeard (heard_by hearing) mark n.term p p.message) → (n.role ≡ Leader → AllHeard (heard_by hearing) mark n.peers) → (receive entries first n moment p).node.role ≡ Leader → AllHeard (heard_by hearing) mark (receive entries first n moment p).node.peers)
