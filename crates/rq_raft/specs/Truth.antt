-- What is true of a node and of a packet, by the history of all nodes so far: docs/RAFT.md, "Why it is safe".
use Rattle.std.specs.Prelude.{ℕ, ◌+◌, ◌-◌, ◌++◌, ◌≤◌, ◌<◌, ◌≡◌, ◌≢◌, ◌⊎◌, true, false, List, [], ◌∷◌, length, take, drop, ⊤}
use Rattle.rq_wire.specs.declared.config.Member.{Member}
use Rattle.rq_history.specs.History.{NodeId, Role as HistoryRole, Follower as Follows, Candidate as Stands, Leader as Leads, Node, History, now, Was, IsEarlier, Led, term_at, last_term}
use Rattle.rq_history.specs.Moves.{Voted, Held}
use Rattle.rq_history.specs.Laws.{IsRun}
use Rattle.rq_raft.specs.declared.role.Role.{Role}
use Rattle.rq_raft.specs.declared.role.Role.TheVariants.{Follower, Candidate, Leader}
use Rattle.rq_raft.specs.Entries.{Entries, entry_view, voters}
use Rattle.rq_raft.specs.declared.peer.Peer.{Peer}
use Rattle.rq_raft.specs.Node.{RaftNode, Message, VoteAsk, VoteSay, Append, AppendSay, Install, InstallSay, Packet, Splice, Replace, RaftTurn, one_of}

-- a node as the theory of histories sees it
abbrev pub role_of : Role → HistoryRole
role_of Follower = Follows
role_of Candidate = Stands
role_of Leader = Leads

abbrev pub history_node : {E : Type 0} → RaftNode E → Node E
history_node n = record { term = n.term; vote = n.vote; role = role_of n.role; log = n.log; commit = n.commit }

-- v has had, in this term, the first `at` entries of this log
abbrev pub IsCopied : {E : Type 0} → History E → NodeId → ℕ → ℕ → List E → Type 0
IsCopied h v term at log = (at ≡ 0) ⊎ ((at ≤ length log) × Held h v term at log)

-- ---- packets

-- a request for a vote: the sender stood in its term with this last index and term
pub record WasCandidate {E : Type 0} (entries : Entries E) (h : History E) (p : Packet E) (last_index of_term : ℕ) : Type 0 where
  pub node : Node E
  pub was : Was h p.from node
  pub stands : node.role ≡ Stands
  pub in_term : node.term ≡ p.term
  pub last : length node.log ≡ last_index
  pub of_last : last_term (entry_view entries) node.log ≡ of_term

-- an append: the sender led its term, with these entries behind this one, and had committed so far
pub record LeaderHad {E : Type 0} (entries : Entries E) (h : History E) (p : Packet E) (prev prev_term commit : ℕ) (es : List E) : Type 0 where
  pub leader : Node E
  pub led : Led h p.from p.term leader
  pub fits : prev + length es ≤ length leader.log
  pub at_prev : term_at (entry_view entries) leader.log prev ≡ prev_term
  pub are : es ≡ take (length es) (drop prev leader.log)
  pub committed : commit ≤ leader.commit

-- its reply: in its term the sender had a leader's first entries
pub record HasCopy {E : Type 0} (h : History E) (p : Packet E) (at : ℕ) : Type 0 where
  pub who : NodeId
  pub leader : Node E
  pub led : Led h who p.term leader
  pub fits : at ≤ length leader.log
  pub held : Held h p.from p.term at leader.log

-- what a packet says of its sender; a refusal says nothing
abbrev pub MessageIsTrue : {E : Type 0} → Entries E → History E → Packet E → Message E → Type 0
MessageIsTrue entries h p (VoteAsk last_index of_term) = WasCandidate entries h p last_index of_term
MessageIsTrue entries h p (VoteSay true) = Voted h p.from p.to p.term
MessageIsTrue entries h p (VoteSay false) = ⊤
MessageIsTrue entries h p (Append prev prev_term commit probe es) = LeaderHad entries h p prev prev_term commit es
MessageIsTrue entries h p (AppendSay true at probe) = (at ≡ 0) ⊎ HasCopy h p at
MessageIsTrue entries h p (AppendSay false at probe) = ⊤
MessageIsTrue entries h p (Install probe list) = LeaderHad entries h p 0 0 (length list) list
MessageIsTrue entries h p (InstallSay at probe) = (at ≡ 0) ⊎ HasCopy h p at

abbrev pub PacketsAreTrue : {E : Type 0} → Entries E → History E → List (Packet E) → Type 0
PacketsAreTrue entries h [] = ⊤
PacketsAreTrue entries h (p ∷ ps) = MessageIsTrue entries h p p.message × PacketsAreTrue entries h ps

-- ---- nodes

-- what a leader's table says of another member
pub record IsTrueOf {E : Type 0} (h : History E) (term : ℕ) (log : List E) (p : Peer) : Type 0 where
  pub copied : IsCopied h p.id term p.matched log
  pub next : p.next ≤ length log + 1

abbrev pub AllTrue : {E : Type 0} → History E → ℕ → List E → List Peer → Type 0
AllTrue h term log [] = ⊤
AllTrue h term log (p ∷ ps) = IsTrueOf h term log p × AllTrue h term log ps

-- the node i is this one now, and what it has counted is true
pub record Refines {E : Type 0} (entries : Entries E) (h : History E) (i : NodeId) (n : RaftNode E) : Type 0 where
  pub id : n.id ≡ i
  pub is : now h i ≡ history_node n
  pub done : n.applied ≤ n.commit
  pub based : n.base ≤ n.applied
  pub votes : n.role ≡ Candidate → (v : NodeId) → one_of n.votes v ≡ true → Voted h v i n.term
  pub peers : n.role ≡ Leader → AllTrue h n.term n.log n.peers
  pub first : n.role ≡ Leader → (0 < n.first_index) × (n.first_index ≤ length n.log → term_at (entry_view entries) n.log n.first_index ≡ n.term)

-- ---- turns

-- the history goes on by moves of node i alone, after which the node is this one
pub record Step {E : Type 0} (entries : Entries E) (first : List Member) (h : History E) (i : NodeId) (n : RaftNode E) : Type 0 where
  pub after : History E
  pub lawful : IsRun (entry_view entries) (voters first) after
  pub later : IsEarlier h after
  pub others : (j : NodeId) → j ≢ i → now after j ≡ now h j
  pub fits : Refines entries after i n

-- what a rule stores behind its vote makes the log that the node has afterwards
abbrev pub StoresLog : {E : Type 0} → ℕ → List E → RaftTurn E → Type 0
StoresLog {E = E} base log t =
    ((t.stored ≡ []) × (t.node.log ≡ log) × (t.node.base ≡ base))
    ⊎ (((from : ℕ) × (es : List E) × (t.stored ≡ Splice from es ∷ []) × (t.node.log ≡ take (from - 1) log ++ es) × (t.node.base ≡ base))
    ⊎ (t.stored ≡ Replace t.node.base t.node.log ∷ []))

-- A turn is a list of moves: first those of term and vote, then the rest. What it sends is true, and what it stores makes its log.
-- So a stop behind any of the things that it stores is a list of moves too.
pub record IsMoves {E : Type 0} (entries : Entries E) (first : List Member) (h : History E) (i : NodeId) (n : RaftNode E) (t : RaftTurn E) : Type 0 where
  pub mid : RaftNode E
  pub to_mid : Step entries first h i mid
  pub term : mid.term ≡ t.node.term
  pub vote : mid.vote ≡ t.node.vote
  pub log : mid.log ≡ n.log
  pub base : mid.base ≡ n.base
  pub end : Step entries first to_mid.after i t.node
  pub packets_are_true : PacketsAreTrue entries end.after t.packets
  pub stores : StoresLog n.base n.log t
