-- What the rules of a node owe to the theory of histories: each turn is a list of moves, and each packet is true.
use Rattle.std.specs.Prelude.{ℕ, ◌≤◌, ◌<◌, ◌≡◌, ◌⊎◌, true, List, [], ◌∷◌, ◌++◌, length, take}
use Rattle.rq_wire.specs.declared.config.Member.{Member}
use Rattle.rq_history.specs.History.{NodeId, History, now, IsEarlier}
use Rattle.rq_history.specs.Configurations.{is_given, newest_voters, MayChange}
use Rattle.rq_history.specs.Laws.{IsRun}
use Rattle.rq_raft.specs.declared.role.Role.TheVariants.{Follower, Leader}
use Rattle.rq_raft.specs.Entries.{Entries, entry_view, voters}
use Rattle.rq_raft.specs.Node.{RaftNode, Message, VoteAsk, VoteSay, Append, AppendSay, Install, InstallSay, Packet, Persistent, persistent_after, RaftTurn, unchanged, all_stored, started}
use Rattle.rq_raft.specs.Lead.{propose, beat}
use Rattle.rq_raft.specs.Vote.{elect}
use Rattle.rq_raft.specs.Append.{corrected_term, corrected_entries}
use Rattle.rq_raft.specs.Deliver.{receive, applied_next}
use Rattle.rq_raft.specs.Install.{compact}
use Rattle.rq_raft.specs.Truth.{history_node, MessageIsTrue, PacketsAreTrue, Refines, Step, IsMoves}

module _ {E : Type 0} (entries : Entries E) (first : List Member) where
  -- each turn of a node that fits a history is a list of moves, by which the history goes on
  abbrev pub Turns : (RaftNode E → RaftTurn E) → Type 0
  Turns rule = (h : History E) (i : NodeId) (n : RaftNode E) → IsRun (entry_view entries) (voters first) h → Refines entries h i n → IsMoves entries first h i n (rule n)

  -- a packet that is true is received by moves, whenever it comes
  abbrev pub PacketsAreReceived : Type 0
  PacketsAreReceived = (h : History E) (i : NodeId) (n : RaftNode E) (moment : ℕ) (p : Packet E) → IsRun (entry_view entries) (voters first) h → Refines entries h i n
      → p.to ≡ n.id → MessageIsTrue entries h p p.message → IsMoves entries first h i n (receive entries first n moment p)

  -- an entry of the node's term is proposed by moves; a configuration only where it may be appended
  abbrev pub EntriesAreProposed : Type 0
  EntriesAreProposed = (h : History E) (i : NodeId) (n : RaftNode E) (e : E) → IsRun (entry_view entries) (voters first) h → Refines entries h i n → entries.term_of e ≡ n.term
      → (is_given ((entry_view entries).voters_of e) ≡ true → MayChange (entry_view entries) (newest_voters (entry_view entries) (voters first)) (history_node n) e)
      → IsMoves entries first h i n (propose entries first n e)

  -- a stop behind the first k things that a turn stores is moves too; a boot is none
  abbrev pub StopsAreMoves : Type 0
  StopsAreMoves = (h : History E) (i : NodeId) (n : RaftNode E) (t : RaftTurn E) (boot k : ℕ) → IsRun (entry_view entries) (voters first) h → Refines entries h i n → IsMoves entries first h i n t
      → Step entries first h i (started i (persistent_after (record { term = n.term; vote = n.vote; boot = boot; base = n.base; log = n.log }) (take k (all_stored n t))))

  -- a node that was started and starts again, whatever else it keeps, doesn't move
  abbrev pub StartsAreMoves : Type 0
  StartsAreMoves = (h : History E) (i : NodeId) (kept : Persistent E) → Refines entries h i (started i kept) → (boot : ℕ) → Refines entries h i (started i (record kept { boot = boot }))

  -- what is true stays true, and so does what fits, until its node moves
  abbrev pub TruthStays : Type 0
  TruthStays = (early late : History E) → IsEarlier early late
      → ((ps : List (Packet E)) → PacketsAreTrue entries early ps → PacketsAreTrue entries late ps)
      × ((i : NodeId) (n : RaftNode E) → now late i ≡ now early i → Refines entries early i n → Refines entries late i n)

  -- an append that is true is its own mended packet, at each node whose term isn't above its own
  abbrev pub AppendsAgree : Type 0
  AppendsAgree = (h : History E) (i : NodeId) (n : RaftNode E) (p : Packet E) (prev prev_term commit probe : ℕ) (es : List E) → IsRun (entry_view entries) (voters first) h → Refines entries h i n
      → MessageIsTrue entries h p (Append prev prev_term commit probe es) → n.term ≤ p.term
      → (corrected_term entries n prev prev_term ≡ prev_term) × (corrected_entries entries n prev es ≡ es)

  -- a turn applies nothing, and a node that goes on to lead leads the same term with the same log
  abbrev pub LeadsOn : RaftNode E → RaftTurn E → Type 0
  LeadsOn n t = (t.node.applied ≡ n.applied) × (n.role ≡ Leader → t.node.role ≡ Leader → (t.node.term ≡ n.term) × (t.node.log ≡ n.log))

  -- the packet was a snapshot beyond the node's commit index, which the node now has
  abbrev pub Installed : RaftNode E → Message E → RaftTurn E → Type 0
  Installed n (VoteAsk last_index last_term) t = ⊥
  Installed n (VoteSay granted) t = ⊥
  Installed n (Append prev prev_term commit probe es) t = ⊥
  Installed n (AppendSay ok at probe) t = ⊥
  Installed n (Install probe list) t = (n.commit < length list) × (t.node.applied ≡ length list) × (take (length list) t.node.log ≡ list) × (t.node.role ≡ Follower)
  Installed n (InstallSay at probe) t = ⊥

  -- a packet applies nothing, but for a snapshot; a node that goes on to lead leads the same term with the same log
  abbrev pub ReceivesOn : RaftNode E → Message E → RaftTurn E → Type 0
  ReceivesOn n m t = ((t.node.applied ≡ n.applied) ⊎ Installed n m t) × (n.role ≡ Leader → t.node.role ≡ Leader → (t.node.term ≡ n.term) × (t.node.log ≡ n.log))

  -- a proposal at a leader appends the entry, and applies nothing
  abbrev pub Appends : RaftNode E → E → RaftTurn E → Type 0
  Appends n e t = (t.node.applied ≡ n.applied) × (t.node.role ≡ Leader) × (t.node.term ≡ n.term) × (t.node.log ≡ n.log ++ e ∷ [])

  pub record LeadOn : Type 0 where
    pub elects : (n : RaftNode E) → LeadsOn n (elect entries first n)
    pub beats : (n : RaftNode E) → LeadsOn n (beat entries first n)
    pub receives : (n : RaftNode E) (moment : ℕ) (p : Packet E) → ReceivesOn n p.message (receive entries first n moment p)
    pub proposes : (n : RaftNode E) (e : E) → n.role ≡ Leader → Appends n e (propose entries first n e)

  pub record AreMoves : Type 0 where
    pub elects : Turns (elect entries first)
    pub beats : Turns (beat entries first)
    pub applies : Turns (λ n. unchanged (applied_next n))
    pub idles : Turns unchanged
    pub compacts : Turns compact
    pub proposes : EntriesAreProposed
    pub receives : PacketsAreReceived
    pub stops : StopsAreMoves
    pub starts : StartsAreMoves
    pub stays : TruthStays
    pub agrees : AppendsAgree
