-- What holds of each run of the world: docs/RAFT.md, "What a run promises".
use Rattle.std.specs.Prelude.{ℕ, ◌≤◌, ◌<◌, ◌≡◌, true, Some, List, length, take, slice_get}
use Rattle.rq_wire.specs.declared.config.Member.{Member}
use Rattle.rq_history.specs.History.{NodeId, term_at, IsPrefixOf}
use Rattle.rq_raft.specs.declared.role.Role.TheVariants.{Leader}
use Rattle.rq_raft.specs.Entries.{entry_view}
use Rattle.rq_raft.specs.Node.{Append, Packet, one_of}
use Rattle.rq_raft.specs.Append.{corrected_term, corrected_entries}
use Rattle.rq_world.specs.declared.log_entry.LogEntry.{LogEntry}
use Rattle.rq_world.specs.Node.{Node, log_entries}
use Rattle.rq_world.specs.World.{Running, Event, Run, Then, world, IsPast, members, chosen}

module _ (first : List Member) where
  -- the node runs at this moment, and is this one
  abbrev pub Runs : Run → NodeId → Node → Type 0
  Runs run i n = (world first run).nodes i ≡ Running n

  pub record Leads (run : Run) (i : NodeId) (term : ℕ) (n : Node) : Type 0 where
    pub runs : Runs run i n
    pub role : n.raft.role ≡ Leader
    pub in_term : n.raft.term ≡ term

  -- nodes that lead one term, at any two moments, are one
  abbrev pub OneLeaderATerm : Type 0
  OneLeaderATerm = (run p q : Run) → IsPast first p run → IsPast first q run
      → (i j : NodeId) (term : ℕ) (n m : Node) → Leads p i term n → Leads q j term m → i ≡ j

  -- two logs, at any two moments, with an entry of one term at one index are equal up to it
  abbrev pub LogsMatch : Type 0
  LogsMatch = (run p q : Run) → IsPast first p run → IsPast first q run
      → (i j : NodeId) (n m : Node) → Runs p i n → Runs q j m → (k : ℕ) → k ≤ length n.raft.log → k ≤ length m.raft.log
      → term_at (entry_view log_entries) n.raft.log k ≡ term_at (entry_view log_entries) m.raft.log k → take k n.raft.log ≡ take k m.raft.log

  -- an append that was ever sent is its own mended packet, at each node whose term isn't above its own
  abbrev pub AppendsAgree : Type 0
  AppendsAgree = (run : Run) (i : NodeId) (n : Node) → Runs run i n → (k : ℕ) (p : Packet LogEntry) (prev prev_term commit probe : ℕ) (es : List LogEntry)
      → slice_get (world first run).sent k ≡ Some p → p.message ≡ Append prev prev_term commit probe es → n.raft.term ≤ p.term
      → (corrected_term log_entries n.raft prev prev_term ≡ prev_term) × (corrected_entries log_entries n.raft prev es ≡ es)

  -- what a node has committed is in the log of each node that leads a higher term, before or after
  abbrev pub LeadersAreComplete : Type 0
  LeadersAreComplete = (run p q : Run) → IsPast first p run → IsPast first q run
      → (i j : NodeId) (term : ℕ) (n m : Node) → Runs p i n → Leads q j term m → n.raft.term < term
      → take n.raft.commit m.raft.log ≡ take n.raft.commit n.raft.log

  -- the one log only grows ..
  abbrev pub OneLogGrows : Type 0
  OneLogGrows = (run : Run) (event : Event) → IsPrefixOf (chosen first run) (chosen first (Then run event))

  -- .. and begins with what each member has committed
  abbrev pub OneLogHolds : Type 0
  OneLogHolds = (run : Run) (i : NodeId) (n : Node) → one_of (members first) i ≡ true → Runs run i n → IsPrefixOf (take n.raft.commit n.raft.log) (chosen first run)

  -- what is applied is committed, and what is committed is in the log
  abbrev pub CommitsAreWithin : Type 0
  CommitsAreWithin = (run : Run) (i : NodeId) (n : Node) → Runs run i n → (n.raft.applied ≤ n.raft.commit) × (n.raft.commit ≤ length n.raft.log)

  pub record AreSafe : Type 0 where
    pub one_leader : OneLeaderATerm
    pub logs_match : LogsMatch
    pub appends_agree : AppendsAgree
    pub leaders_are_complete : LeadersAreComplete
    pub grows : OneLogGrows
    pub holds : OneLogHolds
    pub within : CommitsAreWithin
