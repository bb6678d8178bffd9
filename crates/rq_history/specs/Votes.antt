-- What a vote says of the voter's log (extended Raft paper, section 5.4.1 and the proof of Leader Completeness in 5.4.3).
use Rattle.std.specs.Prelude.{ℕ, ◌+◌, ◌<◌, ◌≤◌, ◌≡◌, ◌≢◌, ◌⊎◌, List, length, take}
use Rattle.rq_history.specs.History.{NodeId, EntryView, Candidate, Leader, Node, History, Was, term_at, IsPrefixOf}
use Rattle.rq_history.specs.Quorum.{Quorum}
use Rattle.rq_history.specs.Moves.{IsUpToDate, Voted}

-- a leader of a term above low and below high had other first n entries
pub record Lost {E : Type 0} (past : History E) (low high n : ℕ) (log : List E) : Type 0 where
  pub who : NodeId
  pub leader : Node E
  pub was : Was past who leader
  pub leads : leader.role ≡ Leader
  pub above : low < leader.term
  pub under : leader.term < high
  pub lacks : take n leader.log ≢ take n log

-- what v ever had before this term, up to an entry of its term then, is in this log, or a leader of a term between had others
abbrev pub Kept : {E : Type 0} → EntryView E → History E → NodeId → ℕ → ℕ → List E → Type 0
Kept {E = E} view h v term bound log =
    (z : Node E) (n : ℕ) → Was h v z → z.term < term → 0 < n → n ≤ length z.log → term_at view z.log n ≡ z.term → (take n log ≡ take n z.log) ⊎ Lost h z.term bound n z.log

-- v voted in this term for c, which stood with this log: v's own log was then no newer, and had kept what v had
pub record Ballot {E : Type 0} (view : EntryView E) (past : History E) (v c : NodeId) (term bound : ℕ) (candidate : List E) : Type 0 where
  pub voted : Voted past v c term
  pub voter : Node E
  pub was : Was past v voter
  pub newer : IsUpToDate view candidate voter.log
  pub kept : Kept view past v term bound voter.log

-- c stood in this term, and v's ballot is for the log with which it stood
pub record Cast {E : Type 0} (view : EntryView E) (past : History E) (v c : NodeId) (term : ℕ) : Type 0 where
  pub stood : Node E
  pub was : Was past c stood
  pub stands : stood.role ≡ Candidate
  pub in_term : stood.term ≡ term
  pub ballot : Ballot view past v c term (term + 1) stood.log

-- i came to lead this term by a quorum's ballots for the log with which it stood, and this log begins with that one
pub record Election {E : Type 0} (view : EntryView E) (voters : List E → List NodeId) (past : History E) (i : NodeId) (term : ℕ) (log : List E) : Type 0 where
  pub stood : Node E
  pub was : Was past i stood
  pub stands : stood.role ≡ Candidate
  pub in_term : stood.term ≡ term
  pub quorum : Quorum (voters stood.log) (λ v. Ballot view past v i term term stood.log)
  pub prefix : IsPrefixOf stood.log log
