-- What is committed (extended Raft paper, sections 5.3 and 5.4.2).
use Rattle.std.specs.Prelude.{ℕ, ◌<◌, ◌≤◌, ◌≡◌, ◌⊎◌, if◌then◌else◌, nat_lt, List, [], length, take}
use Rattle.rq_history.specs.History.{NodeId, EntryView, Node, History, Begin, After, Led, term_at}
use Rattle.rq_history.specs.Quorum.{Quorum}
use Rattle.rq_history.specs.Moves.{Held}

-- a leader of this term has committed its first n entries by a quorum's copies; the last of them is of its term
pub record DirectCommit {E : Type 0} (view : EntryView E) (voters : List E → List NodeId) (past : History E) (term n : ℕ) (leader : Node E) : Type 0 where
  pub who : NodeId
  pub led : Led past who term leader
  pub some : 0 < n
  pub fits : n ≤ length leader.log
  pub own : term_at view leader.log n ≡ term
  pub reached : n ≤ leader.commit
  pub quorum : Quorum (voters leader.log) (λ v. Held past v term n leader.log)

-- what x has committed is a part of what a leader of no later term has committed directly
pub record Backing {E : Type 0} (view : EntryView E) (voters : List E → List NodeId) (past : History E) (x : Node E) : Type 0 where
  pub term : ℕ
  pub n : ℕ
  pub leader : Node E
  pub direct : DirectCommit view voters past term n leader
  pub not_later : term ≤ x.term
  pub covers : x.commit ≤ n
  pub same : take x.commit x.log ≡ take x.commit leader.log

-- the commit index is within the log, and zero or backed by a leader
pub record Backed {E : Type 0} (view : EntryView E) (voters : List E → List NodeId) (past : History E) (x : Node E) : Type 0 where
  pub fits : x.commit ≤ length x.log
  pub by_leader : (x.commit ≡ 0) ⊎ Backing view voters past x

-- the longest that any node has committed so far
abbrev pub chosen : {E : Type 0} → History E → List E
chosen Begin = []
chosen (After past who is) = if nat_lt (length (chosen past)) is.commit then take is.commit is.log else chosen past
