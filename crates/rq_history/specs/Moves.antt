-- The nine moves of a node: the rules of Figure 2 of the extended Raft paper, sections 5.2 to 5.4, without packets.
-- A move may rest on what another node was at any earlier moment, which is all that a network that loses, repeats, reorders and delays can carry.
use Rattle.std.specs.Prelude.{ℕ, ◌+◌, ◌<◌, ◌≤◌, ◌≡◌, ◌≢◌, ◌⊎◌, true, Some, None, List, [], ◌∷◌, ◌++◌, length, take, ⊤}
use Rattle.rq_history.specs.History.{NodeId, EntryView, Follower, Candidate, Leader, Node, History, Begin, After, now, Was, Led, term_at, last_term}
use Rattle.rq_history.specs.Quorum.{Quorum}
use Rattle.rq_history.specs.Configurations.{is_given, MayChange}

-- the candidate's log is at least as new as the voter's (section 5.4.1)
abbrev pub IsUpToDate : {E : Type 0} → EntryView E → List E → List E → Type 0
IsUpToDate view candidate voter = (last_term view voter < last_term view candidate) ⊎ ((last_term view voter ≡ last_term view candidate) × (length voter ≤ length candidate))

-- v has voted for c in this term
pub record Voted {E : Type 0} (past : History E) (v c : NodeId) (term : ℕ) : Type 0 where
  pub ballot : Node E
  pub was : Was past v ballot
  pub in_term : ballot.term ≡ term
  pub for_c : ballot.vote ≡ Some c

-- v has had, in this term, the first n entries of this log
pub record Held {E : Type 0} (past : History E) (v : NodeId) (term n : ℕ) (log : List E) : Type 0 where
  pub holder : Node E
  pub was : Was past v holder
  pub in_term : holder.term ≡ term
  pub same : take n holder.log ≡ take n log

-- what a node may do: x before, y after; voters are those that the node's log tells
pub data Move {E : Type 0} (view : EntryView E) (voters : List E → List NodeId) (past : History E) (i : NodeId) (x y : Node E) : Type 0 where
  -- a higher term is seen (Figure 2, All Servers; section 5.1)
  Rise : x.term < y.term → y.vote ≡ None → y.role ≡ Follower → y.log ≡ x.log → y.commit ≡ x.commit → Move view voters past i x y
  -- a role is left, also by a stop, which may take the commit index back
  Fall : y.term ≡ x.term → y.vote ≡ x.vote → y.role ≡ Follower → y.log ≡ x.log → y.commit ≤ x.commit → Move view voters past i x y
  -- an election is begun, with a vote for itself (section 5.2)
  Stand : y.term ≡ x.term + 1 → y.vote ≡ Some i → y.role ≡ Candidate → y.log ≡ x.log → y.commit ≡ x.commit → Move view voters past i x y
  -- a vote for c, which stood as z in this term with a log that is at least as new (RequestVote, receiver 2; section 5.4.1)
  Grant : (c : NodeId) (z : Node E) → Was past c z → z.role ≡ Candidate → z.term ≡ x.term → IsUpToDate view z.log x.log
      → x.vote ≡ None → y.term ≡ x.term → y.vote ≡ Some c → y.role ≡ x.role → y.log ≡ x.log → y.commit ≡ x.commit → Move view voters past i x y
  -- votes from a quorum (section 5.2)
  Lead : x.role ≡ Candidate → Quorum (voters x.log) (λ v. Voted past v i x.term)
      → y.term ≡ x.term → y.vote ≡ x.vote → y.role ≡ Leader → y.log ≡ x.log → y.commit ≡ x.commit → Move view voters past i x y
  -- a leader appends an entry of its term (section 5.3), a configuration only where it may (dissertation, section 4.1)
  Extend : (e : E) → x.role ≡ Leader → view.term_of e ≡ x.term
      → y.term ≡ x.term → y.vote ≡ x.vote → y.role ≡ Leader → y.log ≡ x.log ++ e ∷ [] → y.commit ≡ x.commit
      → (is_given (view.voters_of e) ≡ true → MayChange view voters x e) → Move view voters past i x y
  -- the first n entries of a leader of this term are taken over, where they are not there yet (AppendEntries, receiver 2 to 4; a snapshot, section 7)
  Accept : (j : NodeId) (z : Node E) (n : ℕ) → Led past j x.term z → n ≤ length z.log → take n x.log ≢ take n z.log → x.role ≡ Follower
      → y.term ≡ x.term → y.vote ≡ x.vote → y.role ≡ Follower → y.log ≡ take n z.log → y.commit ≡ x.commit → Move view voters past i x y
  -- the commit index of a leader of this term is followed as far as the logs are the same (AppendEntries, receiver 5)
  Learn : (j : NodeId) (z : Node E) → Led past j x.term z → y.commit ≤ z.commit → y.commit ≤ length x.log → take y.commit x.log ≡ take y.commit z.log → x.role ≡ Follower
      → y.term ≡ x.term → y.vote ≡ x.vote → y.role ≡ Follower → y.log ≡ x.log → Move view voters past i x y
  -- a leader commits up to an entry of its own term that a quorum has (sections 5.3 and 5.4.2)
  Commit : x.role ≡ Leader → x.commit ≤ y.commit → y.commit ≤ length x.log → term_at view x.log y.commit ≡ x.term → Quorum (voters x.log) (λ v. Held past v x.term y.commit x.log)
      → y.term ≡ x.term → y.vote ≡ x.vote → y.role ≡ Leader → y.log ≡ x.log → Move view voters past i x y

-- each change is a move
abbrev pub Lawful : {E : Type 0} → EntryView E → (List E → List NodeId) → History E → Type 0
Lawful view voters Begin = ⊤
Lawful view voters (After past i y) = Lawful view voters past × Move view voters past i (now past i) y
