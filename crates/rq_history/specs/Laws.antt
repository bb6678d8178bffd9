-- The laws of a history, to be held against Figure 3 of the extended Raft paper: whatever the nodes did, move by move, this holds of it.
use Rattle.std.specs.Prelude.{ℕ, ◌<◌, ◌≤◌, ◌≡◌, ◌≢◌, ◌⊎◌, Some, List, [], ◌∷◌, ◌++◌, length, take}
use Rattle.rq_history.specs.History.{NodeId, EntryView, Candidate, Leader, Node, History, After, now, Was, WasBefore, IsEarlier, Led, term_at, IsPrefixOf, Origin}
use Rattle.rq_history.specs.Quorum.{Quorum, HaveCommon}
use Rattle.rq_history.specs.Configurations.{voters_or, newest_voters}
use Rattle.rq_history.specs.Moves.{Voted, Lawful}
use Rattle.rq_history.specs.Votes.{Cast, Election}
use Rattle.rq_history.specs.Commits.{DirectCommit, Backed, chosen}

-- the nodes began with these voters, and each change was a move
abbrev pub IsRun : {E : Type 0} → EntryView E → List NodeId → History E → Type 0
IsRun view first h = Lawful view (newest_voters view first) h

-- Election Safety: whoever led one term, at any two moments, is one node
abbrev pub OneLeaderATerm : {E : Type 0} → EntryView E → Type 0
OneLeaderATerm {E = E} view = (first : List NodeId) (h : History E) → IsRun view first h
    → (i j : NodeId) (term : ℕ) (x y : Node E) → Led h i term x → Led h j term y → i ≡ j

-- a node votes for one candidate in a term
abbrev pub OneVoteATerm : {E : Type 0} → EntryView E → Type 0
OneVoteATerm {E = E} view = (first : List NodeId) (h : History E) → IsRun view first h
    → (v c d : NodeId) (term : ℕ) → Voted h v c term → Voted h v d term → c ≡ d

-- a node's term never falls, and in one term a vote that is given stays
abbrev pub TimeGoesOn : {E : Type 0} → EntryView E → Type 0
TimeGoesOn {E = E} view = (first : List NodeId) (h : History E) → IsRun view first h
    → (i : NodeId) (a b : Node E) → WasBefore h i a b → (a.term ≤ b.term) × ((c : NodeId) → a.term ≡ b.term → a.vote ≡ Some c → b.vote ≡ Some c)

-- Log Matching: two logs, at any two moments, with an entry of one term at one index are equal up to it
abbrev pub LogsMatch : {E : Type 0} → EntryView E → Type 0
LogsMatch {E = E} view = (first : List NodeId) (h : History E) → IsRun view first h
    → (i j : NodeId) (x y : Node E) → Was h i x → Was h j y
    → (n : ℕ) → n ≤ length x.log → n ≤ length y.log → term_at view x.log n ≡ term_at view y.log n → take n x.log ≡ take n y.log

-- each entry of each log was in the log of a leader of its term, with all that stands before it
abbrev pub EntriesComeFromLeaders : {E : Type 0} → EntryView E → Type 0
EntriesComeFromLeaders {E = E} view = (first : List NodeId) (h : History E) → IsRun view first h
    → (i : NodeId) (x : Node E) → Was h i x → (n : ℕ) → 0 < n → n ≤ length x.log → Origin view h x.log n

-- terms never fall along a log
abbrev pub TermsRise : {E : Type 0} → EntryView E → Type 0
TermsRise {E = E} view = (first : List NodeId) (h : History E) → IsRun view first h
    → (i : NodeId) (x : Node E) → Was h i x → (m n : ℕ) → m ≤ n → n ≤ length x.log → term_at view x.log m ≤ term_at view x.log n

-- no entry is of a term above its node's
abbrev pub TermsAreReached : {E : Type 0} → EntryView E → Type 0
TermsAreReached {E = E} view = (first : List NodeId) (h : History E) → IsRun view first h
    → (i : NodeId) (x : Node E) → Was h i x → (n : ℕ) → term_at view x.log n ≤ x.term

-- Leader Append-Only: while a node leads, its log and its commit index only grow
abbrev pub LeadersGrow : {E : Type 0} → EntryView E → Type 0
LeadersGrow {E = E} view = (first : List NodeId) (h : History E) → IsRun view first h
    → (i : NodeId) (a b : Node E) → WasBefore h i a b → a.role ≡ Leader → b.role ≡ Leader → a.term ≡ b.term → IsPrefixOf a.log b.log × (a.commit ≤ b.commit)

-- who has led a term is not its candidate afterwards
abbrev pub LeadersDontStandAgain : {E : Type 0} → EntryView E → Type 0
LeadersDontStandAgain {E = E} view = (first : List NodeId) (h : History E) → IsRun view first h
    → (i : NodeId) (a b : Node E) → WasBefore h i a b → a.role ≡ Leader → a.term ≡ b.term → b.role ≢ Candidate

-- a vote is for a candidate whose log was no older than the voter's, and the voter had then kept what it ever had, or a leader of a term between had other entries
abbrev pub VotesTell : {E : Type 0} → EntryView E → Type 0
VotesTell {E = E} view = (first : List NodeId) (h : History E) → IsRun view first h
    → (v c : NodeId) (term : ℕ) → Voted h v c term → Cast view h v c term

-- who leads a term stood in it, and a quorum of the voters in the log with which it stood voted for that log
abbrev pub LeadersAreElected : {E : Type 0} → EntryView E → Type 0
LeadersAreElected {E = E} view = (first : List NodeId) (h : History E) → IsRun view first h
    → (i : NodeId) (term : ℕ) (x : Node E) → Led h i term x → Election view (newest_voters view first) h i term x.log

-- Leader Completeness: what was committed directly in a term is in the log of each leader of a higher term, before or after
abbrev pub LeadersAreComplete : {E : Type 0} → EntryView E → Type 0
LeadersAreComplete {E = E} view = (first : List NodeId) (h : History E) → IsRun view first h
    → (t n u : ℕ) (j : NodeId) (l z : Node E) → DirectCommit view (newest_voters view first) h t n l → Led h j u z → t < u → take n z.log ≡ take n l.log

-- the commit index is within the log, and what is committed a leader of no later term has committed directly
abbrev pub CommitsAreBacked : {E : Type 0} → EntryView E → Type 0
CommitsAreBacked {E = E} view = (first : List NodeId) (h : History E) → IsRun view first h
    → (i : NodeId) (x : Node E) → Was h i x → Backed view (newest_voters view first) h x

-- what a node has committed in a term is in the log of each leader of a higher term, before or after
abbrev pub CommittedStays : {E : Type 0} → EntryView E → Type 0
CommittedStays {E = E} view = (first : List NodeId) (h : History E) → IsRun view first h
    → (i j : NodeId) (x z : Node E) (u : ℕ) → Was h i x → Led h j u z → x.term < u → take x.commit z.log ≡ take x.commit x.log

-- a leader of a term that is not below a node's agrees with what the node has committed, as far as its log goes
abbrev pub LeadersAgree : {E : Type 0} → EntryView E → Type 0
LeadersAgree {E = E} view = (first : List NodeId) (h : History E) → IsRun view first h
    → (i j : NodeId) (x z : Node E) (u n : ℕ) → Was h i x → Led h j u z → x.term ≤ u → n ≤ x.commit → n ≤ length z.log → take n z.log ≡ take n x.log

-- State Machine Safety: of what any two nodes have committed, at any two moments, the shorter is a prefix of the longer
abbrev pub CommittedPrefixesAgree : {E : Type 0} → EntryView E → Type 0
CommittedPrefixesAgree {E = E} view = (first : List NodeId) (h : History E) → IsRun view first h
    → (i j : NodeId) (x y : Node E) → Was h i x → Was h j y → x.commit ≤ y.commit → IsPrefixOf (take x.commit x.log) (take y.commit y.log)

-- the longest that was committed so far only grows
abbrev pub ChosenGrows : {E : Type 0} → EntryView E → Type 0
ChosenGrows {E = E} view = (first : List NodeId) (h : History E) (k : NodeId) (y : Node E) → IsRun view first (After h k y) → IsPrefixOf (chosen h) (chosen (After h k y))

-- it begins with what each node has committed at any moment
abbrev pub ChosenHolds : {E : Type 0} → EntryView E → Type 0
ChosenHolds {E = E} view = (first : List NodeId) (h : History E) → IsRun view first h
    → (i : NodeId) (x : Node E) → Was h i x → IsPrefixOf (take x.commit x.log) (chosen h)

-- it is what some node had committed
abbrev pub ChosenWasCommitted : (E : Type 0) → Type 0
ChosenWasCommitted E = (h : History E) → (i : NodeId) × (x : Node E) × Was h i x × (chosen h ≡ take x.commit x.log)

-- a quorum of i's voters had, up to the earlier moment, seen no term above this one; an answer of this term that is made after that moment tells it of its sender (dissertation, section 6.4)
abbrev pub IsConfirmed : {E : Type 0} → EntryView E → List NodeId → History E → History E → NodeId → ℕ → Type 0
IsConfirmed {E = E} view first early late i term = Quorum (newest_voters view first (now late i).log) (λ v. (z : Node E) → Was early v z → z.term ≤ term)

-- i leads the term at both moments
abbrev pub LeadsOn : {E : Type 0} → History E → History E → NodeId → ℕ → Type 0
LeadsOn early late i term = ((now early i).role ≡ Leader) × ((now early i).term ≡ term) × ((now late i).role ≡ Leader) × ((now late i).term ≡ term)

-- Reads: where a quorum confirms a leader after a moment, each commit index that any node had up to that moment was at most this leader's own then,
-- or below `from`, an index at which the leader's log has an entry of its own term, or ends before
abbrev pub LeadersCover : {E : Type 0} → EntryView E → Type 0
LeadersCover {E = E} view = (first : List NodeId) (early late : History E) → IsRun view first early → IsRun view first late → IsEarlier early late
    → (i : NodeId) (term : ℕ) → LeadsOn early late i term → IsConfirmed view first early late i term
    → (from : ℕ) → 0 < from → (from ≤ length (now early i).log → term_at view (now early i).log from ≡ term)
    → (j : NodeId) (x : Node E) → Was early j x → (x.commit < from) ⊎ (x.commit ≤ (now early i).commit)

-- Reads through the log: an entry of a leader's term that stands behind its whole log at a moment is, once any node has committed it, behind all that was committed up to that moment
abbrev pub LaterEntriesCover : {E : Type 0} → EntryView E → Type 0
LaterEntriesCover {E = E} view = (first : List NodeId) (early late : History E) → IsRun view first early → IsRun view first late → IsEarlier early late
    → (i : NodeId) (term : ℕ) → (now early i).role ≡ Leader → (now early i).term ≡ term
    → (k : NodeId) (y : Node E) (n : ℕ) → Was late k y → n ≤ y.commit → term_at view y.log n ≡ term → length (now early i).log < n
    → (j : NodeId) (x : Node E) → Was early j x → x.commit < n

-- a configuration with a voter more or less: its quorums meet those of the other
abbrev pub NeighboursMeet : Type 0
NeighboursMeet = (before after : List NodeId) (v : NodeId) → HaveCommon (before ++ after) (before ++ v ∷ after) × HaveCommon (before ++ v ∷ after) (before ++ after)

-- a configuration counts from its append on, and no other entry changes the voters
abbrev pub ConfigurationsCountFromAppend : {E : Type 0} → EntryView E → Type 0
ConfigurationsCountFromAppend {E = E} view = (first : List NodeId) (log : List E) (e : E)
    → newest_voters view first (log ++ e ∷ []) ≡ voters_or (newest_voters view first log) (view.voters_of e)

-- of the configurations no more is used than that quorums meet: where any two do, whatever the log tells of its voters, there is one leader a term, and leaders are complete
abbrev pub MeetingQuorumsSuffice : {E : Type 0} → EntryView E → Type 0
MeetingQuorumsSuffice {E = E} view = (voters : List E → List NodeId) → ((a b : List E) → HaveCommon (voters a) (voters b)) → (h : History E) → Lawful view voters h
    → ((i j : NodeId) (term : ℕ) (x y : Node E) → Led h i term x → Led h j term y → i ≡ j)
    × ((t n u : ℕ) (j : NodeId) (l z : Node E) → DirectCommit view voters h t n l → Led h j u z → t < u → take n z.log ≡ take n l.log)

-- what a node is now it was at a moment, and of two moments of a node one is not after the other
abbrev pub MomentsAreOrdered : (E : Type 0) → Type 0
MomentsAreOrdered E = (h : History E) (i : NodeId)
    → Was h i (now h i)
    × ((a b : Node E) → Was h i a → Was h i b → WasBefore h i a b ⊎ WasBefore h i b a)
    × ((a : Node E) → Was h i a → WasBefore h i a (now h i))

-- a change changes one node
abbrev pub ChangesAreLocal : (E : Type 0) → Type 0
ChangesAreLocal E = (h : History E) (k i : NodeId) (y : Node E) → ((i ≡ k) × (now (After h k y) i ≡ y)) ⊎ ((i ≢ k) × (now (After h k y) i ≡ now h i))
