-- Small runs of three nodes, and changes that are no move in them.
use Rattle.std.specs.Prelude.{ℕ, ◌≡◌, Option, Some, None, List, [], ◌∷◌}
use Rattle.rq_history.specs.History.{NodeId, EntryView, Role, Follower, Candidate, Leader, Node, History, Begin, After, now, IsEarlier, Led}
use Rattle.rq_history.specs.Commits.{chosen}
use Rattle.rq_history.specs.Laws.{IsRun}

pub record Sample : Type 0 where
  pub term : ℕ
  pub voters : Option (List NodeId)

abbrev pub sample : EntryView Sample
sample = record { term_of = λ e. e.term; voters_of = λ e. e.voters }

-- the ids "a", "b", "c" and "d"
abbrev pub a : NodeId
a = 97 ∷ []

abbrev pub b : NodeId
b = 98 ∷ []

abbrev pub c : NodeId
c = 99 ∷ []

abbrev pub d : NodeId
d = 100 ∷ []

abbrev pub three : List NodeId
three = a ∷ b ∷ c ∷ []

-- an entry of term 1, and one that is a configuration with one voter more
abbrev pub plain : Sample
plain = record { term = 1; voters = None }

abbrev pub change : Sample
change = record { term = 1; voters = Some (a ∷ b ∷ c ∷ d ∷ []) }

abbrev pub node : ℕ → Option NodeId → Role → List Sample → ℕ → Node Sample
node term vote role log commit = record { term = term; vote = vote; role = role; log = log; commit = commit }

-- a and c stand for term 1, b votes for a, a leads
abbrev pub stood : History Sample
stood = After (After Begin a (node 1 (Some a) Candidate [] 0)) c (node 1 (Some c) Candidate [] 0)

abbrev pub elected : History Sample
elected = After (After (After stood b (node 1 None Follower [] 0)) b (node 1 (Some a) Follower [] 0)) a (node 1 (Some a) Leader [] 0)

-- a appends an entry, b takes it over
abbrev pub copied : History Sample
copied = After (After elected a (node 1 (Some a) Leader (plain ∷ []) 0)) b (node 1 (Some a) Follower (plain ∷ []) 0)

-- a commits it, b learns of it
abbrev pub committed : History Sample
committed = After (After copied a (node 1 (Some a) Leader (plain ∷ []) 1)) b (node 1 (Some a) Follower (plain ∷ []) 1)

-- a adds d to the voters
abbrev pub changed : History Sample
changed = After committed a (node 1 (Some a) Leader (plain ∷ change ∷ []) 1)

-- where b has the entry, c stands for term 2 without it
abbrev pub behind : History Sample
behind = After (After copied c (node 2 (Some c) Candidate [] 0)) b (node 2 None Follower (plain ∷ []) 0)

-- where b has the entry, b comes to lead term 2 by c's vote
abbrev pub succeeded : History Sample
succeeded =
    After (After (After (After copied b (node 2 (Some b) Candidate (plain ∷ []) 0)) c (node 2 None Follower [] 0)) c (node 2 (Some b) Follower [] 0)) b (node 2 (Some b) Leader (plain ∷ []) 0)

-- each of them is a run; in the second a leads, in the fourth one entry is committed and both know it
pub record ExamplesAreRuns : Type 0 where
  pub of_election : IsRun sample three elected
  pub of_commit : IsRun sample three committed
  pub of_change : IsRun sample three changed
  pub leads : (now elected a).role ≡ Leader
  pub first_commit : chosen copied ≡ []
  pub one_committed : chosen committed ≡ plain ∷ []
  pub learned : (now committed b).commit ≡ 1

-- c, which stood beside a and got no vote, leads term 1 in no run that goes on from there
abbrev pub VoteIsLost : Type 0
VoteIsLost = (late : History Sample) → IsRun sample three late → IsEarlier elected late → (z : Node Sample) → Led late c 1 z → ⊥

-- the run can't go on with this change
pub record IsRefused (past : History Sample) (who : NodeId) (is : Node Sample) : Type 0 where
  pub before : IsRun sample three past
  pub not_after : IsRun sample three (After past who is) → ⊥

-- b's vote in term 2 for c, whose log is older
abbrev pub OlderLogIsRefused : Type 0
OlderLogIsRefused = IsRefused behind b (node 2 (Some c) Follower (plain ∷ []) 0)

-- b's commit in term 2 of an entry of term 1 that a quorum has
abbrev pub EarlierTermIsRefused : Type 0
EarlierTermIsRefused = IsRefused succeeded b (node 2 (Some b) Leader (plain ∷ []) 1)

-- b's cut of an entry that conflicts with nothing
abbrev pub NeedlessCutIsRefused : Type 0
NeedlessCutIsRefused = IsRefused copied b (node 1 (Some a) Follower [] 0)

-- a's change of the voters before it has committed an entry of its term
abbrev pub EarlyChangeIsRefused : Type 0
EarlyChangeIsRefused = IsRefused copied a (node 1 (Some a) Leader (plain ∷ change ∷ []) 0)
