-- Runs of the lines of a script.
use Rattle.std.specs.Prelude.{◌≡◌, ◌≤◌, ◌⊎◌, ℕ, List, [], ◌∷◌, ◌++◌, length, flat_map, Some, None}
use Rattle.std.specs.List.Sorted.{IsPermutation, IsSorted}
use Rattle.std.specs.Ordering.{nat_cmp}
use Rattle.rq_history.specs.History.{NodeId}
use Rattle.rq_world.specs.Asks.{all_waiting}
use Rattle.rq_world.specs.World.{NodeState, Running, Down}
use Rattle.rq_play.specs.Line.{Line}
use Rattle.rq_play.specs.Said.{Said, pending_text}
use Rattle.rq_play.specs.Server.{Course}
use Rattle.rq_play.specs.Cluster.{Cluster, first_cluster, state_in, Prepared, Plan, planned, ran}
use Rattle.rq_play.specs.Reading.{IsReadIn}

-- how a line may go: what its statements are read as, and what the disks do in each of its steps
pub record Way (c : Cluster) (line : Line) : Type 0 where
  pub prepared : Prepared
  pub is_read : IsReadIn c line prepared
  pub plan : Plan
  pub stands : planned prepared c line ≡ Some plan
  pub courses : List Course

-- the line may say this and lead to that cluster
pub record Steps (c : Cluster) (line : Line) (said : List Said) (next : Cluster) : Type 0 where
  pub way : Way c line
  pub whole : length way.courses ≡ way.plan.count
  pub does : ran way.plan.step way.courses way.plan.start ≡ (next, said)

-- where the line was broken off, this cluster may have been reached: the one before it, or one behind some of its steps
pub record Reaches (c : Cluster) (line : Line) (reached : Cluster) : Type 0 where
  pub way : Way c line
  pub some : length way.courses ≤ way.plan.count
  pub is : reached ≡ (ran way.plan.step way.courses way.plan.start).0

abbrev pub MayReach : Cluster → Line → Cluster → Type 0
MayReach c line reached = (reached ≡ c) ⊎ Reaches c line reached

-- the line can't stand here, whatever its statements are read as
abbrev pub IsOutside : Cluster → Line → Type 0
IsOutside c line = (prepared : Prepared) → planned prepared c line ≡ None

-- the lines, one after the other, may say this and lead from the first cluster, with these words to come, to that one
pub data Runs (words : List ℕ) : List Line → List Said → Cluster → Type 0 where
  start : Runs words [] [] (first_cluster words)
  line : {lines : List Line} {said : List Said} {c : Cluster} (l : Line) (more : List Said) (next : Cluster)
      → Runs words lines said c → Steps c l more next → Runs words (lines ++ l ∷ []) (said ++ more) next

-- ---- the end

abbrev pub waiting_at : NodeState → List ℕ
waiting_at (Running n) = all_waiting n
waiting_at (Down kept rest) = []

-- the asks of these servers that have no answer
abbrev pub unanswered_at : Cluster → List NodeId → List ℕ
unanswered_at c ids = flat_map (λ i. (c.extras i).lost ++ waiting_at (state_in c i)) ids

abbrev pub unanswered : Cluster → List ℕ
unanswered c = unanswered_at c c.servers

-- what is written at the end of a script: they, in rising order
pub record Ends (c : Cluster) (text : List ℕ) : Type 0 where
  pub numbers : List ℕ
  pub are_all : IsPermutation (unanswered c) numbers
  pub rise : IsSorted nat_cmp numbers
  pub is : text ≡ flat_map pending_text numbers
