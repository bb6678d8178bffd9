-- Quorums: majorities of the voters (extended Raft paper, section 5.2; Ongaro's dissertation, section 4.1).
use Rattle.std.specs.Prelude.{◌*◌, ◌<◌, ◌≡◌, Bool, true, List, length, count_by}
use Rattle.rq_history.specs.History.{NodeId}

-- more than half of the voters are in the set, and what is said holds of each node in it
pub record Quorum (voters : List NodeId) (holds : NodeId → Type 0) : Type 0 where
  pub in_set : NodeId → Bool
  pub most : length voters < 2 * count_by in_set voters
  pub each : (v : NodeId) → in_set v ≡ true → holds v

-- any quorum of the first voters and any quorum of the second have a voter in common
abbrev pub HaveCommon : List NodeId → List NodeId → Type 0
HaveCommon vs ws = (s t : NodeId → Bool) → length vs < 2 * count_by s vs → length ws < 2 * count_by t ws → (v : NodeId) × (s v ≡ true) × (t v ≡ true)
