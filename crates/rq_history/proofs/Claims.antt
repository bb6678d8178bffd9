-- The claims that the induction over a history carries along.
use Rattle.std.proofs.Common.{◌≡◌, ℕ, ◌-◌, ◌<◌, ◌≤◌, List, length, take}
use Rattle.std.specs.Prelude.{⊤}
use Rattle.rq_history.specs.History.{NodeId, EntryView, Node, History, Begin, After, Led, last_term}
use Rattle.rq_history.specs.Quorum.{HaveCommon}
use Rattle.rq_history.specs.Configurations.{configuration_index}
use Rattle.rq_history.specs.Moves.{Lawful}
use Rattle.rq_history.specs.Commits.{DirectCommit}

abbrev pub OneLeader : {E : Type 0} → History E → Type 0
OneLeader {E = E} h = (i j : NodeId) (term : ℕ) (x y : Node E) → Led h i term x → Led h j term y → i ≡ j

-- lawful, with at most one leader in each term
abbrev pub Sound : {E : Type 0} → EntryView E → (List E → List NodeId) → History E → Type 0
Sound view voters h = Lawful view voters h × OneLeader h

-- each leader of a later term has what a leader committed
abbrev pub CompleteAt : {E : Type 0} → EntryView E → (List E → List NodeId) → History E → Type 0
CompleteAt {E = E} view voters h = (t n u : ℕ) (j : NodeId) (l z : Node E) → DirectCommit view voters h t n l → Led h j u z → t < u → take n z.log ≡ take n l.log

abbrev pub Whole : {E : Type 0} → EntryView E → (List E → List NodeId) → History E → Type 0
Whole view voters h = Sound view voters h × CompleteAt view voters h

-- all before the last change is whole
abbrev pub Ready : {E : Type 0} → EntryView E → (List E → List NodeId) → History E → Type 0
Ready view voters Begin = ⊤
Ready view voters (After h i y) = Whole view voters h

-- of a prefix that ends with a configuration: before it was appended, a leader of its term had committed an entry of that term, and with it the configuration before
pub record Changed {E : Type 0} (view : EntryView E) (voters : List E → List NodeId) (past : History E) (prefix : List E) : Type 0 where
  pub n : ℕ
  pub leader : Node E
  pub direct : DirectCommit view voters past (last_term view prefix) n leader
  pub covers : configuration_index view (take (length prefix - 1) prefix) ≤ n
  pub short : length leader.log < length prefix
  pub same : take n leader.log ≡ take n prefix
  pub near : HaveCommon (voters (take (length prefix - 1) prefix)) (voters prefix)
