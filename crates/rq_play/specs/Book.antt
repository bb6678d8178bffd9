-- The numbers of a script's asks, which of them are open, and what the world's book acknowledges.
use Rattle.std.specs.Prelude.{◌≡◌, ◌<◌, ◌+◌, ℕ, List, [], ◌∷◌, flat_map, slice_get, Some}
use Rattle.rq_history.specs.History.{NodeId}
use Rattle.rq_request.specs.declared.say.Say.{Say}
use Rattle.rq_world.specs.Asks.{times}
use Rattle.rq_world.specs.Promise.{IsAcknowledged}
use Rattle.rq_world.specs.World.{Op, Note, Asked, Answered}
use Rattle.rq_play.specs.Said.{Said, Up, Down as WentDown, Put, Rejected, Missed, Gave, Shown}

-- the asks of which this is said are numbered one by one, from behind the first of these numbers up to the second
abbrev pub AreNumbered : ℕ → List Said → ℕ → Type 0
AreNumbered last [] most = last ≡ most
AreNumbered last (Put number id op ∷ said) most = (number ≡ last + 1) × AreNumbered number said most
AreNumbered last (Rejected number status text ∷ said) most = (number ≡ last + 1) × AreNumbered number said most
AreNumbered last (Missed number id ∷ said) most = (number ≡ last + 1) × AreNumbered number said most
AreNumbered last (Gave number say place ∷ said) most = AreNumbered last said most
AreNumbered last (Up id node ∷ said) most = AreNumbered last said most
AreNumbered last (WentDown id ∷ said) most = AreNumbered last said most
AreNumbered last (Shown id state ∷ said) most = AreNumbered last said most

-- the numbers of the asks that there were, and of those that were answered
abbrev pub asked_by : Said → List ℕ
asked_by (Put number id op) = number ∷ []
asked_by (Rejected number status text) = number ∷ []
asked_by (Missed number id) = number ∷ []
asked_by (Gave number say place) = []
asked_by (Up id node) = []
asked_by (WentDown id) = []
asked_by (Shown id state) = []

abbrev pub answered_by : Said → List ℕ
answered_by (Put number id op) = []
answered_by (Rejected number status text) = number ∷ []
answered_by (Missed number id) = []
answered_by (Gave number say place) = number ∷ []
answered_by (Up id node) = []
answered_by (WentDown id) = []
answered_by (Shown id state) = []

abbrev pub all_asked : List Said → List ℕ
all_asked said = flat_map asked_by said

abbrev pub all_answered : List Said → List ℕ
all_answered said = flat_map answered_by said

-- each number was asked as often as it was answered and is among these together: so, as none is asked twice, each ask is answered or among these, and these are asks that are open
abbrev pub AreOpen : List Said → List ℕ → Type 0
AreOpen said numbers = (number : ℕ) → times number (all_asked said) ≡ times number (all_answered said) + times number numbers

-- the ask at this position is a write, which is acknowledged at that position, at this index
pub record IsAcknowledgedAt (book : List Note) (put answered index : ℕ) : Type 0 where
  pub number : ℕ
  pub id : NodeId
  pub op : Op
  pub say : Say
  pub is_put : slice_get book put ≡ Some (Asked number id op)
  pub is_answered : slice_get book answered ≡ Some (Answered number say index)
  pub behind : put < answered
  pub acknowledges : IsAcknowledged (Some op) say
