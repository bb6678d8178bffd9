-- Under one configuration a lawful history has one leader in a term.
use Rattle.std.proofs.Common.{List}
use Rattle.rq_history.specs.History.{NodeId, EntryView, History}
use Rattle.rq_history.specs.Moves.{Lawful}
use Rattle.rq_history.specs.Quorum.{HaveCommon}
use Rattle.rq_history.proofs.Claims.{Sound, Whole}
use Rattle.rq_history.proofs.Votes.{one_leader}
use Rattle.rq_history.proofs.Complete.{complete}

module _ {E : Type 0} (view : EntryView E) where
  module _ (voters : List E → List NodeId) where
    pub sound : (h : History E) → ((a b : List E) → HaveCommon (voters a) (voters b)) → Lawful view voters h → Sound view voters h
    sound h meet l = (l, one_leader view voters h meet l)

    pub whole : (h : History E) → ((a b : List E) → HaveCommon (voters a) (voters b)) → Lawful view voters h → Whole view voters h
    whole h meet l = (sound h meet l, complete view voters h (sound h meet l) meet)
