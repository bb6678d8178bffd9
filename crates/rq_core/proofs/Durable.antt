-- What is stored of a call.
use Rattle.std.proofs.Common.{◌≡◌, Bool, true, false, cond, List, ◌∷◌, refl, ap, ◌∙◌}
use Rattle.std.specs.Prelude.{not}
use Rattle.rq_log.specs.declared.moves.Moves.{Moves}
use Rattle.rq_log.specs.Views.{Gives, stored_of, is_moved}
use Rattle.rq_raft.specs.Node.{RaftNode, RaftTurn, StoredRecord, Vote, all_stored}
use Rattle.rq_core.specs.Durable.{durable_of, IsStored}

turned : {A : Type 0} (b : Bool) (x y : A) → cond (not b) x y ≡ cond b y x
turned true x y = refl
turned false x y = refl

module _ {E : Type 0} where
  pub all_is_stored : (before : RaftNode E) (t : RaftTurn E) (now : RaftNode E) (moves : Moves) → IsStored before t now moves
  all_is_stored before t now moves gives moved =
      ap (λ (b : Bool). cond b (Vote now.term now.vote ∷ stored_of now.log moves.splice) (stored_of now.log moves.splice)) moved
      ∙ (ap (λ (l : List (StoredRecord E)). cond (is_moved before now) (Vote now.term now.vote ∷ l) l) gives.stored
      ∙ (ap (λ (n : RaftNode E). cond (is_moved before n) (Vote n.term n.vote ∷ t.stored) t.stored) gives.node
      ∙ turned _ (Vote t.node.term t.node.vote ∷ t.stored) t.stored))
