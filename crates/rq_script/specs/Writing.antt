-- How what a line writes and what is noted of it belong together. docs/RAFT.md, "What a run promises".
use Rattle.std.specs.Prelude.{◌≡◌, ◌⊎◌, ℕ, List, [], ◌∷◌, slice_get, Some}
use Rattle.rq_statement.specs.declared.item.Item.{Item}
use Rattle.rq_statement.specs.declared.res.Res.{Res}
use Rattle.rq_request.specs.declared.say.Say.TheVariants.{Results}
use Rattle.rq_request.specs.declared.say.Answer.{Answer}
use Rattle.rq_engine.specs.Fold.{answer}
use Rattle.rq_node.specs.Node.{Node}
use Rattle.rq_script.specs.ScriptText.{up_text, down_text, answers_text, show_text, show_down_text}
use Rattle.rq_script.specs.Cluster.{Cluster}
use Rattle.rq_script.specs.History.{Read, Note, Asked, Answered, node_in}
use Rattle.rq_script.specs.Promise.{op_of}

-- the answers that these notes tell, in order
unfoldable pub answers_in : List Note → List Answer
answers_in [] = []
answers_in (Asked number op ∷ notes) = answers_in notes
answers_in (Answered number say place ∷ notes) = record { number = number; say = say } ∷ answers_in notes

-- a text that tells how a node stands, and no answer
pub data IsState : List ℕ → Type 0 where
  is_up : (n : Node) → IsState (up_text n)
  is_down : (id : List ℕ) → IsState (down_text id)
  is_shown : (n : Node) → IsState (show_text n)
  is_shown_down : (id : List ℕ) → IsState (show_down_text id)

-- what a line writes is the answers noted of it; or it tells how a node stands, and no answer is noted
abbrev pub Tells : List ℕ → List Note → Type 0
Tells text notes = (text ≡ answers_text (answers_in notes)) ⊎ ((answers_in notes ≡ []) × IsState text)

-- these results are those of the queries on all that a node of the cluster had applied, which is so many entries
pub record SeesApplied (c : Cluster) (items : List Item) (results : List Res) (place : ℕ) : Type 0 where
  pub node : Node
  pub runs : node_in c ≡ Some node
  pub sees : place ≡ node.applied
  pub outcome : results ≡ answer node.replica items

-- each read that is answered with results among these notes saw all that a node of the cluster had applied
abbrev pub ReadsSeeApplied : Cluster → List Note → Type 0
ReadsSeeApplied c notes = (k number : ℕ) (results : List Res) (place : ℕ) (items : List Item)
    → slice_get notes k ≡ Some (Answered number (Results results) place) → op_of notes number ≡ Some (Read items) → SeesApplied c items results place
