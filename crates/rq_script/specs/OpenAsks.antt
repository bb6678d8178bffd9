-- Which asks are open: put, and not answered yet. docs/RAFT.md, "What a run promises".
use Rattle.std.specs.Prelude.{◌≡◌, ℕ, List, [], ◌∷◌, ◌++◌}
use Rattle.rq_script.specs.History.{Note, Asked, Answered}

-- these notes lead from these open asks to those: an ask is open from then on, behind the others, and an answer closes one that is open
abbrev pub Opens : List ℕ → List Note → List ℕ → Type 0
Opens before [] after = before ≡ after
Opens before (Asked number op ∷ notes) after = Opens (before ++ number ∷ []) notes after
Opens before (Answered number say place ∷ notes) after = (prefix rest : List ℕ) × (before ≡ prefix ++ number ∷ rest) × Opens (prefix ++ rest) notes after
